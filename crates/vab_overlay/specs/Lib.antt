pub mod Data
pub mod Entry
pub mod Faults
pub mod Overlaid
