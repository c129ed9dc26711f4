pub mod Layout
pub mod Faults
pub mod Loading
pub mod Storing
pub mod Front
