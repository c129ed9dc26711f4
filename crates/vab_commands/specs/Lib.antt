pub mod Controls
pub mod Copies
pub mod Touched
pub mod Writes
