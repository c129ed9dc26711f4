pub mod Hexadecimal
pub mod Variables
pub mod Planned
