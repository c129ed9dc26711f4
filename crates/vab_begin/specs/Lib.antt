pub mod Kept
pub mod Target
pub mod Writes
