pub mod Counts
pub mod Kept
pub mod Migration
pub mod Planned
pub mod Stays
pub mod Tidied
pub mod Writes
