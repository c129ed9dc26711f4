pub mod Space
pub mod Chunks
pub mod Differing
pub mod Sectors
