pub mod Draws
pub mod Blocks
pub mod Images
pub mod Sets
