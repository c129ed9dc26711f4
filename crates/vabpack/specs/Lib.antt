pub mod Folders
pub mod Packed
