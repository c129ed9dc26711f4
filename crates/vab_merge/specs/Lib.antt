pub mod Cleared
pub mod Copied
pub mod Merged
pub mod Run
