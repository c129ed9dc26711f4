pub mod Finished
pub mod Ready
pub mod Writes
