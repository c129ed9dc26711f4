pub mod Begun
pub mod Discarded
pub mod Over
pub mod Prepared
pub mod Writes
