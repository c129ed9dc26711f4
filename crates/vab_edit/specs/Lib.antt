pub mod Carried
pub mod Guards
pub mod Prepared
pub mod Tables
pub mod Writes
