pub mod Number
pub mod Name
pub mod NameView
pub mod Crc
