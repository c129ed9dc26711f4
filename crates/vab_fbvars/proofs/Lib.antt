pub mod Decimals
mod Digits
pub mod OnDevice
