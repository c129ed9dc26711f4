pub mod Asked
pub mod Faultless
pub mod FirstWord
pub mod Growing
pub mod Numbers
pub mod Literals
pub mod Taken
