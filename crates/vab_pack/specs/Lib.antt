pub mod Amounts
pub mod Asked
pub mod Faults
pub mod Front
pub mod Images
pub mod Words
