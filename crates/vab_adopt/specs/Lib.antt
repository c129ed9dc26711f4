pub mod Adopted
pub mod Adopting
pub mod Counting
pub mod Dropped
pub mod Named
