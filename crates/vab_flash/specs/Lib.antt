pub mod Chosen
pub mod Place
pub mod Touched
