pub mod Held
pub mod Map
