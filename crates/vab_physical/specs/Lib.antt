pub mod Copy
pub mod Maps
pub mod Tail
