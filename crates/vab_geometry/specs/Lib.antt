pub mod Geometry
pub mod Reading
pub mod Loading
