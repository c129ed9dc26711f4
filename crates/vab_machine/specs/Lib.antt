pub mod Small
pub mod Changes
pub mod Places
pub mod Sides
pub mod Begun
pub mod Views
