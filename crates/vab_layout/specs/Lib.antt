pub mod Layout
pub mod Rules
pub mod Slots
pub mod Plain
pub mod Overlay
