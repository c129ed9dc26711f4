pub mod Answering
pub mod Choices
mod Events
mod Hearings
pub mod Listening
pub mod Packets
pub mod Progress
mod ReaderLaws
pub mod RunLaws
pub mod Serving
mod Sessions
mod Stops
mod Telling
