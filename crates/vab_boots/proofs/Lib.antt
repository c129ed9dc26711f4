mod Begins
mod Beside
pub mod Booting
mod Facts
mod HeldStays
mod Installing
mod Keeping
mod Overlaying
mod Planned
mod Reading
mod Sessions
mod Wiping
