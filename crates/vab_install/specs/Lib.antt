pub mod Control
pub mod Begin
pub mod Differing
pub mod Pushed
pub mod Counts
pub mod Snapshot
pub mod InPlace
