pub mod Bounds
pub mod Blocks
pub mod Turns
pub mod SmallLaws
pub mod SideLaws
pub mod SmallAfter
pub mod Found
pub mod Questions
