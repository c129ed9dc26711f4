pub mod Blocks
pub mod Commands
pub mod Controls
pub mod Found
