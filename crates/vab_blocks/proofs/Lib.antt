pub mod RunLaws
pub mod BlockLaws
pub mod Pieces
pub mod Ascending
mod Merging
mod Gaps
pub mod Distinct
pub mod Contained
