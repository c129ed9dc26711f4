pub mod Copies
pub mod Findings
pub mod Rows
pub mod Surveyed
