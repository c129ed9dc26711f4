pub mod Entries
pub mod Rules
pub mod Extents
pub mod Text
pub mod Spelling
pub mod Reading
pub mod Needs
