pub mod CopyLaws
pub mod Copying
mod Pair
mod Sectors
mod Texts
