mod ApartLaws
pub mod Plans
mod FirstFree
mod Filled
mod Scans
mod FreeStatus
pub mod Sectors
pub mod Installed
mod Entries
pub mod Named
mod Edits
pub mod Updates
pub mod PlainIdle
pub mod Begun
mod WrittenLaws
pub mod EndLaws
