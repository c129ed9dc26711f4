pub mod DiskLaws
pub mod Held
pub mod Run
pub mod Store
