pub mod Sector
pub mod Version
pub mod Mark
pub mod Status
pub mod Physical
