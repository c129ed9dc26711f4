pub mod Sectors
pub mod Statuses
pub mod Apart
pub mod Written
