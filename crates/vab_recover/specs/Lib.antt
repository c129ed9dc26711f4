pub mod Behind
pub mod Memory
pub mod Opened
pub mod Opening
pub mod Overlay
pub mod Repairs
pub mod Scans
