pub mod Control
pub mod Boot
