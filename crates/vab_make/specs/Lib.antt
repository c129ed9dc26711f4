pub mod Made
pub mod Making
pub mod Refusals
pub mod Prepared
pub mod Steps
pub mod Touched
