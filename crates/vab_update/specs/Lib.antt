pub mod Carries
pub mod Install
pub mod Orders
pub mod Written
