pub mod Command
pub mod Complaints
pub mod Spelled
pub mod Values
pub mod Verbs
