pub mod MapLaws
mod Runs
