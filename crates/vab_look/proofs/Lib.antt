pub mod CheckLaws
pub mod StatusLaws
