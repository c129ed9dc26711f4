pub mod BootLaws
pub mod ControlLaws
