pub mod ChangeLaws
pub mod ControlsLaws
pub mod CopiesLaws
pub mod FreeLaws
