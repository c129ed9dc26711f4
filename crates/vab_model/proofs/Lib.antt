pub mod Names
pub mod SeenLaws
pub mod OverLaws
