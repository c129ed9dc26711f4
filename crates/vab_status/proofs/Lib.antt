pub mod NameLaws
pub mod OrderLaws
pub mod PageLaws
