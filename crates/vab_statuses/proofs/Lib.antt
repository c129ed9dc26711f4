pub mod ReadLaws
pub mod StatusesLaws
pub mod UnderLaws
