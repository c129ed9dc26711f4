pub mod ReadLaws
pub mod WipedLaws
pub mod OwnLaws
pub mod ShortNames
