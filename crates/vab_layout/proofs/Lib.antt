pub mod ApartLaws
pub mod LayoutLaws
pub mod OwnNames
