pub mod NameLaws
pub mod NameCases
