pub mod CountLaws
pub mod FoundLaws
pub mod GateLaws
pub mod HeadLaws
pub mod NamedLaws
pub mod ReadLaws
pub mod RefusalLaws
pub mod SectorLaws
