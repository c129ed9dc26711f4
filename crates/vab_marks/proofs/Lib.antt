pub mod MarkLaws
pub mod SectorLaws
pub mod StatusLaws
pub mod PhysicalLaws
