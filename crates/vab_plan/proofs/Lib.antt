pub mod NoStoreLaws
pub mod PartLaws
pub mod PlanLaws
