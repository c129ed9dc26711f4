pub mod FinalLaws
pub mod FinishedLaws
pub mod KeptLaws
pub mod ReadyLaws
pub mod StepLaws
pub mod LeftLaws
