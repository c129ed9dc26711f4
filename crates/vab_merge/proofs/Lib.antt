pub mod ClearLaws
pub mod CopyLaws
pub mod MergeLaws
pub mod PairLaws
mod RunLaws
mod RunSteps
pub mod TurnLaws
