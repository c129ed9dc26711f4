pub mod BlockLaws
pub mod BlankLaws
mod Gates
pub mod LayoutLaws
mod TouchLaws
mod Parts
pub mod RefusalLaws
pub mod StateLaws
pub mod SumLaws
