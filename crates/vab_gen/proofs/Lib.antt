pub mod BlockLaws
pub mod SetLoop
pub mod SetLaws
