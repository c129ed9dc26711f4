pub mod SeenLaws
mod BootLaws
mod CommandLaws
pub mod EffectLaws
mod FoundLaws
pub mod BlockLaws
pub mod DigestLaws
