pub mod AloneLaws
pub mod OverlayLaws
pub mod SourceLaws
pub mod StandLaws
pub mod UntilLaws
pub mod WipeLaws
pub mod WrittenLaws
mod BetweenLaws
mod Changing
mod Data
mod Endings
mod Plain
mod ReadLaws
mod ShortNames
