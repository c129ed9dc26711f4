pub mod MapsLaws
pub mod TailLaws
mod CopyLaws
