pub mod ChunkLaws
pub mod DifferingLaws
