pub mod CallsLaws
pub mod DifferingLaws
pub mod SnapshotLaws
pub mod BeginLaws
