mod Found
pub mod GeometryLaws
mod Joining
pub mod LoadingLaws
