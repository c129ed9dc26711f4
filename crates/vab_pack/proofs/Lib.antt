pub mod FaultLaws
pub mod FrontLaws
mod Loop
pub mod Numbers
pub mod WordLaws
