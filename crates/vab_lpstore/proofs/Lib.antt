mod Judging
mod Outcomes
pub mod StoreLaws
mod FrontReads
