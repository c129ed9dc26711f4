mod Loop
pub mod SetLaws
