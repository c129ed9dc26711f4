pub mod RowLaws
pub mod JudgedLaws
pub mod KeptLaws
pub mod TableLaws
pub mod CommandLaws
