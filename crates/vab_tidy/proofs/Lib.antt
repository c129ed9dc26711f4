pub mod AloneLaws
pub mod KeptLaws
pub mod MarkLaws
pub mod MigrationLaws
pub mod RaiseLaws
pub mod StaysLaws
pub mod TableLaws
