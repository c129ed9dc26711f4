pub mod CarriesLaws
pub mod InstallLaws
pub mod OrderLaws
pub mod WrittenLaws
