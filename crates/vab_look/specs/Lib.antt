pub mod CheckText
pub mod Facts
pub mod Faults
pub mod Form
pub mod Pages
pub mod StoresText
pub mod TablesText
