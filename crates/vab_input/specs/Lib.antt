pub mod HearsToEnd
