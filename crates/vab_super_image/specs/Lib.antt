pub mod SuperImage
