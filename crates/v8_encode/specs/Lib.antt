pub mod Encoding
pub mod Code
