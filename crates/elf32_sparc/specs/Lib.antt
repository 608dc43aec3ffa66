pub mod Header
pub mod FileFault
pub mod Survey
pub mod Mapping
pub mod Symbols
pub mod Image
pub mod Code
