pub mod Parts
pub mod Examples
