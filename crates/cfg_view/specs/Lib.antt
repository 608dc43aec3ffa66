pub mod View
pub mod Code
