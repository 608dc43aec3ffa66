pub mod Ring
pub mod Laws
pub mod Stores
pub mod Traces
pub mod Answers
pub mod Lines
pub mod Code
pub mod Private
