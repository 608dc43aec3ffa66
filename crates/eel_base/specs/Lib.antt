pub mod Fields
pub mod Outside
pub mod CodeText
pub mod InMemory
pub mod Real
pub mod Code
