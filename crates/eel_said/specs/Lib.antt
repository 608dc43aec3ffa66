pub mod Command
pub mod Outcome
pub mod Seen
pub mod Shared
pub mod Code
pub mod Private
