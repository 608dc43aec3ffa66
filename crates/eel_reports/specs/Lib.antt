pub mod Answers
pub mod Refusals
pub mod Tame
pub mod Code
pub mod Private
