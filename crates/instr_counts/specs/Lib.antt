pub mod Visits
pub mod Laws
pub mod Matches
pub mod Answers
pub mod Lines
pub mod Code
pub mod Private
