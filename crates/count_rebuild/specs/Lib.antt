pub mod Noted
pub mod Dumps
pub mod Counts
pub mod Answers
pub mod Parts
pub mod Code
pub mod Private
