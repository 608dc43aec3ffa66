pub mod Answers
pub mod Cells
pub mod Code
pub mod Private
