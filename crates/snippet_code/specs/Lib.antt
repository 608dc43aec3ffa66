pub mod Cells
pub mod Words
pub mod Runs
pub mod Laws
pub mod Code
pub mod Spills
