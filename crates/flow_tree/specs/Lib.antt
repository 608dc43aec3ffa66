pub mod Rows
pub mod Tree
pub mod Search
