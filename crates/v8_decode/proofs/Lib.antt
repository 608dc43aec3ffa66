pub mod Common
pub mod Marks
pub mod Members
pub mod Minus
pub mod Rows
pub mod Examples
