pub mod Alike
pub mod Alu
pub mod Conditions
pub mod Numbers
pub mod Code
