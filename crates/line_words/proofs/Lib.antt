pub mod Steps
pub mod Written
pub mod Numbers
pub mod Registers
pub mod Split
pub mod Digits
pub mod Whole
