pub mod Values
pub mod Excess
pub mod Private
