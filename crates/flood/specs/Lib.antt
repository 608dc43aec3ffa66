pub mod Flood
pub mod Private
