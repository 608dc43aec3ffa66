pub mod Calls
pub mod Frames
pub mod Laws
pub mod Registers
pub mod Code
pub mod Private
