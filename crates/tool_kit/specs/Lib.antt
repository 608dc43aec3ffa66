pub mod Kept
pub mod Plans
pub mod Sound
pub mod Good
pub mod Code
