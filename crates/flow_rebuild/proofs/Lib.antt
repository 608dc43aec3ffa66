pub mod Common
pub mod Changed
pub mod Settling
pub mod Sums
pub mod Peel
