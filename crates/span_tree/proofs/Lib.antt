pub mod Common
pub mod Landings
pub mod Connected
pub mod LoopBounds
pub mod Numbered
pub mod Ranked
