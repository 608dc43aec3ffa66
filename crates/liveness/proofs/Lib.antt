pub mod Common
pub mod Adding
pub mod Held
pub mod Joining
pub mod Reaching
pub mod Spots
