pub mod Profiles
pub mod Stops
pub mod Laws
pub mod Sizes
pub mod Clear
pub mod Code
