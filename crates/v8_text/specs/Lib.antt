pub mod Texts
pub mod Parts
pub mod Laws
pub mod Listings
pub mod Code
pub mod Private
