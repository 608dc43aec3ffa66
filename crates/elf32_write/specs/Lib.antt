pub mod Bytes
pub mod Headers
pub mod Sections
pub mod Written
pub mod Conditions
pub mod Laws
pub mod Kept
