pub mod Common
mod Made
mod Headers
pub mod Faults
mod Ways
pub mod Texts
pub mod Runs
pub mod Room
