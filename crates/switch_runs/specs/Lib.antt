pub mod Held
pub mod Runs
pub mod Cases
pub mod Joined
