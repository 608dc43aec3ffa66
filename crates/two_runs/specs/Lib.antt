pub mod Alike
pub mod Follows
pub mod Needed
pub mod Refused
pub mod TwoRuns
pub mod Visits
pub mod Code
