pub mod Routines
pub mod Starts
