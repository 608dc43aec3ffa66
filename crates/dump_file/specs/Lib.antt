pub mod Dump
pub mod Written
pub mod Reading
pub mod Laws
pub mod Code
pub mod Private
