pub mod Compact
pub mod Emitting
pub mod Forms
pub mod Laid
pub mod Laying
pub mod Order
pub mod Running
pub mod Private
