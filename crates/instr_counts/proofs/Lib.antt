pub mod Common
pub mod Single
pub mod Counted
pub mod Adding
