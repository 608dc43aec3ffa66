pub mod Common
pub mod Plain
pub mod Lines
pub mod Read
pub mod OneAnswer
