pub mod Common
pub mod BlockRules
pub mod Joined
