pub mod Common
pub mod Apart
pub mod Executable
pub mod Kept
pub mod Same
