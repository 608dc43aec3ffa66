pub mod Common
pub mod Marks
pub mod Targets
pub mod Below
pub mod Counts
pub mod Entering
pub mod Agreement
pub mod Held
