pub mod Common
pub mod Profile
pub mod NodeMarks
pub mod Rules
pub mod TheFlow
pub mod Values
