pub mod Alike
pub mod Compared
pub mod Forms
pub mod Ranges
pub mod Examples
