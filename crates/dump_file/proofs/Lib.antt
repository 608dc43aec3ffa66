pub mod Common
pub mod Words
pub mod Fields
pub mod ReadsBack
pub mod Inverted
pub mod Examples
