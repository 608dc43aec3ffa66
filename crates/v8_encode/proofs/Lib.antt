pub mod Common
pub mod Decoded
pub mod Encoded
pub mod Fields
pub mod Ignored
pub mod Several
pub mod Examples
