pub mod Common
pub mod Ring
pub mod Places
pub mod Traces
pub mod Told
pub mod Stores
pub mod Examples
