pub mod Common
pub mod Fetching
pub mod Paths
pub mod Files
pub mod Loops
pub mod Walking
