pub mod Files
pub mod Counts
pub mod Loops
pub mod Executions
