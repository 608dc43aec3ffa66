pub mod Common
pub mod Heaps
pub mod RowLemmas
pub mod Steps
pub mod Check
