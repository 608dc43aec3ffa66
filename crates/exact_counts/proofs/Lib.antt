pub mod Common
pub mod Counters
pub mod Ends
pub mod Noted
pub mod Exact
pub mod Clear
pub mod Trees
pub mod Gone
pub mod Totals
pub mod Soon
pub mod Little
mod Copies
