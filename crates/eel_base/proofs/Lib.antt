pub mod HoldingLemmas
pub mod Parts
