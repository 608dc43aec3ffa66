pub mod Flows
pub mod Walks
pub mod Trees
pub mod Links
pub mod Laws
pub mod Code
pub mod SpanningTrees
