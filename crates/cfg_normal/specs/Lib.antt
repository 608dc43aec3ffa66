pub mod Nodes
pub mod Opens
pub mod Graph
pub mod Numbers
pub mod Landings
pub mod Code
pub mod Private
