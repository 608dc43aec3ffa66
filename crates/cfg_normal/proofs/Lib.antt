pub mod Common
pub mod TableWords
pub mod Candidates
pub mod LandingFacts
pub mod Cases
pub mod GraphFacts
pub mod Examples
