pub mod Entries
pub mod HalfEntries
pub mod Halves
pub mod Lookup
pub mod Table
pub mod Translator
pub mod Private
