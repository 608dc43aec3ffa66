pub mod Common
pub mod HalfTables
pub mod Regions
pub mod Tables
pub mod TwelveWords
