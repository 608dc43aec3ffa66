pub mod Later
pub mod Made
pub mod Marked
pub mod Running
pub mod ScriptCells
