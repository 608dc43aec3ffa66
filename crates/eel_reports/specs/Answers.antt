-- What comes of commands, as far as no edit is needed to say it.
pub mod Files
pub mod Noted
pub mod Steps
pub mod Trees
pub mod Every
pub mod Weighed
pub mod ScriptLines
pub mod Lines
pub mod Run
pub mod Show
pub mod List
pub mod Print
pub mod Words
pub mod Restore
pub mod Counts
pub mod Visits
pub mod Demo
