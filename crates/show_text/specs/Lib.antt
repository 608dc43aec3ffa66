pub mod Lines
pub mod CountLines
