pub mod FrameLoops
pub mod Places
pub mod Seen
