pub mod Depth
pub mod Steps
