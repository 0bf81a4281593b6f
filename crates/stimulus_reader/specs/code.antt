pub mod LineSource
pub mod LineReading
pub mod Judging
pub mod Fields
