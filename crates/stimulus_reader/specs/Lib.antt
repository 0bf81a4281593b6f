pub mod Stimulus
pub mod Reading
pub mod code
