pub mod Supported
pub mod Design
pub mod Source
pub mod code
