pub mod Fields
pub mod Version1
pub mod Library
pub mod code
