pub mod Refused
pub mod Written
pub mod Driven
pub mod Paths
pub mod Taking
pub mod code
