pub mod Waiting
pub mod Joining
pub mod Taking
pub mod Standing
