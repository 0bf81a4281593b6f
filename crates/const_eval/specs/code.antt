pub mod Waiting
pub mod Agreeing
