pub mod Places
pub mod Settled
pub mod Plain
pub mod code
