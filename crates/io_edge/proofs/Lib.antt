pub mod NumberedCalls
pub mod OfferedSoFar
pub mod Places
