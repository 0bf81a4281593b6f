pub mod Sweeps
pub mod Kept
pub mod Finality
