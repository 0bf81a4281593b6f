pub mod Ending
pub mod Answering
pub mod PlayedOut
pub mod Compiled
pub mod Simulated
