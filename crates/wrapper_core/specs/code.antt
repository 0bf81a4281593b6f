pub mod Blocks
pub mod Samplings
pub mod Cores
