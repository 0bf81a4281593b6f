pub mod Figures
pub mod Paths
pub mod Units
pub mod code
