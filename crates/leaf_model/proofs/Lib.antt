pub mod Lists
pub mod Sampled
pub mod Leaves
