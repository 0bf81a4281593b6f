pub mod Leaf
pub mod Known
