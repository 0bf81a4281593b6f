pub mod Laws
pub mod Table
pub mod Machines
pub mod Whole
pub mod Loops
pub mod Words
pub mod Facts
pub mod Sizes
