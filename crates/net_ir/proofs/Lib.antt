pub mod Unique
pub mod Ports
pub mod Benches
pub mod Marking
pub mod Worked
mod Values
pub mod Parts
pub mod More
