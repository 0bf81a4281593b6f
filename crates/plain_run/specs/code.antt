pub mod Marks
pub mod Timely
pub mod Turns
pub mod Pass
