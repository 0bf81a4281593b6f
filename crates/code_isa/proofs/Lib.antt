pub mod Reading
pub mod Running
pub mod Bits
pub mod Members
pub mod Counting
pub mod Readers
pub mod Marking
pub mod Doing
pub mod Active
pub mod One
pub mod Existing
pub mod Worked
mod Shown
