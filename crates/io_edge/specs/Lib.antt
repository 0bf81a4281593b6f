pub mod Entries
pub mod Fault
pub mod Told
pub mod File
pub mod Ground
