pub mod Reads
pub mod Sets
pub mod Flow
pub mod Verdict
