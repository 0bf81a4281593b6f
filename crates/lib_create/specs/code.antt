pub mod Running
pub mod CommandWords
pub mod Loading
pub mod Verdicts
pub mod Compiling
pub mod Telling
