pub mod Walking
pub mod Loopless
pub mod Repeats
pub mod Sources
pub mod Fronts
