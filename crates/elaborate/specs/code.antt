pub mod Walking
pub mod Selecting
