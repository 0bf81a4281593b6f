pub mod Snapshot
pub mod Events
pub mod World
pub mod Start
pub mod Striking
pub mod code
