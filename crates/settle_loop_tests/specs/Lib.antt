pub mod Board
pub mod Ports
