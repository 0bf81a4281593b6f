pub mod Graph
pub mod LevelFault
pub mod Search
