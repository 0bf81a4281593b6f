pub mod Pieces
pub mod Again
pub mod Items
pub mod Candidate
pub mod Loop
pub mod Names
pub mod Worked
pub mod Grouping
