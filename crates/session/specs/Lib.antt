pub mod Playing
pub mod code
