pub mod Each
pub mod Clocks
pub mod Reads
pub mod Order
pub mod Classes
pub mod Alone
pub mod code
