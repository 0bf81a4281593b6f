pub mod First
pub mod Rows
pub mod Cycles
pub mod Bits
pub mod Tests
pub mod Known
pub mod Ends
