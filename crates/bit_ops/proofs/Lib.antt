pub mod Words
pub mod Signed
pub mod Positions
pub mod Algebra
pub mod Fits
pub mod Worked
