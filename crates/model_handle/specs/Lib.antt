pub mod Models
pub mod Striking
pub mod Known
pub mod Slots
