pub mod Width
pub mod Meaning
pub mod Rows
pub mod Lists
