mod Stepped
mod Rows
mod Texts
mod Underway
mod Ends
