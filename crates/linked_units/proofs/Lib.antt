pub mod Numbers
pub mod Places
pub mod Counting
pub mod Trees
pub mod Judged
pub mod Zips
pub mod Greatest
