pub mod Designing
