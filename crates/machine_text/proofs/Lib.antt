pub mod Setting
