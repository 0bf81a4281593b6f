pub mod WrapperText
pub mod GoodFace
pub mod code
