pub mod Bytes
pub mod Piece
pub mod Cutting
pub mod Scan
