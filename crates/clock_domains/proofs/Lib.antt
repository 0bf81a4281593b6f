pub mod Walks
pub mod Same
pub mod Alone
pub mod Told
pub mod OneBit
