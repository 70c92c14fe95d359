pub mod Flow
pub mod Pieces
pub mod Memory
