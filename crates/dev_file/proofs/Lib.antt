pub mod Reached
mod Pieces
pub mod Sound
