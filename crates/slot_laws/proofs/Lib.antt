pub mod Eight
pub mod Flat
pub mod Live
pub mod Positions
pub mod Slots
pub mod Weaker
