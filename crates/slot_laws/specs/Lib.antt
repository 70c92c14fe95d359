pub mod Eight
pub mod History
pub mod Live
pub mod Positions
pub mod Slots
pub mod Weaker
