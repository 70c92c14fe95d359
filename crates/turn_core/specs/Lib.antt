pub mod Groups
pub mod Slots
pub mod Phases
pub mod Table
pub mod Chain
pub mod Drain
