pub mod Calls
pub mod Notes
pub mod Honest
pub mod Kept
pub mod Device
