pub mod Fault
pub mod Causes
pub mod Replays
pub mod Mounts
