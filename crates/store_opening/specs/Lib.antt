pub mod Mounts
pub mod Faults
