pub mod Script
pub mod Held
pub mod Faults
