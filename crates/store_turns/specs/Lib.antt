pub mod Fault
pub mod Theory
pub mod Waiting
pub mod State
pub mod Calls
