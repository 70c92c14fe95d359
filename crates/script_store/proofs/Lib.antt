pub mod Histories
pub mod Holding
pub mod Queued
pub mod Faults
pub mod Splits
pub mod Stepping
pub mod Answered
