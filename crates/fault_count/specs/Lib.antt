pub mod Counted
pub mod Plan
