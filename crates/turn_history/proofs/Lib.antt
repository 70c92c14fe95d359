pub mod Opening
pub mod Matching
