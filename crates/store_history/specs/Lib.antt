pub mod History
pub mod Journal
pub mod Images
pub mod Pair
pub mod Kept
pub mod Stepping
