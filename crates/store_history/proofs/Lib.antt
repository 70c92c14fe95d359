pub mod Parts
pub mod Entries
pub mod Join
mod Unique
mod StepLaws
