mod Stages
mod Next
pub mod Redone
