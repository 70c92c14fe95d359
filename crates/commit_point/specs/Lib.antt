pub mod Number
pub mod Replacing
