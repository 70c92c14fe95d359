pub mod Attributes
pub mod Object
pub mod Trials
