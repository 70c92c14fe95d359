pub mod Tails
pub mod Waits
pub mod Due
pub mod Longer
