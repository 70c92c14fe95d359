pub mod Deep
pub mod Thinned
pub mod Walked
