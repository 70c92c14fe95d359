pub mod Images
pub mod Put
pub mod Run
