pub mod Files
pub mod Showing
