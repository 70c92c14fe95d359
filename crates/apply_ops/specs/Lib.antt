pub mod Editing
pub mod Next
