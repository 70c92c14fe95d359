pub mod HashOrder
pub mod Listing
