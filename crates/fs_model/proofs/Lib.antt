pub mod Maps
pub mod Sets
pub mod Cells
pub mod Colls
pub mod ByteCells
pub mod Listings
pub mod Refusals
pub mod Writes
mod Undoing
mod Moves
pub mod Changes
pub mod ListedPages
pub mod PlacedColls
