mod Goes
pub mod Standing
mod Pairs
mod Passes
mod Changes
mod Fresh
mod Opening
mod Undamaged
mod PlacesKept
