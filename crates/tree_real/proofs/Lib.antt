mod Placing
mod Quiet
