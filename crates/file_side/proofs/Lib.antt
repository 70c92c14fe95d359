mod Fit
mod Turns
mod Joined
mod Written
mod Tidied
mod Looked
