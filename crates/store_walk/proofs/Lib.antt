mod Depths
mod Looked
mod Objects
mod Swept
mod Thinning
mod Tidied
mod Walks
