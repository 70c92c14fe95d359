mod Rows
mod Going
mod Sites
mod Colls
mod Stores
mod Steps
