mod Found
mod Gathered
mod Named
mod Ordered
mod PairLists
mod Reading
mod Shelves
