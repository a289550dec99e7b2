mod Loops
mod ListsAt
mod Returns
