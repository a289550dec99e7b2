mod Filling
mod Levelling
