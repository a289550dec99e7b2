-- The way out of `bench`.
mod Ways
