-- The last row.
mod Ways
