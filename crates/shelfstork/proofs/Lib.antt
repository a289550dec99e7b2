-- The way out of the exported function.
mod Returns
