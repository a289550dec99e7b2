-- The returns of the functions.
mod Returns
