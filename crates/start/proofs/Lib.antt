-- The ways out of `begin`.
mod Begins
