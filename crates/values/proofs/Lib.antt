-- What the proofs of several functions use.
mod FieldReturns
mod Told
