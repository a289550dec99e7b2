-- What the proofs of several functions use.
mod Returns
mod ShallowByLaws
