-- What the proofs of several functions use.
mod KindLaws
mod Returns
