-- What the proofs of several functions use.
mod PairReturns
mod BindReturns
mod HasReturns
