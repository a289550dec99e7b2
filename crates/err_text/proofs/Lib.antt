-- Laws that the proofs of the functions share.
pub mod PieceLaws
pub mod RecordLaws
pub mod SaidLaws
