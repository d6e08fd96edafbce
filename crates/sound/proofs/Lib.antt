-- What the proofs of the check's functions share.
pub mod Ranges
