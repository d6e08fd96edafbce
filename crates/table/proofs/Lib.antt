-- What the proofs of the table's functions share, and the theorems on specs/Sound that upper crates use.
mod Laws
pub mod Forms
pub mod FreshSound
pub mod Decide
pub mod Examples
