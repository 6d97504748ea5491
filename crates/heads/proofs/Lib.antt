-- Laws that the proofs of several commands cite.
pub mod Settle
pub mod Heads
