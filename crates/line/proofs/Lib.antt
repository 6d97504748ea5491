-- What the proofs of several functions share: a line's words, and words that are written.
pub mod Words
pub mod Put
