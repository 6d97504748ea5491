-- What the calls promise, in words.
pub mod Told
