-- What the functions of this crate do to words and trees.
pub mod Moves
