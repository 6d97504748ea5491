-- What the proofs of several functions share: bytes taken in pieces, byte by byte or a whole line at once; what was kept of a line; and the
-- theorem on where reads cut. The laws are over any edition; what they ask of it beyond its laws is that a key takes at most two words.
pub mod Ended
pub mod Pieces
pub mod Took
pub mod Taken
pub mod Onward
pub mod Alike
pub mod Whole
pub mod Cut
pub mod Bounds
