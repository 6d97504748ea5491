-- What the contracts of this crate say of a line's bytes and words.
pub mod Read
pub mod Write
