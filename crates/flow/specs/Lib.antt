-- What the contracts of this crate say of a stream of lines.
pub mod Stream
