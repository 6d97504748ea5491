-- What the contracts of this crate say of digits, tables and words.
pub mod Read
