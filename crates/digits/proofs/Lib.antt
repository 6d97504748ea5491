-- What the proofs of several functions share: tables, digits that are read, and digits that are written.
pub mod Table
pub mod Taken
pub mod Spelled
