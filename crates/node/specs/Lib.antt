-- What the contracts of the crates below the calls say of an arena's words.
pub mod Stands
