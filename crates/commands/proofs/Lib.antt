-- Why a new arena's words are the rules', and why a command on a tree is one on an arena.
pub mod Header
pub mod Chaining
pub mod Whole
