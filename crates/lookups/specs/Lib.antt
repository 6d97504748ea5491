-- What the functions of this crate meet and find in a tree.
pub mod Met
pub mod Sought
