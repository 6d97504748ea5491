-- Why the splay over words is the splay of the rules.
pub mod Paths
pub mod Walk
pub mod Steps
pub mod Finish
pub mod Tagged
pub mod Turns
pub mod Standing
pub mod Raise
