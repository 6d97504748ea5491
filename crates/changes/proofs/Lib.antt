-- Why insert, remove and the takes do what the rules say.
pub mod Release
pub mod Ends
pub mod Grow
pub mod Added
