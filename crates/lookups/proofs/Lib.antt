-- Why a lookup does what the rules say.
pub mod Present
pub mod Walks
pub mod Nearest
