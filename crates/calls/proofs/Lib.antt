-- Why the calls give what the rules say.
pub mod Called
pub mod Codes
pub mod Counting
pub mod Running
