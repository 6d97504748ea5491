-- Why the calls of the set give what the rules say, and what they say of its members.
pub mod Asked
pub mod Members
pub mod Changed
