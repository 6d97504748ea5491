-- What the calls about one key tell, and what it is to be among the keys.
pub mod Asked
pub mod Members
