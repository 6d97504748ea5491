-- What a command promises: of a tree under a head, and of a whole arena.
pub mod Did
pub mod Headed
pub mod Slots
pub mod Worded
