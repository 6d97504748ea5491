-- Laws of slots: in any memory, and in the words of an arena.
pub mod Memory
pub mod Words
