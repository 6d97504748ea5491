-- Why a command and an answer for keys alone are those of the set.
pub mod Read
pub mod Numbers
