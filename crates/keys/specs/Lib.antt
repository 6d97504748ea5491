-- What reading and wording for keys alone promise.
pub mod Told
