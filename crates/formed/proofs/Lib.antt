-- Why the check's answers are right, from the bottom up.
pub mod Tells
pub mod InOrder
pub mod Walk
pub mod Along
pub mod Chain
pub mod Formed
