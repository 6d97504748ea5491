-- Laws of the definitions, bottom up.
-- The order of keys; the splay's rules, what it keeps and where it ends; ascending lists, and where the splay parts them.
pub mod Order
pub mod Splay
pub mod Path
pub mod Ascending
pub mod After
pub mod Parted
-- Slots counted; what slots hold; well-formed arenas and their states.
pub mod Hit
pub mod Pigeons
pub mod Held
pub mod Chain
pub mod Sound
pub mod WellFormed
pub mod Words
-- What the commands do to the live entries and to the slots; lists of commands.
pub mod Brought
pub mod Performed
pub mod Kept
pub mod Nearest
pub mod Run
-- Whole calls: when they refuse, what they give and leave; the slots of an arena; codes; calls in order; runs cut in two.
pub mod Checked
pub mod Slots
pub mod Replies
pub mod Happened
pub mod Cut
-- The demands.
pub mod Demands
-- The tables of twelve and of six arenas, the rows of a second source, and more cases.
pub mod Rows
pub mod Worked
pub mod Cases
pub mod Wide
