-- docs/RULES.md in definitions, bottom up. What stands in quotation marks is quoted from that page. `abbrev` and `unfoldable` say only how
-- far the prover looks into a definition; they change no meaning. `nil` is "no entry", `none` is the empty tree. To read along with the
-- page, take the files in this order:
--   "The arena": Edition (keys, M, the limits), Tree, Perform up to `freeing` (the state, making, slots taken and freed), Arena;
--   "The splay": Order (sides, comparing), Splay;
--   "The commands" and "The answers": Command (the tables, words of commands and answers), Perform;
--   "Whole calls": Calls (what they give, and what they refuse);
--   "The editions": Edition again (`edition`, `tags`, `tags64`);
--   "The set": Reading;
--   "The line program": Lines;
--   "The live entries": Live (after each command, with no tree), History (after calls);
--   "The demands": Demands (what it is for calls to have happened, and what has to hold of them; the theorems are in proofs/Demands.antt);
--   "Twelve arenas": Story (how a table of worked arenas is read), Twelve; Rows, more of the same from a second source.
-- What is proved of them stands in proofs/, and worked cases in proofs/Cases.antt and proofs/Wide.antt. Fit is for a command on a tree that
-- has not all slots of an arena to itself.
pub mod Order
pub mod Edition
pub mod Command
pub mod Live
pub mod Tree
pub mod Splay
pub mod Perform
pub mod Arena
pub mod Fit
pub mod Reading
pub mod Calls
pub mod History
pub mod Demands
pub mod Lines
pub mod Story
pub mod Twelve
pub mod Rows
