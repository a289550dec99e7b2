-- Two of the promises, of every input: `MessagesWellFormed` and `Clean`. In reading order: the trees of an accepted image are proper; names of
-- slots; the types of an accepted library; the walk; the two theorems. Last, that the words of a diagnostic lose nothing of its span.
pub mod ProperTrees
pub mod SlotNames
pub mod LibraryTypes
pub mod Messages
pub mod Spans
