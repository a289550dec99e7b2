-- The library: refusal 2, its packages, and what an accepted library has. In reading order.
-- Definitions: packages and how they are found; the rules of words and records; the first offending word; the code's answers.
pub mod Package
pub mod Pool
pub mod Slots
pub mod PackageRecords
pub mod LibraryFault
pub mod Access
pub mod Signatures
pub mod EntryList
pub mod Entries
-- Laws of what reading has shown: type words, the pool, its trees, the packages, the library as a whole.
pub mod TypeWords
pub mod PoolRead
pub mod PoolTrees
pub mod Each
pub mod PackagesRead
pub mod Accepted
-- Laws of entries, of places past the end, of a library that is lengthened, and of its types then.
pub mod EntryLaws
pub mod Past
pub mod Longer
pub mod PoolTypes
-- Slots found by counts and marks instead of trees, and that it comes to the same.
pub mod SlotSums
pub mod SlotMarks
pub mod SlotReach
pub mod ReturnSlots
