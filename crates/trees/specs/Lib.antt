-- The nodes and types of an accepted image as trees: one law for each kind, and that equal words give equal trees.
pub mod SameWords
pub mod TypeTrees
pub mod SameRecords
pub mod Trees
