-- Two runs of the rules, one over longer buffers, longer texts and a longer library. In reading order: what a type word means; what the
-- two runs have in common; what they rely on of a tree; the logic and the primitive steps; types, calls and rules; the theorem of
-- nodes; the pool and the walk as a whole; own functions and the Fns that are visited; then the theorems `answered-longer`, `larger`,
-- `larger-without-statements` and `functions-visited`.
pub mod Means
pub mod Runs
pub mod Sound
pub mod Logic
pub mod Written
pub mod Primitive
pub mod Types
pub mod Inner
pub mod Exprs
pub mod Bind
pub mod Operators
pub mod Find
pub mod Calls
pub mod Rules
pub mod Nodes
pub mod Pool
pub mod Walk
pub mod Entries
pub mod Refused
pub mod Accepted
pub mod Longer
pub mod Split
pub mod Kept
pub mod Signatures
pub mod ExprTrees
pub mod Met
pub mod Fns
pub mod FnEntries
pub mod Larger
