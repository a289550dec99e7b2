-- One run of the rules, and what is claimed at every point of it. In reading order: the claim; that it stays as buffers grow; the logic; a
-- diagnostic; the nodes seen; scopes; slots on trees; what is relied on of a tree; types added, taken apart, bound and applied; what is found
-- by name; operators, arguments, calls, rules, functions; the theorem of nodes; the walk as a whole.
pub mod Claim
pub mod Grows
pub mod Logic
pub mod Trees
pub mod Proper
pub mod Inner
pub mod Bind
pub mod Find
