-- "`unreachable!` and `expect` become refusals or proved absent": those of the walk are absent. In reading order: the stops as steps; the rules
-- with every stop in its place; what is yet to be visited; the induction, calls before it; the theorem; how many types there
-- are; each stop met, computed.
pub mod Guards
pub mod GuardedCalls
pub mod Guarded
pub mod Ready
pub mod Past
pub mod SameCalls
pub mod Examples
