-- `branches::is_unknown` meets its contract. Assumes nothing.
use Rattle.std.proofs.Common.{sym, eq-eqb, ne_eqb}
use Rattle.ptype.specs.TypeKindLaws.{type-number, type-not}
use Rattle.branches.proofs.is_unknown.Goals as goal

pub returns-in-Unknown : goal.returns-in-Unknown
returns-in-Unknown c = sym (eq-eqb _ _ (type-number _ c.in-Unknown.ensures))

pub returns-in_default : goal.returns-in_default
returns-in_default c = sym (ne_eqb _ _ (type-not _ c.of.ensures c.in_default.not-Unknown))
