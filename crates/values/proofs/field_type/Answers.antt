-- `values::field_type` meets its contract, of Unknown and of the other kinds. Assumes nothing.
use Rattle.std.proofs.Common.{rules, ◌≡◌, false, ne_eqb}
use Rattle.std.specs.Prelude.{eqb}
use Rattle.tok.specs.Word.{kind_of}
use Rattle.tok.specs.Step.{when}
use Rattle.ptype.specs.TypeKindLaws.{type-number, type-not}
use Rattle.rules.specs.Rules.{field_type}
use Rattle.rules.specs.Steps.{set_known}
use Rattle.state.specs.World.{stepped}
use Rattle.values.proofs.field_type.Goals as goal

pub returns-in-Unknown : goal.returns-in-Unknown
unfolding field_type set_known when stepped
returns-in-Unknown c = let k : kind_of c.args.word ≡ 11 = type-number _ c.in-Unknown.ensures in search rules

pub returns-in_default : goal.returns-in_default
unfolding field_type set_known when stepped
returns-in_default c = let k : eqb (kind_of c.args.word) 11 ≡ false = ne_eqb _ 11 (type-not _ c.of.ensures c.in_default.not-Unknown) in search rules
