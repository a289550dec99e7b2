-- `values::let_binding` meets its contract of Void: 7 is told. Assumes nothing.
use Rattle.ptype.specs.TypeKindLaws.{type-number, type-not}
use Rattle.std.proofs.Common.{rules, ◌≡◌, false, ne_eqb}
use Rattle.std.specs.Prelude.{eqb}
use Rattle.tok.specs.Word.{kind_of}
use Rattle.state.specs.World.{stepped, with_answer}
use Rattle.rules.specs.Rules.{let_binding}
use Rattle.rules.specs.Steps.{ty}
use Rattle.tok.specs.Step.{when}
use Rattle.scope.specs.declared.Binding.TheVariants.{Poisoned}
use Rattle.scope.specs.Found.{bound_of}
use Rattle.values.proofs.Told.{told-means}
use Rattle.values.proofs.let_binding.Goals as goal

pub returns-in_default-of : goal.returns-in_default-of
unfolding let_binding ty when stepped with_answer
returns-in_default-of c = let k : eqb (kind_of c.word_at-w.result) 1 ≡ false = ne_eqb _ 1 (type-not _ c.of.ensures c.in_default-of.not-Void) in search rules

pub returns : goal.returns
unfolding let_binding ty when
returns c t =
    told-means c.args.n c.let_void-reported.ensures.reports (λ b. bound_of b) Poisoned c.told.ensures
    (λ rest. rw (c.in-Known.is, ← c.word_at-w.ensures, type-number _ c.in-Void.ensures))
