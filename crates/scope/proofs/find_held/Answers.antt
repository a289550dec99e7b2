use mathlib.Core.Logic.{⊎_elim}
use mathlib.Core.Option.{some}
use Rattle.std.proofs.Common.{◌≡◌, ◌+◌, ◌-◌, refl, sym, ap, ◌∙◌, arith}
use Rattle.tok.specs.Text.{name_bytes}
use Rattle.scope.proofs.HeldWays.{left-begin, left-place, left_over, held_found, held-past}
use Rattle.tok.proofs.PartLaws.{differs-other}
use borrow.Author.Tests.{not-false}
use Rattle.scope.proofs.find_held.Goals as goal

pub loop-init : goal.loop-init
loop-init c = let e : c.args.k - 0 ≡ c.args.k = omega arith in rw e (c.name_bytes-wanted.ensures, left-begin)

pub held_at-held-requires : goal.held_at-held-requires
held_at-held-requires c = omega (arith, left-place c.loop.invariant.1, c.requires)

pub returns-then-is_name : goal.returns-then-is_name
returns-then-is_name c =
    let p = c.held_at-held.ensures.0 c.args.words.now in
    rw (← c.loop.invariant.0) (held_found c.loop.invariant.1 (omega arith) (c.held_name-own.ensures ∙ ap (λ x. x.name) p) refl c.is_name.ensures (ap some p) c.if-is_name.true)

pub overflow_add-at : goal.overflow_add-at
overflow_add-at c =
    let p = c.held_at-held.ensures.0 c.args.words.now in
    omega (
      arith,
      left-place (held-past c.loop.invariant.1 (omega arith) (c.held_name-own.ensures ∙ ap (λ x. x.name) p) refl refl refl c.held_at-held.ensures.1
          (elim c.if-not-differs_in.branch [
            | goal.then-not-differs_in+else-is_name w ↦ sym w.is_name.ensures ∙ w.if-is_name.false
            | goal.else-not-differs_in w ↦ differs-other _ _ _ _ (sym c.differs_in.ensures ∙ w.if-not-differs_in.false)
          ])),
      c.requires,
    )

pub loop-preserved : goal.loop-preserved
loop-preserved c =
    let p = c.held_at-held.ensures.0 c.args.words.now in
    let e : c.args.k - (c.loop.counter + 1) ≡ c.args.k - c.loop.counter - 1 = omega arith in
    rw e (
      c.loop.invariant.0,
      held-past c.loop.invariant.1 (omega arith) (c.held_name-own.ensures ∙ ap (λ x. x.name) p) refl refl refl c.held_at-held.ensures.1
          (elim c.if-not-differs_in.branch [
            | goal.then-not-differs_in+else-is_name w ↦ sym w.is_name.ensures ∙ w.if-is_name.false
            | goal.else-not-differs_in w ↦ differs-other _ _ _ _ (sym c.differs_in.ensures ∙ w.if-not-differs_in.false)
          ]),
    )

pub returns : goal.returns
returns c = rw (← c.loop.invariant.0) (left_over c.loop.invariant.1 (omega arith))
