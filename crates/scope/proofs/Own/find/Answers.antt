use mathlib.Core.Logic.{⊎_elim}
use Rattle.std.proofs.Common.{◌≡◌, ◌+◌, ◌-◌, refl, sym, subst, ◌∙◌, arith}
use Rattle.tok.specs.Text.{name_bytes}
use Rattle.scope.proofs.OwnWays.{left-begin, left-room, left-more, Seeks, seek_begin, seek_hit, seek_past, seek_over}
use Rattle.scope.proofs.Own.find.Goals as goal

pub loop-init : goal.loop-init
loop-init c = let e : c.self.inside.count - 0 ≡ c.self.inside.count = omega arith in rw e (c.name_bytes-wanted.ensures, (left-begin c.self.invariant, seek_begin _ _ _ _))

pub overflow_add-found : goal.overflow_add-found
overflow_add-found c = omega (arith, left-room c.loop.invariant.1.0 (omega arith) refl)

pub overflow_add-entry : goal.overflow_add-entry
overflow_add-entry c = omega (arith, left-room c.loop.invariant.1.0 (omega arith) refl)

pub overflow_add-entry-in-loop-2 : goal.overflow_add-entry-in-loop-2
overflow_add-entry-in-loop-2 c = omega (arith, left-room c.loop.invariant.1.0 (omega arith) (c.word_at-in-loop.ensures))

pub loop-preserved : goal.loop-preserved
loop-preserved c =
    let w = c.word_at.ensures in
    let n = c.is_name.ensures in
    let c₂ = c.word_at-in-loop.ensures in
    let e : c.self.inside.count - (c.loop.counter + 1) ≡ c.self.inside.count - c.loop.counter - 1 = omega arith in
    rw e (
      c.loop.invariant.0,
      (
        left-more c.loop.invariant.1.0 (omega arith) c₂,
        elim c.if-is_name.branch [
          | goal.then-is_name x ↦ subst (Seeks _ _ _ _ _ _) (sym x.found-is) (seek_hit _ _ _ _ c.loop.invariant.1.1 (omega arith) w refl n c₂ x.if-is_name.true)
          | goal.else-is_name x ↦ subst (Seeks _ _ _ _ _ _) (sym x.found-is) (seek_past _ _ _ _ c.loop.invariant.1.1 (omega arith) w refl n c₂ x.if-is_name.false)
        ],
      ),
    )

pub returns : goal.returns
returns c = rw (← c.self.view_is, ← c.loop.invariant.0) (seek_over _ _ _ _ c.loop.invariant.1.1 (omega arith))
