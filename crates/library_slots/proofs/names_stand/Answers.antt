use Rattle.library_slots.proofs.NamedWays.{stands-begin, stands_lacks, stands-had, stands-past, stands-done}
use Rattle.library_slots.proofs.names_stand.Goals as goal

pub loop-at-init : goal.loop-at-init
loop-at-init c = stands-begin

pub returns-then-not-argues_any : goal.returns-then-not-argues_any
returns-then-not-argues_any c =
    λ t w g. stands_lacks c.loop-at.invariant t w g c.group_end-next.ensures c.wants_any.ensures c.if-wants_any.true c.argues_any.ensures c.if-not-argues_any.true

pub loop-at-preserved : goal.loop-at-preserved
loop-at-preserved c =
    elim c.else-wants_any.branch [
      | goal.else-wants_any-via-then-wants_any+else-not-argues_any w ↦
          stands-had c.loop-at.invariant c.group_end-next.ensures w.argues_any.ensures w.if-not-argues_any.false
      | goal.else-wants_any-via-else-wants_any w ↦
          stands-past c.loop-at.invariant c.group_end-next.ensures c.wants_any.ensures w.if-wants_any.false
    ]

pub returns : goal.returns
returns c = λ t w g. stands-done c.loop-at.invariant c.loop-at-test.false t w g
