use Rattle.std.proofs.Common.{get_or, refl, ap, ◌∙◌}
use Rattle.library.proofs.EntryWays.{group-begin, group-found, group-past, group-none}
use Rattle.library.proofs.Entries.find.Goals as goal

pub loop-left-init : goal.loop-left-init
loop-left-init c = rw (← c.self.view_is) (group-begin _ _ _ _ _ _ c.min-at.ensures)

pub returns-then-is_name : goal.returns-then-is_name
returns-then-is_name c =
    let n = c.word_at.ensures ∙ ap (λ e. get_or e.words c.loop-left.at 0) c.self.view_is in
    group-found _ _ _ _ _ _ c.loop-left.invariant c.loop-left-test.true n refl c.is_name.ensures c.if-is_name.true c.has_slots.ensures c.flag_words.ensures c.entry_end-next.ensures

pub loop-left-preserved : goal.loop-left-preserved
loop-left-preserved c =
    let n = c.word_at.ensures ∙ ap (λ e. get_or e.words c.loop-left.at 0) c.self.view_is in
    group-past _ _ _ _ _ _ c.loop-left.invariant c.loop-left-test.true n refl c.is_name.ensures c.if-is_name.false c.entry_end-next.ensures

pub returns : goal.returns
returns c = group-none _ _ _ _ _ _ c.loop-left.invariant c.loop-left-test.false
