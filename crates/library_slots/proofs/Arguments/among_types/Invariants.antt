-- `library_slots::Arguments::among_types` meets its contract. The loop's invariant: no type before those that are left is the slot. Assumes nothing.
use mathlib.Core.Path.{◌≡◌}
use Rattle.std.specs.Slice.Iter.{chunks_exact_size, chunks_exact_rest}
use Rattle.tok.specs.Text.{Texts, name_bytes}
use Rattle.library.specs.SlotMarks.{any_slot_of, types_in}
use Rattle.library_slots.proofs.Arguments.among_types.Given as goal

abbrev pub invariant-loop-pair : goal.invariant-loop-pair
invariant-loop-pair l = let t : Texts = l.self.texts.now in
    (chunks_exact_size l.pair-iterator ≡ 2)
    × (any_slot_of t (name_bytes t l.named) (types_in l.self.pairs.now) ≡ any_slot_of t (name_bytes t l.named) (types_in (chunks_exact_rest l.pair-iterator)))
