-- `values::find_field` meets its contract. The loop's invariant: the fields left decide. Assumes nothing.
use Rattle.rules.specs.Rules.{find_field}
use Rattle.ptype.specs.Words.{field_count}
use Rattle.tok.specs.Text.{name_bytes}
use Rattle.tok.specs.Word.{payload_of}
use Prim.Native.Nat.{◌+◌, ◌-◌, ◌*◌}
use mathlib.Core.Path.{◌≡◌}
use Rattle.values.proofs.find_field.Given as goal

abbrev pub invariant-loop-i : goal.invariant-loop-i
invariant-loop-i l =
    let find = find_field l.types.texts.now l.types.words.now (name_bytes l.types.texts.now l.name) in
    find (payload_of l.word + 1) (field_count l.types.words.now l.word) ≡ find (l.first + 2 * l.i) (l.count - l.i)
