-- The rows of document 01's table whose definitions bear a name that is a word of the code's language, by another name; and those that hold
-- pairs, as image_words reads pairs. Assumes nothing.
use Prim.Native.Nat.{◌+◌, ◌*◌, ◌-◌, ◌/◌}
use mathlib.Core.List.{[]}
use mathlib.Core.Path.{◌≡◌, refl}
use lib.Dec.{leb}
use Rattle.tok.specs.Step.{◌>>=◌, return}
use Rattle.tok.specs.Reader.{word, many}
use Rattle.ast.specs.Outline.{Here, outline, owns, token, name, parts, type_part, typed_name}
use Rattle.ast.specs.NodeRecords.{good_arguments, fn, cases, match, good_function_count, extern_functions, extern, record_node, named_part}
use Rattle.image_laws.proofs.RecordLaws.{pair_rule}

pub fn_words : (h : Here) → fn h ≡ (do
  _ ← name h.counts
  _ ← type_part h.counts
  n ← word (good_arguments h)
  _ ← many n (pair_rule h.counts.text h.counts.types)
  body ← parts h (h.left - 3 - 2 * n)
  return (outline h n body))
unfolding fn typed_name
fn_words h = refl

pub match_words : (h : Here) → match h ≡ (do
  count ← word (λ k. leb (3 * k + 1) (h.left - 1))
  ps ← cases h count (h.left - 1)
  return (owns h ps))
unfolding match
match_words h = refl

pub extern_words : (h : Here) → extern h ≡ (do
  _ ← token h.counts
  _ ← name h.counts
  count ← word (good_function_count (h.left - 3))
  _ ← extern_functions h count (h.left - 3)
  return (owns h []))
unfolding extern
extern_words h = refl

pub record_words : (h : Here) → record_node h ≡ (do
  _ ← token h.counts
  values ← many ((h.left - 1) / 2) (pair_rule h.counts.text h.number)
  return (owns h values))
unfolding record_node named_part
record_words h = refl
