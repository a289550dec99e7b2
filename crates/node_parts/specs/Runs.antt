-- The parts of a node as a run of words of its record: the same numbers as `parts_at` (image_laws), said by where they stand. A Match has
-- several runs, one after the other, and none here. Definitions, and the law.
use Prim.Native.Nat.{ℕ, zero, suc, ◌+◌, ◌*◌, ◌-◌, ◌/◌, ◌^◌, ◌≤◌, ◌<◌}
use Rattle.std.specs.Prelude.{◌≡◌, List, [], ◌∷◌, length, get_or}
use Rattle.std.proofs.Math.Path.{refl, ap}
use Rattle.std.proofs.Common.{sym}
use native.Mathlib.Omega.{arith}
use Rattle.ast.specs.Image.{word_at, record_kind, record_length}
use Rattle.image_laws.specs.OutlineAt.{parts_from, case_parts, parts_by_kind, parts_at}
use Rattle.node_parts.specs.declared.Run.{Run}
use Rattle.node_parts.specs.declared.Parts.{Parts}
use Rattle.node_parts.specs.declared.Parts.TheVariants as parts

abbrev pub run : (from count step : ℕ) → Run
run from count step = record { from = from; count = count; step = step }

-- the word in which its number k stands
abbrev pub place_of : Run → ℕ → ℕ
place_of r k = r.from + r.step * k

-- the numbers in a run
abbrev pub numbers_in : List ℕ → Run → List ℕ
numbers_in image r = parts_from image r.step r.from r.count

abbrev pub RunReader : Type 0
RunReader = List ℕ → (at : ℕ) → Run

abbrev pub no_run : RunReader
no_run image at = run 0 0 1

-- 2 Bin: token, operator, left, right
abbrev pub bin_run : RunReader
bin_run image at = run (at + 4) 2 1

-- 3 Unary: token, operator, right
abbrev pub unary_run : RunReader
unary_run image at = run (at + 4) 1 1

-- 4 Let: name, right
abbrev pub let_run : RunReader
let_run image at = run (at + 3) 1 1

-- 5 Fn: name, return type, argument count, name and type of each, body
abbrev pub fn_run : RunReader
fn_run image at = let count : ℕ = word_at image (at + 4) in run (at + 5 + 2 * count) (record_length image at - (5 + 2 * count)) 1

-- 7 Call: target, arguments
abbrev pub call_run : RunReader
call_run image at = run (at + 2) (1 + (record_length image at - 3)) 1

-- 8 Field: target, name
abbrev pub field_run : RunReader
field_run image at = run (at + 2) 1 1

-- 9 Cast: token, left, type
abbrev pub cast_run : RunReader
cast_run image at = run (at + 3) 1 1

-- 12 Record: token, name and value pairs
abbrev pub record_run : RunReader
record_run image at = run (at + 4) ((record_length image at - 3) / 2) 2

-- 13 Array: token, members
abbrev pub array_run : RunReader
array_run image at = run (at + 3) (record_length image at - 3) 1

unfoldable pub runs_by_kind : List RunReader
runs_by_kind =
    no_run ∷ no_run ∷ bin_run ∷ unary_run ∷ let_run ∷ fn_run ∷ no_run ∷ call_run ∷ field_run ∷ cast_run ∷ no_run ∷ no_run ∷ record_run ∷ array_run ∷ []

unfoldable pub run_at : RunReader
run_at image at = get_or runs_by_kind (record_kind image at) no_run image at

-- what the code hands out: the run, whose places can be counted in 64 bits
pub record RunHere (image : List ℕ) (at : ℕ) (r : Run) : Type 0 where
  pub is : r ≡ run_at image at
  pub near : r.step ≤ 2
  pub small : r.from + 2 * r.count < 2 ^ 62

-- the numbers of a node's parts, by where they stand
abbrev pub numbers_of : List ℕ → Parts → List ℕ
numbers_of image (parts.Run r) = numbers_in image r
numbers_of image (parts.Cases c) = case_parts image c.end c.from c.count

-- their places can be counted in 64 bits
abbrev pub Small : List ℕ → Parts → Type 0
Small image (parts.Run r) = (r.step ≤ 2) × (r.from + 2 * r.count < 2 ^ 63)
Small image (parts.Cases c) = (c.from ≤ length image + 3) × (c.count < 2 ^ 32) × (c.end < 2 ^ 62)

-- what the code hands out: where the parts of the node at a place stand
pub record PartsHere (image : List ℕ) (at : ℕ) (p : Parts) : Type 0 where
  pub are : numbers_of image p ≡ parts_at image at
  pub small : Small image p

-- ── The law ──

module _ (image : List ℕ) (at : ℕ) where
  two : (i j : ℕ) → j ≡ i + 1 → parts_from image 1 i 2 ≡ word_at image i ∷ word_at image j ∷ []
  unfolding parts_from
  two i j e = ap (λ k. word_at image i ∷ word_at image k ∷ []) (sym e)

  one : (i : ℕ) → parts_from image 1 i 1 ≡ word_at image i ∷ []
  unfolding parts_from
  one i = refl

  more : (i j k : ℕ) → j ≡ i + 1 → parts_from image 1 i (1 + k) ≡ word_at image i ∷ parts_from image 1 j k
  unfolding parts_from
  more i j k e = let s : 1 + k ≡ suc k = omega arith in rw (s, e) refl

  run_by : (k : ℕ) → record_kind image at ≡ k → (k ≡ 6 → ⊥) → numbers_in image (run_at image at) ≡ parts_at image at
  unfolding run_at runs_by_kind parts_at parts_by_kind parts_from
  run_by zero e d = rw (e, run_at, parts_at) refl
  run_by (suc zero) e d = rw (e, run_at, parts_at) refl
  run_by (suc (suc zero)) e d = rw (e, run_at, parts_at) (two (at + 4) (at + 5) (omega arith))
  run_by (suc (suc (suc zero))) e d = rw (e, run_at, parts_at) (one (at + 4))
  run_by (suc (suc (suc (suc zero)))) e d = rw (e, run_at, parts_at) (one (at + 3))
  run_by (suc (suc (suc (suc (suc zero))))) e d = rw (e, run_at, parts_at) refl
  run_by (suc (suc (suc (suc (suc (suc zero)))))) e d = absurd (d refl)
  run_by (suc (suc (suc (suc (suc (suc (suc zero))))))) e d = rw (e, run_at, parts_at) (more (at + 2) (at + 3) (record_length image at - 3) (omega arith))
  run_by (suc (suc (suc (suc (suc (suc (suc (suc zero)))))))) e d = rw (e, run_at, parts_at) (one (at + 2))
  run_by (suc (suc (suc (suc (suc (suc (suc (suc (suc zero))))))))) e d = rw (e, run_at, parts_at) (one (at + 3))
  run_by (suc (suc (suc (suc (suc (suc (suc (suc (suc (suc zero)))))))))) e d = rw (e, run_at, parts_at) refl
  run_by (suc (suc (suc (suc (suc (suc (suc (suc (suc (suc (suc zero))))))))))) e d = rw (e, run_at, parts_at) refl
  run_by (suc (suc (suc (suc (suc (suc (suc (suc (suc (suc (suc (suc zero)))))))))))) e d = rw (e, run_at, parts_at) refl
  run_by (suc (suc (suc (suc (suc (suc (suc (suc (suc (suc (suc (suc (suc zero))))))))))))) e d = rw (e, run_at, parts_at) refl
  run_by (suc (suc (suc (suc (suc (suc (suc (suc (suc (suc (suc (suc (suc (suc k)))))))))))))) e d = rw (e, run_at, parts_at) refl

  -- the numbers in the run are the parts
  pub run-parts : (record_kind image at ≡ 6 → ⊥) → numbers_in image (run_at image at) ≡ parts_at image at
  run-parts d = run_by (record_kind image at) refl d
