-- Laws of entries: those of the library are its functions; a place may be held to the end of the words. By induction on how many there are.
-- Assumes nothing.
use Prim.Native.Nat.{ℕ, zero, suc, ◌+◌, ◌*◌, ◌≤◌, min}
use Rattle.std.specs.Prelude.{◌≡◌, List, [], ◌∷◌, length}
use Rattle.std.proofs.Math.Path.{refl, sym, ap₂}
use Rattle.std.proofs.Common.{ap, ◌∙◌, arith}
use Rattle.std.proofs.Math.Decide.{dec_le}
use Rattle.std.proofs.Math.ListN.{get_or, get_or-eq_default}
use Rattle.library.specs.Package.{params_from, function_at, function_end, functions_from}
use Rattle.library.specs.Signatures.{signature_at, entry_at, entry_end, entries_from}

-- ── With one flag, entries are the library's functions ──

pub entry-library : (words : List ℕ) (at : ℕ) → entry_at words 1 at ≡ function_at words at
unfolding entry_at signature_at function_at
entry-library words at =
    let a : at + 1 + 1 ≡ at + 2 = omega arith in
    let b : at + 2 + 1 ≡ at + 3 = omega arith in
    rw (a, b)

pub entries-library : (words : List ℕ) (k at : ℕ) → entries_from words 1 at k ≡ functions_from words at k
unfolding entries_from functions_from
entries-library words zero at = refl
entries-library words (suc k) at =
    let a : at + 1 + 1 ≡ at + 2 = omega arith in
    let e : entry_end words 1 at ≡ function_end words at = rw a (omega arith) in
    ap₂ (λ f fs. f ∷ fs) (entry-library words at) (ap (λ n. entries_from words 1 n k) e ∙ entries-library words k (function_end words at))

-- ── Past the end of the words ──

module _ (words : List ℕ) (flags : ℕ) where
  past : (at : ℕ) → length words ≤ at → get_or words at 0 ≡ 0
  past at l = get_or-eq_default words 0 l

  entry_past : (at : ℕ) → length words ≤ at → entry_at words flags at ≡ entry_at [] flags 0
  unfolding entry_at signature_at params_from
  entry_past at l =
      let z : get_or words (at + 1 + flags) 0 ≡ 0 = past (at + 1 + flags) (omega arith) in
      rw (z, past at l, past (at + 1) (omega arith), past (at + 1 + flags + 1 + 2 * 0) (omega arith)) refl

  entries-past : (k a b : ℕ) → length words ≤ a → length words ≤ b → entries_from words flags a k ≡ entries_from words flags b k
  unfolding entries_from
  entries-past zero a b l m = refl
  entries-past (suc k) a b l m =
      ap₂ (λ f fs. f ∷ fs) (entry_past a l ∙ sym (entry_past b m)) (entries-past k (entry_end words flags a) (entry_end words flags b) (omega arith) (omega arith))

  pub entries-held : (k at : ℕ) → entries_from words flags (min at (length words)) k ≡ entries_from words flags at k
  entries-held k at = elim (dec_le at (length words)) [
    | yes l ↦
        let e : min at (length words) ≡ at = omega arith in
        ap (λ n. entries_from words flags n k) e
    | no l ↦ entries-past k (min at (length words)) at (omega arith) (omega arith)
  ]
