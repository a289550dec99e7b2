-- Finding entries as the code does it, one law for each way out. Assumes nothing.
use Rattle.std.specs.Prelude.{Some, None}
use Prim.Native.Nat.{ℕ, suc, ◌+◌, ◌-◌, ◌≤◌, ◌<◌, min}
use mathlib.Core.Path.{◌≡◌, refl, sym, ap, ◌∙◌}
use mathlib.Core.Bool.{Bool, true, false}
use mathlib.Core.List.{List, ◌∷◌}
use native.Mathlib.Omega.{arith}
use native.Mathlib.Nat.{le_refl}
use lib.ListN.{length, get_or}
use Rattle.tok.specs.Text.{Texts, name_bytes, same_bytes}
use Rattle.library.specs.Package.{Signature, group_of}
use Rattle.library.specs.Signatures.{signature_at, slotted, entry_at, entry_end, entries_from}
use Rattle.library.specs.Entries.{flag_words, Finds}
use Rattle.library.specs.EntryLaws.{entries-held}

-- ── Finding ──

pub flag_low : (flagged : Bool) → flag_words flagged ≤ 1
flag_low true = omega arith
flag_low false = omega arith

-- the loop over entries
module _ (t : Texts) (name words : List ℕ) (flagged : Bool) (from k : ℕ) where
  abbrev group : (at left : ℕ) → List Signature
  group at left = group_of t name (entries_from words (flag_words flagged) at left)

  -- those that are left hold the whole group
  pub record Left (at left : ℕ) : Type 0 where
    pub within : at ≤ length words
    pub fewer : left ≤ k
    pub rest : group from k ≡ group at left

  pub group-begin : {at : ℕ} → at ≡ min from (length words) → Left at k
  group-begin e = record { within = omega arith; fewer = le_refl k; rest = rw e (ap (group_of t name) (sym (entries-held words (flag_words flagged) k from))) }

  entry_first : (at k : ℕ) {w : ℕ} {b : List ℕ} {r : Bool} → w ≡ get_or words at 0 → b ≡ name_bytes t w → r ≡ same_bytes name b
      → group at (suc k)
      ≡ elim r [
        | true ↦ signature_at words (at + 1 + flag_words flagged) (slotted words (flag_words flagged) at) ∷ group (entry_end words (flag_words flagged) at) k
        | false ↦ group (entry_end words (flag_words flagged) at) k
      ]
  unfolding group_of entries_from entry_at
  entry_first at k ew eb er = rw (er, eb, ew) refl

  module _ {at left : ℕ} (h : Left at left) where
    module _ {w : ℕ} {b : List ℕ} {r : Bool} (l : 0 < left) (ew : w ≡ get_or words at 0) (eb : b ≡ name_bytes t w) (er : r ≡ same_bytes name b) where
      others : {next : ℕ} → next ≡ min (entry_end words (flag_words flagged) at) (length words) → group (entry_end words (flag_words flagged) at) (left - 1) ≡ group next (left - 1)
      others e = rw e (ap (group_of t name) (sym (entries-held words (flag_words flagged) (left - 1) (entry_end words (flag_words flagged) at))))

      first : group from k
          ≡ elim r [
            | true ↦ signature_at words (at + 1 + flag_words flagged) (slotted words (flag_words flagged) at) ∷ group (entry_end words (flag_words flagged) at) (left - 1)
            | false ↦ group (entry_end words (flag_words flagged) at) (left - 1)
          ]
      first =
          let s : left ≡ suc (left - 1) = omega arith in
          h.rest ∙ ap (group at) s ∙ entry_first at (left - 1) ew eb er

      pub group-found : {f : Bool} {flags next : ℕ} → r ≡ true → f ≡ slotted words (flag_words flagged) at → flags ≡ flag_words flagged
          → next ≡ min (entry_end words (flag_words flagged) at) (length words)
          → Finds t name words (flag_words flagged) from k (Some (record { slotted = f; at = at + 1 + flags; next = next; left = left - 1 }))
      group-found y ef e en = record {
        is = first ∙ rw (y, others en, ef, e) refl;
        near = omega (arith, h.within, flag_low flagged);
        fewer = omega (arith, h.fewer);
      }

      pub group-past : {next : ℕ} → r ≡ false → next ≡ min (entry_end words (flag_words flagged) at) (length words) → Left next (left - 1)
      group-past n en = record { within = omega arith; fewer = omega (arith, h.fewer); rest = first ∙ rw (n, others en) refl }

    pub group-none : left ≤ 0 → Finds t name words (flag_words flagged) from k None
    unfolding group_of entries_from
    group-none l =
        let s : left ≡ 0 = omega arith in
        record { is = h.rest ∙ ap (group at) s; near = omega arith; fewer = omega arith }
