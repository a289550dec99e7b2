-- The text of candidates: of one by its place, of all turn by turn. Assumes nothing.
use Prim.Native.Nat.{ℕ, zero, suc, ◌+◌}
use mathlib.Core.Path.{◌≡◌, refl, ap, ap₂, ◌∙◌}
use mathlib.Core.Bool.{Bool}
use mathlib.Core.List.{List, [], ◌∷◌, ◌++◌, map}
use native.Mathlib.Numerals.{add-one}
use native.Mathlib.Omega.{arith}
use lib.ListN.{get_or, drop}
use lib.Seq.{get_or-drop}
use Rattle.tok.specs.Text.{Texts, text}
use Rattle.ptype.specs.Ty.{Ty}
use Rattle.ptype.specs.Words.{ty_of, fields_from}
use Rattle.display.specs.declared.Writer.{Writer}
use Rattle.display.specs.Joined.{joined, sig, separated}
use Rattle.display.specs.JoinedLaws.{joined_after, joined-start, joined-turn, joined_end}
use Rattle.display.specs.Signature.{arg_types}
use Rattle.display.specs.WritingLaws.{Owes}
use Rattle.err_calls.specs.Candidates.{candidate_at}
use Rattle.library.specs.Package.{Signature, params_from}
use Rattle.library.specs.Signatures.{signature_at}
use Rattle.selection.specs.Candidates.{param_types}
use Rattle.group_select.specs.Selects.{candidate_types}

-- ── One candidate ──

module _ (texts : Texts) (types words : List ℕ) where
  fields-params : (k start i j : ℕ) → j ≡ start + i → arg_types (fields_from (ty_of texts types) texts (drop start words) i k) ≡ param_types (ty_of texts types) (params_from words j k)
  unfolding arg_types fields_from params_from
  fields-params zero start i j e = refl
  fields-params (suc k) start i j e =
      let p : start + (i + 1) ≡ j + 1 = omega arith in
      ap₂ (λ (t : Ty) (ts : List Ty). t ∷ ts) (ap (ty_of texts types) (get_or-drop start words (i + 1) 0 ∙ ap (λ a. get_or words a 0) p)) (fields-params k start (i + 2) (j + 2) (omega arith))

  -- the types of its arguments, as they are written
  pub candidate_is : (at : ℕ) (slotted : Bool) {f : Signature} → signature_at words at slotted ≡ f → candidate_at texts types words at ≡ param_types (ty_of texts types) f.params
  unfolding candidate_at signature_at
  candidate_is at slotted e =
      let p : at + 0 ≡ at = omega arith in
      let q : get_or (drop at words) 0 0 ≡ get_or words at 0 = get_or-drop at words 0 0 ∙ ap (λ a. get_or words a 0) p in
      rw q (fields-params (get_or words at 0) at 1 (at + 1) refl) ∙ ap (λ g. param_types (ty_of texts types) g.params) e

-- ── All of them: some are written, the others are owed; `count` is 0 while none is written ──

-- the separator is the same before each but the first
joined-later : (n : ℕ) (sep : List ℕ) (ps : List (List ℕ)) → joined_after (n + 1) sep ps ≡ joined_after 1 sep ps
unfolding joined_after
joined-later n sep ps = rw add-one refl

module _ (texts : Texts) (types : List ℕ) (fs : List Signature) where
  -- the text of candidates
  abbrev pub listed : List Signature → List (List ℕ)
  listed gs = map sig (candidate_types (ty_of texts types) gs)

  -- those that are left are owed
  pub record Listing (w₀ w : Writer) (left : List Signature) (count : ℕ) : Type 0 where
    pub owes : Owes w₀ (joined (text " | ") (listed fs)) w (joined_after count (text " | ") (listed left))

  pub listing-begin : (w : Writer) {left : List Signature} → left ≡ fs → Listing w w left 0
  listing-begin w e = record { owes = (refl, rw (e, joined-start (text " | ") (listed fs))) }

  module _ {w₀ w : Writer} {left : List Signature} {count : ℕ} (l : Listing w₀ w left count) where
    -- none are left
    pub listing-over : left ≡ [] → Owes w₀ (joined (text " | ") (listed fs)) w []
    listing-over e = (l.owes.0, l.owes.1 ∙ rw (e, joined_end count (text " | ")))

    module _ {f : Signature} {others : List Signature} (e : left ≡ f ∷ others) where
      -- one is taken: it is owed after the separator, and then the others
      pub listing-turn : joined_after count (text " | ") (listed left)
          ≡ separated count (text " | ") ++ sig (param_types (ty_of texts types) f.params) ++ joined_after (count + 1) (text " | ") (listed others)
      listing-turn = rw e (joined-turn count (text " | ") (sig (param_types (ty_of texts types) f.params)) (listed others))

      pub listing-more : {v : Writer} → Owes w₀ (joined (text " | ") (listed fs)) v (joined_after (count + 1) (text " | ") (listed others)) → Listing w₀ v others 1
      listing-more p = record { owes = (p.0, p.1 ∙ rw (joined-later count (text " | ") (listed others)) refl) }
