-- Laws of `many`, the same rule read again and again, as a loop reads it: one more after those before. Assumes nothing.
use Prim.Native.Nat.{ℕ, zero, suc, ◌≤◌, ◌<◌}
use Rattle.std.specs.Prelude.{◌≡◌, List, [], ◌∷◌, ◌++◌, Ok, Err}
use Rattle.std.proofs.Math.Path.{refl}
use Rattle.std.proofs.Common.{ap, ◌∙◌, le_of_suc-le-suc, not-suc-le-zero}
use Rattle.tok.specs.Step.{Result, ok, refused, next, ◌>>=◌, return}
use Rattle.tok.specs.Reader.{Cursor, Read, many}
use Rattle.reader.specs.declared.Fault.{Fault}
use Rattle.reader.specs.Reading.{Reader, standing, onward, gave}
use Rattle.reader.specs.Laws.{onward_then, onward_stops}

module _ {A : Type 0} (m : Read A) where
  -- those before, then one more
  abbrev one_more : List A → Read (List A)
  one_more xs = ◌>>=◌ m (λ a. return (xs ++ (a ∷ [])))

  more_of : (a : A) (xs : List A) (r : Result Cursor ℕ A)
      → next (next r (λ b. return (xs ++ (b ∷ [])))) (λ bs. return (a ∷ bs)) ≡ next r (λ b. return (a ∷ xs ++ (b ∷ [])))
  more_of a xs (ok b c) = refl
  more_of a xs (refused p) = refl

  more-then : (a : A) (r : Result Cursor ℕ (List A)) → next (next r one_more) (λ bs. return (a ∷ bs)) ≡ next (next r (λ bs. return (a ∷ bs))) one_more
  more-then a (ok xs c) = more_of a xs (m c)
  more-then a (refused p) = refl

  many-after : (n : ℕ) (r : Result Cursor ℕ A) → ((c : Cursor) → many (suc n) m c ≡ next (many n m c) one_more)
      → next r (λ a. ◌>>=◌ (many (suc n) m) (λ bs. return (a ∷ bs))) ≡ next (next r (λ a. ◌>>=◌ (many n m) (λ bs. return (a ∷ bs)))) one_more
  many-after n (ok a c) h = ap (λ r. next r (λ bs. return (a ∷ bs))) (h c) ∙ more-then a (many n m c)
  many-after n (refused p) h = refl

  pub many-suc : (n : ℕ) (c : Cursor) → many (suc n) m c ≡ next (many n m c) one_more
  unfolding many
  many-suc zero c = refl
  many-suc (suc n) c = many-after n (m c) (many-suc n)

  -- a fault among the first ends all
  later-stops : (j n : ℕ) (a : A) (r : Result Cursor ℕ (List A)) (p : ℕ) {s : Result Cursor ℕ (List A)} → (r ≡ refused p → s ≡ refused p)
      → next r (λ bs. return (a ∷ bs)) ≡ refused p → next s (λ bs. return (a ∷ bs)) ≡ refused p
  later-stops j n a (ok xs c) p h e = cc
  later-stops j n a (refused q) p {s} h e = rw (h (cc)) refl

  stops-after : (j n : ℕ) (p : ℕ) (r : Result Cursor ℕ A) → ((c : Cursor) → many j m c ≡ refused p → many n m c ≡ refused p)
      → next r (λ a. ◌>>=◌ (many j m) (λ bs. return (a ∷ bs))) ≡ refused p → next r (λ a. ◌>>=◌ (many n m) (λ bs. return (a ∷ bs))) ≡ refused p
  stops-after j n p (ok a c) h e = later-stops j n a (many j m c) p (h c) e
  stops-after j n p (refused q) h e = e

  pub many-stops : (j n : ℕ) → j ≤ n → (p : ℕ) (c : Cursor) → many j m c ≡ refused p → many n m c ≡ refused p
  unfolding many
  many-stops zero n h p c e = cc
  many-stops (suc j) zero h p c e = absurd (not-suc-le-zero h)
  many-stops (suc j) (suc n) h p c e = stops-after j n p (m c) (many-stops j n (le_of_suc-le-suc h) p) e

  -- ── As the code's loop reads them ──

  module _ (from mid : Reader) (i : ℕ) (xs : List A) (so_far : onward from (many i m) ≡ gave xs (Ok mid)) (a : A) where
    pub many_more : (to : Reader) → onward mid m ≡ gave a (Ok to) → onward from (many (suc i) m) ≡ gave (xs ++ (a ∷ [])) (Ok to)
    unfolding gave
    many_more to e = many-suc i (standing from.words from.at from.least) ∙ onward_then from (many i m) one_more xs mid so_far ∙ onward_then mid m (λ b. return (xs ++ (b ∷ []))) a to e

    pub many_faulted : (fault : Fault) (n : ℕ) (bs : List A) → i < n → onward mid m ≡ gave a (Err fault) → onward from (many n m) ≡ gave bs (Err fault)
    unfolding gave
    many_faulted fault n bs l e =
        many-stops (suc i) n l fault.0 (standing from.words from.at from.least)
        (many-suc i (standing from.words from.at from.least) ∙ onward_then from (many i m) one_more xs mid so_far ∙ onward_stops mid m (λ b. return (xs ++ (b ∷ []))) a fault [] e)
