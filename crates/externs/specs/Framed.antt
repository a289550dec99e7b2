-- Words changed only from one place to another; steps for each of a list, in two parts. Laws of it. Assumes nothing.
use Rattle.std.specs.Prelude.{ℕ, ◌+◌, ◌≤◌, ◌<◌, ◌≡◌, set, length, take}
use Rattle.std.proofs.Math.Path.{refl}
use Rattle.std.proofs.Common.{sym, ap, ◌∙◌, arith, length-set, take-take}
use mathlib.Core.List.{List, [], ◌∷◌, ◌++◌}
use Rattle.std.proofs.lemmas.List.{take-set-le}
use Rattle.tok.specs.Step.{Result, ok, refused, next, return, Step, for_each}
use Rattle.ptype.specs.Add.{write}
use Rattle.laws.specs.Writes.{front-write, length-write}
use Rattle.visit.specs.StoreLaws.{AlikeFrom, alike_then, alike-more, write-alike, set-alike}

-- l' is l but for words from `at` to before `end`
pub record Framed (at end : ℕ) (l l' : List ℕ) : Type 0 where
  pub front : take at l' ≡ take at l
  pub back : AlikeFrom end l l'
  pub long : length l' ≡ length l

pub framed-same : (at end : ℕ) (l : List ℕ) → Framed at end l l
framed-same at end l = record { front = refl; back = record { from = λ j h. refl }; long = refl }

pub framed-write : (l : List ℕ) (at end : ℕ) (new : List ℕ) → at + length new ≤ end → Framed at end l (write l at new)
framed-write l at end new h = record { front = front-write l at at new (omega arith); back = write-alike l at end new h; long = length-write l at new }

pub framed-set : (l : List ℕ) (at end w : ℕ) → at < end → Framed at end l (set l at w)
framed-set l at end w h = record { front = take-set-le at l at w (omega arith); back = set-alike l at end w h; long = length-set l at w }

-- later changes at the same place or after it
pub framed_then : {a b c d : ℕ} {l l' l'' : List ℕ} → a ≤ c → b ≤ d → Framed a b l l' → Framed c d l' l'' → Framed a d l l''
framed_then {a} {b} {c} {d} {l} {l'} {l''} h k p q = record {
  front = sym (take-take a c l'' h) ∙ ap (take a) q.front ∙ take-take a c l' h ∙ p.front;
  back = alike_then (alike-more k p.back) q.back;
  long = q.long ∙ p.long;
}

pub framed_wide : {a b d : ℕ} {l l' : List ℕ} → b ≤ d → Framed a b l l' → Framed a d l l'
framed_wide h p = record { front = p.front; back = alike-more h p.back; long = p.long }

-- ── Steps for each of a list ──

module _ {S E A B : Type 0} (f : A → Step S E B) (ys : List A) where
  unfoldable others : List B → Step S E (List B)
  others ps = λ s. next (for_each f ys s) (λ qs. return (ps ++ qs))

  same : (r : Result S E (List B)) → r ≡ next r (λ qs. return ([] ++ qs))
  same (ok qs s) = refl
  same (refused x) = refl

  inner : (p : B) (ps : List B) (r : Result S E (List B)) → next (next r (λ qs. return (ps ++ qs))) (λ bs. return (p ∷ bs)) ≡ next r (λ qs. return ((p ∷ ps) ++ qs))
  inner p ps (ok qs s) = refl
  inner p ps (refused x) = refl

  consed : (p : B) (r : Result S E (List B)) → next (next r (λ ps. others ps)) (λ bs. return (p ∷ bs)) ≡ next (next r (λ bs. return (p ∷ bs))) (λ ps. others ps)
  unfolding others
  consed p (ok ps s) = inner p ps (for_each f ys s)
  consed p (refused x) = refl

  first : (xs : List A) → ((s : S) → for_each f (xs ++ ys) s ≡ next (for_each f xs s) (λ ps. others ps)) → (r : Result S E B)
      → next r (λ b. λ s. next (for_each f (xs ++ ys) s) (λ bs. return (b ∷ bs))) ≡ next (next r (λ b. λ s. next (for_each f xs s) (λ bs. return (b ∷ bs)))) (λ ps. others ps)
  first xs ih (ok b s) = rw ih (consed b (for_each f xs s))
  first xs ih (refused x) = refl

  all : (xs : List A) (s : S) → for_each f (xs ++ ys) s ≡ next (for_each f xs s) (λ ps. others ps)
  unfolding for_each others
  all [] s = same (for_each f ys s)
  all (x ∷ xs) s = first xs (λ s'. all xs s') (f x s)

  -- the first part went well, and then the second; or was refused
  pub each-ok : (xs : List A) (s : S) {s₁ s₂ : S} {ps qs : List B} → for_each f xs s ≡ ok ps s₁ → for_each f ys s₁ ≡ ok qs s₂ → for_each f (xs ++ ys) s ≡ ok (ps ++ qs) s₂
  unfolding others
  each-ok xs s e e' = all xs s ∙ rw (e, e') refl

  pub each-stops : (xs : List A) (s : S) {s₁ : S} {ps : List B} {x : E} → for_each f xs s ≡ ok ps s₁ → for_each f ys s₁ ≡ refused x → for_each f (xs ++ ys) s ≡ refused x
  unfolding others
  each-stops xs s e e' = all xs s ∙ rw (e, e') refl

-- one of a list
module _ {S E A B : Type 0} (f : A → Step S E B) (y : A) (ys : List A) where
  pub one_ok : {s s₁ : S} {b : B} → f y s ≡ ok b s₁ → for_each f (y ∷ []) s ≡ ok (b ∷ []) s₁
  unfolding for_each
  one_ok e = rw e refl

  pub one-stops : {s : S} {x : E} → f y s ≡ refused x → for_each f (y ∷ ys) s ≡ refused x
  unfolding for_each
  one-stops e = rw e refl
