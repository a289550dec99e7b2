-- Each return of `slot_type`, `add_wrap` and `apply_within`, over variables for what the calls gave: by the kind of the word.
-- By unfolding the definitions, and the laws of a Record added in parts. Assumes nothing.
use Rattle.std.specs.Prelude.{Option as Found, Some, None, Result as Answered, Ok, Err, unwrap_or, ◌⊎◌}
use Rattle.std.proofs.Common.{inl, inr}
use mathlib.Core.Path.{◌≡◌, refl, sym, ap, ◌∙◌}
use mathlib.Core.Bool.{Bool, true, false}
use mathlib.Core.Option.{Option}
use mathlib.Core.List.{List, [], ◌∷◌}
use Prim.Native.Nat.{ℕ, zero, suc, ◌+◌, ◌-◌, ◌*◌, ◌≤◌, min}
use native.Mathlib.Omega.{arith}
use lib.ListN.{get_or, length, take}
use lib.Dec.{leb}
use lib.Seq.{take-take, take_all, take-length}
use borrow.Author.Tests.{leb-true, leb-false}
use Rattle.tok.specs.Word.{kind_of, payload_of}
use Rattle.tok.specs.Text.{Texts, name_bytes}
use Rattle.tok.specs.Step.{Result, ok, Step, Refusal, next, return}
use Rattle.ptype.specs.Kinds.{wraps}
use Rattle.ptype.specs.declared.TypeKind.{TypeKind}
use Rattle.ptype.specs.declared.TypeKind.TheVariants as type
use Rattle.ptype.specs.TypeKind.{kind_of_type, number_of_type}
use Rattle.ptype.specs.TypeKindLaws.{type-number, type-wraps}
use Rattle.ptype.specs.Words.{inner_word, field_count, unfolded}
use Rattle.ptype.proofs.UnfoldLaws.{one_less}
use Rattle.ptype.proofs.GrowLaws.{agree-append}
use Rattle.ptype.specs.Add.{Buffer, buffer, append, write, add_wrap}
use Rattle.ptype.specs.Slots.{Binding, bound_to, bound_or, has_bound_slot}
use Rattle.add.specs.declared.AddError.{AddError}
use Rattle.add.specs.declared.Arena.{Arena}
use Rattle.add.specs.Answer.{Added, buffer_of, answer_of, result_of, Allocates, Adds}
use Rattle.add.specs.AllocLaws.{allocates_none, allocates_of, allocates_stop, allocates_then}
use Rattle.add.specs.Parts.{measured, record_from}
use Rattle.add.specs.StepLaws.{next-ok}
use Rattle.add.specs.PartsLaws.{record_steps}
use Rattle.slots.specs.Bindings.{found_of}
use Rattle.apply.specs.Apply.{apply_pairs, apply_inside, apply_within, apply_word, only}
use Rattle.apply.specs.StepLaws.{inside-slot, inside-wrap, inside_record, inside-rest, within-free, within-inside}
use Rattle.apply.specs.SizeLaws.{slot-stays}

-- the number of a kind that holds a type
pub wrap-number : {x : TypeKind} (k : ℕ) → x ≡ kind_of_type k → (x ≡ type.Option) ⊎ (x ≡ type.Array) → number_of_type x ≡ k
wrap-number k e (inl p) = ap number_of_type p ∙ sym (type-number k (sym p ∙ e))
wrap-number k e (inr p) = ap number_of_type p ∙ sym (type-number k (sym p ∙ e))

-- a Record's holds no type of that kind
pub record_flat : (k : ℕ) → k ≡ 8 → wraps k ≡ false
record_flat k e = rw e refl

-- what a slot stands for
pub slot_or : (slot : ℕ) (f : Found ℕ) {o : Option ℕ} {r : ℕ} → found_of f ≡ o → r ≡ unwrap_or f slot → r ≡ bound_or slot o
unfolding bound_or
slot_or slot (Some w) e q = q ∙ ap (bound_or slot) e
slot_or slot None e q = q ∙ ap (bound_or slot) e

-- two words for each field
two-each : (go : ℕ → Step Buffer Refusal ℕ) (seen : Buffer → List ℕ) (left at : ℕ) (b : Buffer) (pairs : List ℕ) (b' : Buffer) → apply_pairs go seen at left b ≡ ok pairs b' → length pairs ≡ 2 * left
unfolding apply_pairs
two-each go seen zero at b pairs b' e =
    let h : [] ≡ pairs = cc in
    rw (← h)
two-each go seen (suc left) at b pairs b' e =
    let rest : ℕ → Step Buffer Refusal (List ℕ) = λ new s. next (apply_pairs go seen (at + 2) left s) (λ others. return (get_or (seen b) at 0 ∷ new ∷ others)) in
    let x = next-ok (go (get_or (seen b) (at + 1) 0) b) rest pairs b' e in
    let y = next-ok (apply_pairs go seen (at + 2) left x.1) (λ others. return (get_or (seen b) at 0 ∷ x.0 ∷ others)) pairs b' x.3 in
    let l : get_or (seen b) at 0 ∷ x.0 ∷ y.0 ≡ pairs = cc y.3 in
    rw (← l) (omega (arith, two-each go seen left (at + 2) x.1 y.0 y.1 y.2))

-- words written past the front leave it as it was
take-write : (l : List ℕ) (at : ℕ) (new : List ℕ) → take at (write l at new) ≡ take at l
unfolding append
take-write l at new = sym (agree-append (buffer l at) new).front

pub front-write : (base at : ℕ) (l new : List ℕ) → base ≤ at → take base (write l at new) ≡ take base l
front-write base at l new h = sym (take-take base at (write l at new) h) ∙ ap (take base) (take-write l at new) ∙ take-take base at l h

-- as many words as are used, or as there are
take-least : (used : ℕ) (l : List ℕ) → take (min used (length l)) l ≡ take used l
take-least used l = by (leb used (length l)) refl
  where
    by : (q : Bool) → leb used (length l) ≡ q → take (min used (length l)) l ≡ take used l
    by true e =
        let h = leb-true used (length l) e in
        let z : min used (length l) ≡ used = omega arith in
        ap (λ m. take m l) z
    by false e =
        let h = leb-false used (length l) e in
        let z : min used (length l) ≡ length l = omega arith in
        ap (λ m. take m l) z ∙ take-length l ∙ sym (take_all used l (omega arith))

pub apply-start : (t : Texts) (n : ℕ) (bs : List Binding) (l : List ℕ) (used w base : ℕ) {y : Result Buffer Refusal ℕ} → base ≡ min used (length l)
    → apply_within t n bs (only (take base l)) 33 w (buffer l used) ≡ y → apply_word t n bs w (buffer l used) ≡ y
unfolding apply_word
apply-start t n bs l used w base e h =
    let o : take base l ≡ take used l = ap (λ m. take m l) e ∙ take-least used l in
    rw o at h

-- on the arena that was made of these words, which are what it leaves
pub start-given : (t : Texts) (bs : List Binding) (w : ℕ) {l : List ℕ} {used base : ℕ} {a a₁ : Arena} {r : Answered ℕ AddError} {x : Added} {new : List ℕ} → base ≡ min used (length l)
    → (a.words.now ≡ l) × (a.used ≡ used) → Allocates (λ _ n. apply_within t n bs (only (take base a.words.now)) 33 w) a r a₁ → x ≡ answer_of r a₁.used → new ≡ a₁.words.now
    → (n : ℕ) → apply_word t n bs w (buffer l used) ≡ result_of n x new
start-given t bs w {l} {used} {base} e m g ex el n =
    let step = g.result t n in
    rw (ex, el) (apply-start t n bs l used w base e (rw (m.0, m.1) at step))

-- ── A word, as deep as `deep` says, read from the words `old` ──

module _ (t : Texts) (n : ℕ) (bs : List Binding) (old l : List ℕ) (used w deep : ℕ) where
  abbrev Gives : Result Buffer Refusal ℕ → Type 0
  Gives y = apply_within t n bs (only old) deep w (buffer l used) ≡ y

  pub apply-none : deep ≡ 0 → Gives (ok w (buffer l used))
  unfolding apply_within
  apply-none e = rw e

  module _ {k : ℕ} (p : deep ≡ 0 → ⊥) (hk : k ≡ kind_of w) where
    pub apply-slot : {x : ℕ} → k ≡ 10 → x ≡ bound_or w (bound_to (name_bytes t w) bs) → Gives (ok x (buffer l used))
    apply-slot {x} e hx = by (has_bound_slot bs (unfolded t old deep w)) refl
      where
        by : (q : Bool) → has_bound_slot bs (unfolded t old deep w) ≡ q → Gives (ok x (buffer l used))
        by true z =
            within-inside t n bs (only old) w (buffer l used) (one_less p) z ∙ (inside-slot t n bs (only old) (apply_within t n bs (only old) (deep - 1)) w (buffer l used) hk e ∙ rw hx)
        by false z = within-free t n bs (only old) w (buffer l used) (one_less p) z ∙ rw (hx, slot-stays t bs old w (one_less p) (sym hk ∙ e) z)

    module _ {q : Bool} {seen : List ℕ} (eo : seen ≡ old) (ns : k ≡ 10 → ⊥) (hq : q ≡ has_bound_slot bs (unfolded t seen deep w)) where
      has-is : q ≡ has_bound_slot bs (unfolded t old deep w)
      has-is = rw eo at hq

      pub apply-free : q ≡ false → Gives (ok w (buffer l used))
      apply-free e = within-free t n bs (only old) w (buffer l used) (one_less p) (sym has-is ∙ e)

      module _ (has : q ≡ true) where
        inside_is : Gives (apply_inside t n bs (only old) (apply_within t n bs (only old) (deep - 1)) w (buffer l used))
        inside_is = within-inside t n bs (only old) w (buffer l used) (one_less p) (sym has-is ∙ has)

        pub wrap-is : {x : ℕ} → wraps k ≡ true → x ≡ inner_word seen w → Gives (next (apply_within t n bs (only old) (deep - 1) x (buffer l used)) (add_wrap t n k))
        wrap-is hw hx =
            inside_is ∙ (inside-wrap t n bs (only old) (apply_within t n bs (only old) (deep - 1)) w (buffer l used) hk ns hw ∙ rw (← (rw eo at hx)))

        module _ (nw : wraps k ≡ false) where
          pub record_is : {x m : ℕ} → k ≡ 8 → x ≡ payload_of w → m ≡ field_count seen w
              → Gives (next (record_from n m 0 (apply_pairs (apply_within t n bs (only old) (deep - 1)) (only old) (x + 1) m) (buffer l used)) (measured t n))
          record_is {x} {m} e hx hm =
              let go = apply_within t n bs (only old) (deep - 1) in
              let ho : m ≡ field_count old w = rw eo at hm in
              inside_is
              ∙ (inside_record t n bs (only old) go w (buffer l used) hk ns nw e
              ∙ rw (← ho, ← hx)
              (record_steps t n m (apply_pairs go (only old) (x + 1) m) (buffer l used) (λ pairs b. two-each go (only old) m (x + 1) (buffer l used) pairs b)))

          pub apply-rest : (k ≡ 8 → ⊥) → Gives (ok w (buffer l used))
          apply-rest d = inside_is ∙ inside-rest t n bs (only old) (apply_within t n bs (only old) (deep - 1)) w (buffer l used) hk ns nw d

-- ── The same on an arena ──

module _ (t : Texts) (bs : List Binding) (old : List ℕ) (a : Arena) (w deep : ℕ) where
  abbrev Given : Answered ℕ AddError → Arena → Type 0
  Given r a' = Allocates (λ _ n. apply_within t n bs (only old) deep w) a r a'

  pub none-given : deep ≡ 0 → Given (Ok w) a
  none-given e = allocates_none (λ _ n. apply-none t n bs old a.words.now a.used w deep e)

  module _ {k : ℕ} (p : deep ≡ 0 → ⊥) (hk : k ≡ kind_of w) where
    pub slot-given : {x : ℕ} → k ≡ 10 → x ≡ bound_or w (bound_to (name_bytes t w) bs) → Given (Ok x) a
    slot-given e hx = allocates_none (λ _ n. apply-slot t n bs old a.words.now a.used w deep p hk e hx)

    module _ {q : Bool} {seen : List ℕ} (eo : seen ≡ old) (ns : k ≡ 10 → ⊥) (hq : q ≡ has_bound_slot bs (unfolded t seen deep w)) where
      pub free-given : q ≡ false → Given (Ok w) a
      free-given e = allocates_none (λ _ n. apply-free t n bs old a.words.now a.used w deep p hk eo ns hq e)

      module _ (has : q ≡ true) where
        module _ {x : ℕ} {seen' : List ℕ} {kind : TypeKind} (eo' : seen' ≡ old) (hw : (kind ≡ type.Option) ⊎ (kind ≡ type.Array)) (ek : kind ≡ kind_of_type k) (hx : x ≡ inner_word seen' w) where
          wrapping : (n : ℕ) → apply_within t n bs (only old) deep w (buffer_of a) ≡ next (apply_within t n bs (only old) (deep - 1) x (buffer_of a)) (add_wrap t n (number_of_type kind))
          wrapping n =
              let hx' : x ≡ inner_word seen w = rw (eo, ← eo') hx in
              rw (wrap-number k ek hw) (wrap-is t n bs old a.words.now a.used w deep p hk eo ns hq has (type-wraps k ek hw) hx')

          pub wrap-stop : {e : AddError} {a₁ : Arena} → Allocates (λ _ n. apply_within t n bs (only old) (deep - 1) x) a (Err e) a₁ → Given (Err e) a₁
          wrap-stop = allocates_stop (λ _ n. add_wrap t n (number_of_type kind)) (λ _ n. wrapping n)

          pub wrap-put : {v : ℕ} {r : Answered ℕ AddError} {a₁ a₂ : Arena} → Allocates (λ _ n. apply_within t n bs (only old) (deep - 1) x) a (Ok v) a₁
              → Adds (λ t n. add_wrap t n (number_of_type kind) v) a₁ r a₂ → Given r a₂
          wrap-put g h = allocates_then (λ _ n. add_wrap t n (number_of_type kind)) (λ _ n. wrapping n) g (allocates_of t h.allocates)

        module _ {x m : ℕ} {seen' : List ℕ} (eo' : seen' ≡ old) (e : k ≡ 8) (hx : x ≡ payload_of w) (hm : m ≡ field_count seen' w) where
          abbrev fields-steps : (n : ℕ) → Step Buffer Refusal ℕ
          fields-steps n = record_from n m 0 (apply_pairs (apply_within t n bs (only old) (deep - 1)) (only old) (x + 1) m)

          measuring : (n : ℕ) → apply_within t n bs (only old) deep w (buffer_of a) ≡ next (fields-steps n (buffer_of a)) (measured t n)
          measuring n =
              let hm' : m ≡ field_count seen w = rw (eo, ← eo') hm in
              record_is t n bs old a.words.now a.used w deep p hk eo ns hq has (record_flat k e) e hx hm'

          pub record_refused : {y : AddError} {a₁ : Arena} → Allocates (λ _ n. fields-steps n) a (Err y) a₁ → Given (Err y) a₁
          record_refused = allocates_stop (λ _ n. measured t n) (λ _ n. measuring n)

          pub record_closed : {v : ℕ} {r : Answered ℕ AddError} {a₁ : Arena} → Allocates (λ _ n. fields-steps n) a (Ok v) a₁
              → ((T : Texts) (n : ℕ) → measured T n v (buffer_of a₁) ≡ result_of n (answer_of r a₁.used) a₁.words.now) → Given r a₁
          record_closed g c = allocates_then (λ _ n. measured t n) (λ _ n. measuring n) g (record { lent = refl; keeps = refl; result = λ _ n. c t n })

        pub rest-given : wraps k ≡ false → (k ≡ 8 → ⊥) → Given (Ok w) a
        rest-given nw d = allocates_none (λ _ n. apply-rest t n bs old a.words.now a.used w deep p hk eo ns hq has nw d)
