-- The names of the slots in a type, and what holds of all of them. By induction on the type. Assumes nothing.
use Rattle.std.specs.Prelude.{ℕ, ◌≡◌, Bool, ◌||◌, eqb}
use Rattle.std.proofs.Math.Path.{refl}
use Rattle.std.proofs.Math.Bool.{true, false, and-eq-true_iff}
use Rattle.std.proofs.lemmas.Bool.{false≢true}
use Rattle.std.proofs.Math.Logic.{inl, inr}
use mathlib.Core.List.{List, [], ◌∷◌, ◌++◌, map}
use Rattle.tok.specs.Text.{Texts, same_bytes}
use Rattle.tok.proofs.TextLaws.{same_bytes-true, eq_same_bytes}
use Rattle.ptype.specs.Ty.{Ty, Fields, plain, wrap, rec, named, no_field, field}
use Rattle.ptype.specs.Words.{ty_of}
use Rattle.library.specs.Package.{Param}
use Rattle.library.specs.Slots.{slot_names, slot_names_in, name_among}
use Rattle.library.specs.TypeWords.{either_true}
use Rattle.rules.specs.Walk.{param_types}
use Rattle.library_laws.specs.Slots.{slots_in}
use Rattle.onerun.specs.Claim.{slots_are, field_slots_are, all_slots_are}

-- a name among two lists
pub among-both : (n : List ℕ) (xs ys : List (List ℕ)) {P : Type 0} → name_among n (xs ++ ys) ≡ true → (name_among n xs ≡ true → P) → (name_among n ys ≡ true → P) → P
unfolding name_among
among-both n [] ys e h k = k e
among-both n (x ∷ xs) ys e h k = elim (either_true (same_bytes n x) (name_among n (xs ++ ys)) e) [
  | inl s ↦ h (rw s refl)
  | inr s ↦ among-both n xs ys s (λ q. h (rest (same_bytes n x) q)) k
]
  where
    rest : {a : Bool} (b : Bool) → a ≡ true → (b || a) ≡ true
    rest true e = refl
    rest false e = e

pub among-left : (n : List ℕ) (xs ys : List (List ℕ)) → name_among n xs ≡ true → name_among n (xs ++ ys) ≡ true
unfolding name_among
among-left n [] ys e = absurd (false≢true e)
among-left n (x ∷ xs) ys e = elim (either_true (same_bytes n x) (name_among n xs) e) [ inl s ↦ rw s refl | inr s ↦ later (same_bytes n x) (among-left n xs ys s) ]
  where
    later : {a : Bool} (b : Bool) → a ≡ true → (b || a) ≡ true
    later true e = refl
    later false e = e

pub among-right : (n : List ℕ) (xs ys : List (List ℕ)) → name_among n ys ≡ true → name_among n (xs ++ ys) ≡ true
unfolding name_among
among-right n [] ys e = e
among-right n (x ∷ xs) ys e = later (same_bytes n x) (among-right n xs ys e)
  where
    later : {a : Bool} (b : Bool) → a ≡ true → (b || a) ≡ true
    later true e = refl
    later false e = e

module _ (p : List ℕ → Bool) where
  -- what holds of every name holds of every slot
  slot-by : (b : Bool) (n : List ℕ) → ((m : List ℕ) → name_among m (elim b [ true ↦ n ∷ [] | false ↦ [] ]) ≡ true → p m ≡ true) → elim b [ true ↦ p n | false ↦ true ] ≡ true
  unfolding name_among
  slot-by true n h = h n (rw (eq_same_bytes n n refl) refl)
  slot-by false n h = refl

  mutual
    unfolding slots_are slot_names name_among

    pub names-slots : (x : Ty) → ((n : List ℕ) → name_among n (slot_names x) ≡ true → p n ≡ true) → slots_are p x ≡ true
    names-slots (plain k) h = refl
    names-slots (wrap k x) h = names-slots x h
    names-slots (rec fs) h = names-fields fs h
    names-slots (named k n) h = slot-by (eqb k 10) n h

    names-fields : (fs : Fields) → ((n : List ℕ) → name_among n (slot_names_in fs) ≡ true → p n ≡ true) → field_slots_are p fs ≡ true
    names-fields no_field h = refl
    names-fields (field m x fs) h =
        rw (names-slots x (λ n e. h n (among-left n (slot_names x) (slot_names_in fs) e)), names-fields fs (λ n e. h n (among-right n (slot_names x) (slot_names_in fs) e))) refl

  -- and the other way
  by-slot : (b : Bool) (n m : List ℕ) → elim b [ true ↦ p n | false ↦ true ] ≡ true → name_among m (elim b [ true ↦ n ∷ [] | false ↦ [] ]) ≡ true → p m ≡ true
  unfolding name_among
  by-slot true n m h e = elim (either_true (same_bytes m n) false e) [ inl s ↦ rw (same_bytes-true m n s) h | inr s ↦ absurd (false≢true s) ]
  by-slot false n m h e = absurd (false≢true e)

  mutual
    unfolding slots_are slot_names name_among

    pub slots-names : (x : Ty) → slots_are p x ≡ true → (n : List ℕ) → name_among n (slot_names x) ≡ true → p n ≡ true
    slots-names (plain k) h n e = absurd (false≢true e)
    slots-names (wrap k x) h n e = slots-names x h n e
    slots-names (rec fs) h n e = fields-names fs h n e
    slots-names (named k m) h n e = by-slot (eqb k 10) m n h e

    fields-names : (fs : Fields) → field_slots_are p fs ≡ true → (n : List ℕ) → name_among n (slot_names_in fs) ≡ true → p n ≡ true
    fields-names no_field h n e = absurd (false≢true e)
    fields-names (field m x fs) h n e =
        let k = (and-eq-true_iff (slots_are p x) (field_slots_are p fs)).0 h in
        among-both n (slot_names x) (slot_names_in fs) e (λ i. slots-names x k.0 n i) (λ i. fields-names fs k.1 n i)

  -- of the parameters of a signature
  pub params-names : (t : Texts) (pool : List ℕ) (ps : List Param) → all_slots_are p (map (λ a. ty_of t pool a.type) ps) ≡ true
      → (n : List ℕ) → name_among n (slots_in t pool (param_types ps)) ≡ true → p n ≡ true
  unfolding all_slots_are slots_in param_types name_among
  params-names t pool [] h n e = absurd (false≢true e)
  params-names t pool (a ∷ ps) h n e =
      let k = (and-eq-true_iff (slots_are p (ty_of t pool a.type)) (all_slots_are p (map (λ a. ty_of t pool a.type) ps))).0 h in
      among-both n (slot_names (ty_of t pool a.type)) (slots_in t pool (param_types ps)) e (λ i. slots-names (ty_of t pool a.type) k.0 n i) (λ i. params-names t pool ps k.1 n i)
