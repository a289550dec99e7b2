-- Binding slots and putting types for them, in two runs: the same bindings, errors and types. By induction on the expected type.
-- Assumes nothing.
use Rattle.std.specs.Prelude.{ℕ, ◌≡◌, refl, Bool, true, false, List}
use Rattle.std.proofs.Common.{ap, eqb-true}
use Rattle.std.proofs.Math.Option.{Option, some}
use Rattle.std.proofs.Math.Dec.{eqb}
use Rattle.tok.specs.Word.{kind_of}
use Rattle.tok.specs.Text.{Texts, same_bytes}
use Rattle.tok.specs.Step.{Step, Refusal}
use Rattle.ptype.specs.Ty.{Ty, Fields, plain, wrap, rec, named, no_field, field}
use Rattle.ptype.specs.Add.{Buffer}
use Rattle.ptype.specs.Slots.{Binding, bound_to, Bound, all_bound, conflict, void_slot, and_then, bind_found, bind_one, bind_slots}
use Rattle.ptype.specs.Slots.{bind_fields, is_some, has_bound_slot, any_bound_slot, bound_or, apply_slot_binding, apply_fields}
use Rattle.tworuns.specs.Means.{Means, flat, wrapped, recorded, called, FieldsMean, no_more, one_more, Grown, grown-same}
use Rattle.tworuns.specs.Runs.{Runs, Relation, Each, end, and, each_map, Both?, neither, present, SameType, Used, SameBinding, type_grow, binding_grow, same_kind, same_test}
use Rattle.tworuns.specs.Logic.{Typed, typed, t_next, t_when, Words}
use Rattle.tworuns.specs.Types.{t_wrap, t_record}
use Rattle.tworuns.specs.Inner.{TypeIs, FieldsAre, FirstField, is-type, open_wrap, open_record, open_field, inner-same, fields-same, fields-are_grow}
use Rattle.tworuns.specs.Exprs.{Pairs, no_pairs, more-pairs}

-- one of two, by a test of what is the same in both runs
pub pick : {A : Type 0} (R : A → A → Type 0) {b b' : Bool} (x y x' y' : A) → b ≡ b' → (b ≡ true → R x x') → (b ≡ false → R y y')
    → R (elim b [ true ↦ x | false ↦ y ]) (elim b' [ true ↦ x' | false ↦ y' ])
pick R {b = true} x y x' y' e h k = rw (← e) (h refl)
pick R {b = false} x y x' y' e h k = rw (← e) (k refl)

module _ (r : Runs) where
  abbrev pub Bindings : Relation (List Binding)
  Bindings b b' bs bs' = Each (SameBinding r b b') bs bs'

  pub bindings_grow : {b b' d d' : Buffer} {bs bs' : List Binding} → Grown b d → Grown b' d' → Bindings b b' bs bs' → Bindings d d' bs bs'
  bindings_grow g g' h = each_map (binding_grow r g g') h

  -- what binding gives
  pub data SameBound (b b' : Buffer) : Bound → Bound → Type 0 where
    all : {bs bs' : List Binding} → Bindings b b' bs bs' → SameBound b b' (all_bound bs) (all_bound bs')
    clash : {bs bs' : List Binding} {s : List ℕ} {e e' n n' : ℕ} → Bindings b b' bs bs' → SameType r b b' e e' → SameType r b b' n n'
        → SameBound b b' (conflict bs s e n) (conflict bs' s e' n')
    of_void : {bs bs' : List Binding} {s : List ℕ} → Bindings b b' bs bs' → SameBound b b' (void_slot bs s) (void_slot bs' s)

  module _ {b b' : Buffer} where
    pub bound-same : (s : List ℕ) {bs bs' : List Binding} → Bindings b b' bs bs' → Both? (SameType r b b') (bound_to s bs) (bound_to s bs')
    unfolding bound_to
    bound-same s end = neither
    bound-same s (and h rest) = pick (Both? (SameType r b b')) _ _ _ _ (ap (same_bytes s) h.slot) (λ _. present h.type) (λ _. bound-same s rest)

    then_same : {x x' : Bound} (f f' : List Binding → Bound) → SameBound b b' x x' → ((bs bs' : List Binding) → Bindings b b' bs bs' → SameBound b b' (f bs) (f' bs'))
        → SameBound b b' (and_then x f) (and_then x' f')
    unfolding and_then
    then_same f f' (all {bs = bs} {bs' = bs'} h) k = k bs bs' h
    then_same f f' (clash h e n) k = clash h e n
    then_same f f' (of_void h) k = of_void h

    found-same : (s : List ℕ) {w w' : ℕ} {bs bs' : List Binding} {o o' : Option ℕ} → SameType r b b' w w' → Bindings b b' bs bs' → Both? (SameType r b b') o o'
        → SameBound b b' (bind_found r.first.texts b.words s w bs o) (bind_found r.second.texts b'.words s w' bs' o')
    unfolding bind_found
    found-same s h bs neither = all (and (record { slot = refl; type = h }) bs)
    found-same s h bs (present e) =
        pick (SameBound b b') _ _ _ _ (same_test r e h) (λ _. all bs) (λ _. clash bs e h)

    one_same : (s : List ℕ) {w w' : ℕ} {bs bs' : List Binding} → SameType r b b' w w' → Bindings b b' bs bs'
        → SameBound b b' (bind_one r.first.texts b.words s w bs) (bind_one r.second.texts b'.words s w' bs')
    unfolding bind_one
    one_same s h bs = pick (SameBound b b') _ _ _ _ (ap (λ (k : ℕ). eqb k 1) (same_kind r h)) (λ _. of_void bs) (λ _. found-same s h bs (bound-same s bs))

    module _ (u : Used r b b') where
      -- provided fields: none is left, or one and others
      at_fields : {at k at' k' : ℕ} {gs : Fields} (x y x' y' : Bound) → FieldsAre r b b' at k at' k' gs → SameBound b b' x x'
          → ((n : List ℕ) (t : Ty) (fs : Fields) → FirstField r b b' at k at' k' n t fs → SameBound b b' y y')
          → SameBound b b' (elim (eqb k 0) [ true ↦ x | false ↦ y ]) (elim (eqb k' 0) [ true ↦ x' | false ↦ y' ])
      at_fields {gs = no_field} x y x' y' h p q = by h.left h.right
        where
          by : {t t' : Texts} {ts ts' : List ℕ} {z z' at at' k k' : ℕ} → FieldsMean t ts z at k no_field → FieldsMean t' ts' z' at' k' no_field
              → SameBound b b' (elim (eqb k 0) [ true ↦ x | false ↦ y ]) (elim (eqb k' 0) [ true ↦ x' | false ↦ y' ])
          by no_more no_more = p
      at_fields {gs = field n t fs} x y x' y' h p q = let f = open_field u h in rw (f.some, f.some') (q n t fs f)

      mutual
        unfolding bind_slots

        pub bind-same : {t : Texts} {types : List ℕ} {used v : ℕ} {x : Ty} → Means t types used v x → {w w' : ℕ} {bs bs' : List Binding} → SameType r b b' w w' → Bindings b b' bs bs'
            → SameBound b b' (bind_slots r.first.texts b.words x w bs) (bind_slots r.second.texts b'.words x w' bs')
        bind-same (flat e p z) h bs = all bs
        bind-same (wrapped {k = k} e i l m) {w} {w'} h bs =
            pick (SameBound b b') _ _ _ _ (ap (λ (j : ℕ). eqb j k) (same_kind r h))
            (λ q. bind-same m (inner-same u h (rw (eqb-true (kind_of w) k q) i)) bs) (λ _. all bs)
        bind-same (recorded e l m) {w} {w'} h bs =
            pick (SameBound b b') _ _ _ _ (ap (λ (j : ℕ). eqb j 8) (same_kind r h))
            (λ q. bind-fields m (fields-same u h (eqb-true (kind_of w) 8 q)).are bs) (λ _. all bs)
        bind-same (called {k = k} {n = n} e i q) h bs = pick (SameBound b b') {b = eqb k 10} _ _ _ _ refl (λ _. one_same n h bs) (λ _. all bs)

        pub bind-fields : {t : Texts} {types : List ℕ} {used v j : ℕ} {fs : Fields} → FieldsMean t types used v j fs
            → {at k at' k' : ℕ} {gs : Fields} {bs bs' : List Binding} → FieldsAre r b b' at k at' k' gs → Bindings b b' bs bs'
            → SameBound b b' (bind_fields r.first.texts b.words fs at k bs) (bind_fields r.second.texts b'.words fs at' k' bs')
        bind-fields no_more h bs = all bs
        bind-fields (one_more q l m ms) h bs =
            at_fields _ _ _ _ h (all bs)
            (λ n t fs f. then_same _ _ (bind-same m (is-type f.type) bs) (λ more more' x. bind-fields ms f.rest x))

  -- the slots bound
  some_same : {b b' : Buffer} {o o' : Option ℕ} → Both? (SameType r b b') o o' → is_some o ≡ is_some o'
  some_same neither = refl
  some_same (present h) = refl

  pub bound_or-same : {b b' : Buffer} {w w' : ℕ} {o o' : Option ℕ} → SameType r b b' w w' → Both? (SameType r b b') o o' → SameType r b b' (bound_or w o) (bound_or w' o')
  unfolding bound_or
  bound_or-same h neither = h
  bound_or-same h (present x) = x

  module _ {b b' : Buffer} {bs bs' : List Binding} (h : Bindings b b' bs bs') where
    mutual
      unfolding has_bound_slot

      pub has_same : (x : Ty) → has_bound_slot bs x ≡ has_bound_slot bs' x
      has_same (plain k) = refl
      has_same (wrap k x) = has_same x
      has_same (rec fs) = any_same fs
      has_same (named k n) = pick (λ (p q : Bool). p ≡ q) {b = eqb k 10} _ _ _ _ refl (λ _. some_same (bound-same n h)) (λ _. refl)

      pub any_same : (fs : Fields) → any_bound_slot bs fs ≡ any_bound_slot bs' fs
      any_same no_field = refl
      any_same (field n x fs) = rw (has_same x, any_same fs)

  module _ (n : ℕ) {bs bs' : List Binding} where
    mutual
      unfolding apply_slot_binding

      pub t_apply : (x : Ty) {b b' : Buffer} {w w' : ℕ} → Used r b b' → Bindings b b' bs bs' → TypeIs r b b' w w' x
          → Typed r (Words r) b b' (apply_slot_binding r.first.texts n bs x w b) (apply_slot_binding r.second.texts n bs' x w' b')
      t_apply (plain k) {b} {b'} u s h = typed (grown-same b) (grown-same b') u (is-type h)
      t_apply (wrap k x) {b} {b'} u s h =
          let i = open_wrap u h in
          t_when r _ _ _ _ (has_same s x) (λ _. t_next r _ _ (t_apply x u s i.1) (λ a a' d d' g g' v y. t_wrap r v n k a a' i.0 y))
          (λ _. typed (grown-same b) (grown-same b') u (is-type h))
      t_apply (rec fs) {b} {b'} u s h =
          t_when r _ _ _ _ (any_same s fs) (λ _. t_next r _ _ (t_fields fs u s (open_record u h)) (λ ps ps' d d' g g' v y. t_record r v n ps ps' y))
          (λ _. typed (grown-same b) (grown-same b') u (is-type h))
      t_apply (named k m) {b} {b'} u s h =
          pick (λ (x y : Step Buffer Refusal ℕ). Typed r (Words r) b b' (x b) (y b')) {b = eqb k 10} _ _ _ _ refl
          (λ _. typed (grown-same b) (grown-same b') u (bound_or-same (is-type h) (bound-same m s))) (λ _. typed (grown-same b) (grown-same b') u (is-type h))

      pub t_fields : (fs : Fields) {b b' : Buffer} {at k at' k' : ℕ} → Used r b b' → Bindings b b' bs bs' → FieldsAre r b b' at k at' k' fs
          → Typed r (Pairs r) b b' (apply_fields r.first.texts n bs fs at b) (apply_fields r.second.texts n bs' fs at' b')
      t_fields no_field {b} {b'} u s h = typed (grown-same b) (grown-same b') u (no_pairs r b b')
      t_fields (field m x fs) u s h =
          let f = open_field u h in
          t_next r _ _ (t_apply x u s f.type) (λ a a' d d' g g' v y. t_next r _ _ (t_fields fs v (bindings_grow g g' s) (fields-are_grow g g' f.rest))
          (λ ps ps' e e' l l' z q. typed (grown-same e) (grown-same e') z (more-pairs r f.name (type_grow r l l' a a' y) q)))
