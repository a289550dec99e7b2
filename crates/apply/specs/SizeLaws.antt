-- Where types are put for slots, as many words are added as `size_within` says, and the word given is that of `word_before`. By induction on
-- the depth. Assumes nothing.
use Rattle.std.specs.Prelude.{◌≡◌, Bool, List, [], ◌∷◌, leb}
use Rattle.std.proofs.Math.Path.{refl, sym, ap}
use Rattle.std.proofs.Common.{◌∙◌, true≢false, arith}
use Rattle.std.proofs.Math.Bool.{true, false}
use Rattle.std.proofs.Math.Option.{Option, none, some}
use Prim.Native.Nat.{ℕ, zero, suc, ◌+◌, ◌-◌, ◌*◌, ◌/◌, ◌≤◌, min}
use Rattle.std.proofs.Math.Decide.{ℕ_discrete}
use Rattle.std.proofs.Math.ListN.{length, get_or}
use borrow.Author.Tests.{leb-true, ne_eqb}
use Rattle.tok.specs.Word.{kind_of, payload_of, word_of}
use Rattle.tok.specs.Text.{Texts, name_bytes}
use Rattle.tok.specs.Step.{ok, Step, Refusal, refusal, next, return, give, refuse, when}
use Rattle.ptype.specs.Ty.{depth_of, named}
use Rattle.ptype.specs.Kinds.{wraps}
use Rattle.ptype.specs.Words.{ty_of, inner_word, field_count, unfolded}
use Rattle.ptype.proofs.UnfoldLaws.{unfolded-named}
use Rattle.ptype.specs.Add.{Buffer, buffer, append, type_room, add_type, add_wrap, add_record, write}
use Rattle.ptype.specs.Slots.{Binding, bound_to, bound_or, is_some, has_bound_slot}
use Rattle.add.specs.Parts.{opened}
use Rattle.add.specs.StepLaws.{next-ok, when-ok, of-answer}
use Rattle.apply.specs.Apply.{apply_pairs, apply_inside, apply_within, only}
use Rattle.apply.specs.StepLaws.{inside-slot, inside-wrap, inside_record, inside-rest, within-free, within-inside}
use Rattle.apply.specs.Sizes.{sizes_of, size_inside, size_within, word_inside, word_before, pairs_after}

-- a type that was added: its word, and the words used with it
record Placed (kind long : ℕ) (b : Buffer) (w : ℕ) (b' : Buffer) : Type 0 where
  word : w ≡ word_of kind b.used
  used : b'.used ≡ b.used + long

placed : (T : Texts) (n kind : ℕ) (new : List ℕ) (b : Buffer) (w : ℕ) (b' : Buffer) → add_type T n kind new b ≡ ok w b' → Placed kind (length new) b w b'
unfolding add_type append
placed T n kind new b w b' e =
    let added : Step Buffer Refusal ℕ = give (word_of kind b.used) (append b new) in
    let deep = depth_of (ty_of T (append b new).words (word_of kind b.used)) in
    let x = when-ok (leb (b.used + length new) (type_room b)) (when (leb deep 32) added (refuse (refusal 8 n))) (refusal 7 n) b w b' e in
    let y = when-ok (leb deep 32) added (refusal 8 n) b w b' x.1 in
    let z : append b new ≡ b' = cc y.1 in
    record { word = cc y.1; used = rw (← z) }

-- a Record that was opened had room, and stands after the words that were used
pub record OpenedAt (fields used w : ℕ) (l l' : List ℕ) : Type 0 where
  pub room : used + (1 + 2 * fields) ≤ 8192
  pub word : w ≡ word_of 8 used
  pub after : l' ≡ write l used (fields ∷ [])

pub opened-at : (n fields : ℕ) (l : List ℕ) (used w : ℕ) (l' : List ℕ) (v : ℕ) → opened n fields (buffer l used) ≡ ok w (buffer l' v) → OpenedAt fields used w l l'
unfolding opened
opened-at n fields l used w l' v e =
    let out : Step Buffer Refusal ℕ = give (word_of 8 used) (buffer (write l used (fields ∷ [])) (used + (1 + 2 * fields))) in
    let x = when-ok (leb (used + (1 + 2 * fields)) (min (length l) 8192)) out (refusal 7 n) (buffer l used) w (buffer l' v) e in
    let z : buffer (write l used (fields ∷ [])) (used + (1 + 2 * fields)) ≡ buffer l' v = cc x.1 in
    record { room = omega (arith, leb-true (used + (1 + 2 * fields)) (min (length l) 8192) x.0); word = cc x.1; after = sym (ap (λ (b : Buffer). b.words) z) }

-- ── One level ──

module _ (texts : Texts) (bs : List Binding) (old : List ℕ) (w : ℕ) {k : ℕ} (hk : k ≡ kind_of w) where
  module _ (size : ℕ → ℕ) where
    pub size-wrap : wraps k ≡ true → size_inside size old w ≡ size (inner_word old w) + 1
    unfolding size_inside
    size-wrap h = rw (← hk, h)

    pub size_record : k ≡ 8 → size_inside size old w ≡ sizes_of size old (payload_of w + 1) (field_count old w) + (1 + 2 * field_count old w)
    unfolding size_inside
    size_record e = rw (← hk, e)

    pub size-rest : wraps k ≡ false → (k ≡ 8 → ⊥) → size_inside size old w ≡ 0
    unfolding size_inside
    size-rest h d = rw (← hk, h, ne_eqb k 8 d)

  module _ (end size : ℕ) where
    pub word-slot : k ≡ 10 → word_inside texts bs old end size w ≡ bound_or w (bound_to (name_bytes texts w) bs)
    unfolding word_inside
    word-slot e = rw (← hk, e)

    module _ (ns : k ≡ 10 → ⊥) where
      pub word_same : size ≡ 0 → word_inside texts bs old end size w ≡ w
      unfolding word_inside
      word_same e = rw (← hk, ne_eqb k 10 ns, e)

      pub word-wrap : (size ≡ 0 → ⊥) → wraps k ≡ true → word_inside texts bs old end size w ≡ word_of k (end - 1)
      unfolding word_inside
      word-wrap d h = rw (← hk, ne_eqb k 10 ns, ne_eqb size 0 d, h)

      pub word_record : (size ≡ 0 → ⊥) → wraps k ≡ false → word_inside texts bs old end size w ≡ word_of 8 (end - (1 + 2 * field_count old w))
      unfolding word_inside
      word_record d h = rw (← hk, ne_eqb k 10 ns, ne_eqb size 0 d, h)

module _ (texts : Texts) (bs : List Binding) (old : List ℕ) (w : ℕ) {deep f : ℕ} (ed : deep ≡ suc f) where
  pub size-free : has_bound_slot bs (unfolded texts old deep w) ≡ false → size_within texts bs old deep w ≡ 0
  unfolding size_within
  size-free h =
      let g : has_bound_slot bs (unfolded texts old (suc f) w) ≡ false = rw ed at h in
      rw (ed, g)

  pub size-inside : has_bound_slot bs (unfolded texts old deep w) ≡ true → size_within texts bs old deep w ≡ size_inside (size_within texts bs old f) old w
  unfolding size_within
  size-inside h =
      let g : has_bound_slot bs (unfolded texts old (suc f) w) ≡ true = rw ed at h in
      rw (ed, g)

  pub word-level : (end size : ℕ) → word_before texts bs old deep end size w ≡ word_inside texts bs old end size w
  unfolding word_before
  word-level end size = rw ed

  -- a slot that is not bound stays
  pub slot-stays : kind_of w ≡ 10 → has_bound_slot bs (unfolded texts old deep w) ≡ false → bound_or w (bound_to (name_bytes texts w) bs) ≡ w
  unfolding has_bound_slot bound_or
  slot-stays e h = by (bound_to (name_bytes texts w) bs) refl
    where
      is : has_bound_slot bs (named 10 (name_bytes texts w)) ≡ false
      is = rw (unfolded-named texts old w ed (sym e) refl) at h

      by : (o : Option ℕ) → bound_to (name_bytes texts w) bs ≡ o → bound_or w (bound_to (name_bytes texts w) bs) ≡ w
      by none z = rw z
      by (some x) z =
          let y : is_some (bound_to (name_bytes texts w) bs) ≡ false = is in
          let q : true ≡ false = rw z at y in
          absurd (true≢false q)

-- ── To any depth ──

pub record Sized (texts : Texts) (bs : List Binding) (old : List ℕ) (deep w : ℕ) (b : Buffer) (w' : ℕ) (b' : Buffer) : Type 0 where
  pub used : b'.used ≡ b.used + size_within texts bs old deep w
  pub word : w' ≡ word_before texts bs old deep (b.used + size_within texts bs old deep w) (size_within texts bs old deep w) w

pub record AllSized (texts : Texts) (bs : List Binding) (old : List ℕ) (deep at left : ℕ) (b : Buffer) (pairs : List ℕ) (b' : Buffer) : Type 0 where
  pub used : b'.used ≡ b.used + sizes_of (size_within texts bs old deep) old at left
  pub are : pairs ≡ pairs_after texts bs old deep b.used at left

pairs-long : (texts : Texts) (bs : List Binding) (old : List ℕ) (deep used at left : ℕ) → length (pairs_after texts bs old deep used at left) ≡ 2 * left
unfolding pairs_after
pairs-long texts bs old deep used at zero = refl
pairs-long texts bs old deep used at (suc left) =
    omega (arith, pairs-long texts bs old deep (used + size_within texts bs old deep (get_or old (at + 1) 0)) (at + 2) left)

module _ (texts : Texts) (n : ℕ) (bs : List Binding) (old : List ℕ) where
  abbrev Sizes : (deep : ℕ) → Type 0
  Sizes deep = (w : ℕ) (b : Buffer) (w' : ℕ) (b' : Buffer) → apply_within texts n bs (only old) deep w b ≡ ok w' b' → Sized texts bs old deep w b w' b'

  pub pairs-sized : (deep : ℕ) → Sizes deep → (left at : ℕ) (b : Buffer) (pairs : List ℕ) (b' : Buffer)
      → apply_pairs (apply_within texts n bs (only old) deep) (only old) at left b ≡ ok pairs b' → AllSized texts bs old deep at left b pairs b'
  unfolding apply_pairs sizes_of pairs_after
  pairs-sized deep h zero at b pairs b' e =
      let x : b ≡ b' = cc in
      record { used = rw (← x) (omega arith); are = cc }
  pairs-sized deep h (suc left) at b pairs b' e =
      let go = apply_within texts n bs (only old) deep in
      let v = get_or old (at + 1) 0 in
      let rest : ℕ → Step Buffer Refusal (List ℕ) = λ new s. next (apply_pairs go (only old) (at + 2) left s) (λ others. return (get_or old at 0 ∷ new ∷ others)) in
      let x = next-ok (go v b) rest pairs b' e in
      let y = next-ok (apply_pairs go (only old) (at + 2) left x.1) (λ others. return (get_or old at 0 ∷ x.0 ∷ others)) pairs b' x.3 in
      let i = h v b x.0 x.1 x.2 in
      let j = pairs-sized deep h left (at + 2) x.1 y.0 y.1 y.2 in
      let z : y.1 ≡ b' = cc y.3 in
      let l : get_or old at 0 ∷ x.0 ∷ y.0 ≡ pairs = cc y.3 in
      record { used = rw (← z) (omega (arith, i.used, j.used)); are = sym l ∙ rw (j.are, i.word, i.used) }

  -- a word with a bound slot, by its kind
  module _ (deep : ℕ) (h : Sizes deep) (w : ℕ) (b : Buffer) (w' : ℕ) (b' : Buffer) (e : apply_inside texts n bs (only old) (apply_within texts n bs (only old) deep) w b ≡ ok w' b') where
    abbrev size : ℕ
    size = size_inside (size_within texts bs old deep) old w

    abbrev Placing : Type 0
    Placing = (b'.used ≡ b.used + size) × (w' ≡ word_inside texts bs old (b.used + size) size w)

    abbrev go : ℕ → Step Buffer Refusal ℕ
    go = apply_within texts n bs (only old) deep

    slot-sized : kind_of w ≡ 10 → Placing
    slot-sized p =
        let z : size ≡ 0 = size-rest texts bs old w refl (size_within texts bs old deep) (rw p) (λ q. omega arith) in
        of-answer (λ v s. (s.used ≡ b.used + size) × (v ≡ word_inside texts bs old (b.used + size) size w)) (sym (inside-slot texts n bs (only old) go w b refl p) ∙ e)
        (omega (arith, z), sym (word-slot texts bs old w refl (b.used + size) size p))

    module _ (ns : kind_of w ≡ 10 → ⊥) where
      wrap-sized : wraps (kind_of w) ≡ true → Placing
      unfolding add_wrap
      wrap-sized p =
          let x = next-ok (go (inner_word old w) b) (add_wrap texts n (kind_of w)) w' b' (sym (inside-wrap texts n bs (only old) go w b refl ns p) ∙ e) in
          let i = h (inner_word old w) b x.0 x.1 x.2 in
          let q = placed texts n (kind_of w) (x.0 ∷ []) x.1 w' b' x.3 in
          let z = size-wrap texts bs old w refl (size_within texts bs old deep) p in
          (omega (arith, q.used, i.used, z), omega (arith, q.word, i.used, z, word-wrap texts bs old w refl (b.used + size) size ns (λ y. omega arith) p))

      module _ (nw : wraps (kind_of w) ≡ false) where
        record_sized : kind_of w ≡ 8 → Placing
        unfolding add_record
        record_sized p =
            let x = next-ok (apply_pairs go (only old) (payload_of w + 1) (field_count old w) b) (add_record texts n) w' b' (sym (inside_record texts n bs (only old) go w b refl ns nw p) ∙ e) in
            let i = pairs-sized deep h (field_count old w) (payload_of w + 1) b x.0 x.1 x.2 in
            let q = placed texts n 8 (length x.0 / 2 ∷ x.0) x.1 w' b' x.3 in
            let l : length x.0 ≡ 2 * field_count old w = ap length i.are ∙ pairs-long texts bs old deep b.used (payload_of w + 1) (field_count old w) in
            let z = size_record texts bs old w refl (size_within texts bs old deep) p in
            (omega (arith, q.used, i.used, z, l), omega (arith, q.word, i.used, z, word_record texts bs old w refl (b.used + size) size ns (λ y. omega arith) nw))

        rest-sized : (kind_of w ≡ 8 → ⊥) → Placing
        rest-sized d =
            let z : size ≡ 0 = size-rest texts bs old w refl (size_within texts bs old deep) nw d in
            of-answer (λ v s. (s.used ≡ b.used + size) × (v ≡ word_inside texts bs old (b.used + size) size w)) (sym (inside-rest texts n bs (only old) go w b refl ns nw d) ∙ e)
            (omega (arith, z), sym (word_same texts bs old w refl (b.used + size) size ns z))

    inside-sized : Placing
    inside-sized = slot (ℕ_discrete (kind_of w) 10)
      where
        list : (ns : kind_of w ≡ 10 → ⊥) → wraps (kind_of w) ≡ false → Dec (kind_of w ≡ 8) → Placing
        list ns nw (yes p) = record_sized ns nw p
        list ns nw (no p) = rest-sized ns nw p

        inner : (ns : kind_of w ≡ 10 → ⊥) → (q : Bool) → wraps (kind_of w) ≡ q → Placing
        inner ns true p = wrap-sized ns p
        inner ns false p = list ns p (ℕ_discrete (kind_of w) 8)

        slot : Dec (kind_of w ≡ 10) → Placing
        slot (yes p) = slot-sized p
        slot (no p) = inner p (wraps (kind_of w)) refl

  pub within-sized : (deep : ℕ) → Sizes deep
  unfolding apply_within size_within word_before
  within-sized zero w b w' b' e =
      let x : b ≡ b' = cc in
      record { used = rw (← x) (omega arith); word = cc }
  within-sized (suc deep) w b w' b' e = by (within-sized deep) (has_bound_slot bs (unfolded texts old (suc deep) w)) refl
    where
      by : Sizes deep → (q : Bool) → has_bound_slot bs (unfolded texts old (suc deep) w) ≡ q → Sized texts bs old (suc deep) w b w' b'
      by ih true z =
          let s = size-inside texts bs old w refl z in
          let i = inside-sized deep ih w b w' b' (sym (within-inside texts n bs (only old) w b refl z) ∙ e) in
          record { used = i.0 ∙ rw s; word = i.1 ∙ rw s }
      by ih false z =
          let s = size-free texts bs old w refl z in
          of-answer (λ v t. Sized texts bs old (suc deep) w b v t) (sym (within-free texts n bs (only old) w b refl z) ∙ e)
          (record { used = omega (arith, s); word = rw s (sym (stays (ℕ_discrete (kind_of w) 10))) })
        where
          stays : Dec (kind_of w ≡ 10) → word_inside texts bs old (b.used + 0) 0 w ≡ w
          stays (yes p) = word-slot texts bs old w refl (b.used + 0) 0 p ∙ slot-stays texts bs old w refl p z
          stays (no p) = word_same texts bs old w refl (b.used + 0) 0 p refl
