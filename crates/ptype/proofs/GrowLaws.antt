-- A word's tree is unchanged when the buffer grows, and when the texts are lengthened at their ends.
-- By one induction over what a word refers to. Assumes nothing.
use Prim.Native.Nat.{ℕ, zero, suc, ◌+◌, ◌*◌, ◌<◌}
use Rattle.std.proofs.Common.{arith, sym, ◌∙◌, length-append, get_or-take}
use Rattle.std.specs.Prelude.{◌≡◌, Bool, true, false, cond, List, [], ◌∷◌, ◌++◌, eqb, get_or, take}
use Rattle.std.proofs.Math.Path.{refl, ap}
use Rattle.tok.specs.Word.{kind_of, payload_of, name_bit}
use Rattle.tok.specs.Text.{Texts, texts_of, longer, text_by, name_bytes}
use Rattle.tok.specs.Name.{good_payload}
use Rattle.tok.proofs.TextLaws.{bytes_in-longer}
use Rattle.tok.proofs.NameLaws.{good_payload-true}
use Rattle.ptype.specs.Ty.{Ty}
use Rattle.ptype.specs.Words.{inner_word, field_count, fields_from, unfolded, ty_of}
use Rattle.ptype.specs.Add.{Buffer, overwrite, write, append}
use Rattle.ptype.specs.Kinds.{wraps, names, shape, is_plain, is_wrap, is_record, is_named}
use Rattle.ptype.proofs.UnfoldLaws.{unfolded-plain, unfolded-wrap, unfolded_record, unfolded-named}
use Rattle.ptype.specs.Inside.{field_name, field_type, Inside, wrapped, in_field, Throughout, below, level, Refers, Within, Agree, Lies, NamesIn}
use Rattle.ptype.proofs.InsideLaws.{throughout_map}

-- Word w goes on with the same words in two buffers, and its names have the same bytes in two pairs of texts.
record SameWords (types types' : List ℕ) (w : ℕ) : Type 0 where
  inner : wraps (kind_of w) ≡ true → inner_word types w ≡ inner_word types' w
  count : kind_of w ≡ 8 → field_count types w ≡ field_count types' w
  names : kind_of w ≡ 8 → (i : ℕ) → i < field_count types w → field_name types w i ≡ field_name types' w i
  inside : kind_of w ≡ 8 → (i : ℕ) → i < field_count types w → field_type types w i ≡ field_type types' w i

record SameNames (t t' : Texts) (types : List ℕ) (w : ℕ) : Type 0 where
  own : names (kind_of w) ≡ true → name_bytes t w ≡ name_bytes t' w
  of_fields : kind_of w ≡ 8 → (i : ℕ) → i < field_count types w → name_bytes t (field_name types w i) ≡ name_bytes t' (field_name types w i)

record Alike (t t' : Texts) (types types' : List ℕ) (w : ℕ) : Type 0 where
  words : SameWords types types' w
  names : SameNames t t' types w

module _ (t t' : Texts) (types types' : List ℕ) where
  -- the fields at the places `at`, `at + 2`, ..
  fields-alike : (go go' : ℕ → Ty) (at k : ℕ)
      → ((i j : ℕ) → i < k → j ≡ at + 2 * i → name_bytes t (get_or types j 0) ≡ name_bytes t' (get_or types' j 0))
      → ((i j : ℕ) → i < k → j ≡ at + 2 * i + 1 → go (get_or types j 0) ≡ go' (get_or types' j 0))
      → fields_from go t types at k ≡ fields_from go' t' types' at k
  unfolding fields_from
  fields-alike go go' at zero ns ts = refl
  fields-alike go go' at (suc k) ns ts =
      cc (
        ns 0 at (omega arith) (omega arith),
        ts 0 (at + 1) (omega arith) (omega arith),
        fields-alike go go' (at + 2) k
            (λ i j l e. ns (suc i) j (omega arith) (omega arith))
            (λ i j l e. ts (suc i) j (omega arith) (omega arith)),
      )

  -- such a word has the same tree
  unfolded-alike : {deep w : ℕ} → Throughout (Alike t t' types types') types deep w → unfolded t types deep w ≡ unfolded t' types' deep w
  unfolding unfolded
  unfolded-alike below = refl
  unfolded-alike (level {f} {w} a inside) =
      elim (shape (kind_of w)) [
        | is_plain h ↦ cc (unfolded-plain t types w refl refl h, unfolded-plain t' types' w refl refl h)
        | is_wrap h ↦
            cc (
              unfolded-wrap t types w refl refl h,
              unfolded-wrap t' types' w refl refl h,
              a.words.inner h,
              unfolded-alike (inside (inner_word types w) (wrapped h)),
            )
        | is_record h ↦
            cc (
              unfolded_record t types w refl refl h,
              unfolded_record t' types' w refl refl h,
              a.words.count h,
              fields-alike (unfolded t types f) (unfolded t' types' f) (payload_of w + 1) (field_count types w)
                  (λ i j l e. rw e (a.names.of_fields h i l ∙ ap (name_bytes t') (a.words.names h i l)))
                  (λ i j l e. rw e (unfolded-alike (inside (field_type types w i) (in_field h i l)) ∙ ap (unfolded t' types' f) (a.words.inside h i l))),
            )
        | is_named h ↦ cc (unfolded-named t types w refl refl h, unfolded-named t' types' w refl refl h, a.names.own h)
      ]

-- Two buffers that agree.
module _ {types types' : List ℕ} {used : ℕ} (a : Agree used types types') where
  same_at : (j : ℕ) → j < used → get_or types j 0 ≡ get_or types' j 0
  same_at j l = sym (get_or-take used types j 0 l) ∙ (ap (λ ws. get_or ws j 0) a.front ∙ get_or-take used types' j 0 l)

  same-words : {w : ℕ} → Refers types used w → SameWords types types' w
  same-words {w} r = record {
    inner = λ k. same_at (payload_of w) (r.to_inner k);
    count = λ k. ap payload_of (same_at (payload_of w) (omega (arith, r.to_fields k)));
    names = λ k i l. same_at (payload_of w + 1 + 2 * i) (omega (arith, r.to_fields k));
    inside = λ k i l. same_at (payload_of w + 1 + 2 * i + 1) (omega (arith, r.to_fields k));
  }

  -- The law of growth: the tree of a word that refers only into the words on which they agree is the same in both.
  pub unfolded_grow : (t : Texts) {deep w : ℕ} → Within types used deep w → unfolded t types deep w ≡ unfolded t types' deep w
  unfolded_grow t h = unfolded-alike t t types types' (throughout_map (λ v r. record { words = same-words r; names = record { own = λ k. refl; of_fields = λ k i l. refl } }) h)

  pub ty_of_grow : (t : Texts) {w : ℕ} → Within types used 33 w → ty_of t types w ≡ ty_of t types' w
  unfolding ty_of
  ty_of_grow t h = unfolded_grow t h

  -- What holds throughout such a word in the one holds in the other: so it goes on to refer only into those words,
  inside_back : {w v : ℕ} → SameWords types types' w → Inside types' w v → Inside types w v
  inside_back s (wrapped k) = rw (← s.inner k) (wrapped k)
  inside_back s (in_field k i l) =
      let l' = rw (← s.count k) at l in
      rw (← s.inside k i l') (in_field k i l')

  throughout_grow : {P Q : ℕ → Type 0} {deep w : ℕ} → ((v : ℕ) → SameWords types types' v → P v → Q v)
      → Within types used deep w → Throughout P types deep w → Throughout Q types' deep w
  throughout_grow f below h = below
  throughout_grow f (level {w = w} r within) (level p inside) =
      let s = same-words r in
      level (f w s p) (λ v i. throughout_grow f (within v (inside_back s i)) (inside v (inside_back s i)))

  pub within_grow : {deep w : ℕ} → Within types used deep w → Within types' used deep w
  within_grow h = throughout_grow (λ v s r. record { to_inner = r.to_inner; to_fields = λ k. rw (← s.count k) (r.to_fields k) }) h h

  -- and its names to lie in their texts.
  pub names_grow : {t : Texts} {deep w : ℕ} → Within types used deep w → NamesIn t types deep w → NamesIn t types' deep w
  names_grow h n =
      throughout_grow
      (λ v s m. record { own = m.own; of_fields = λ k i l. let l' = rw (← s.count k) at l in rw (← s.names k i l') (m.of_fields k i l') })
      h n

-- A buffer to which words are added agrees with what it was on the words that were used.
take-write : (l : List ℕ) (at : ℕ) (new : List ℕ) → take at (write l at new) ≡ take at l
unfolding write overwrite
take-write [] zero new = refl
take-write [] (suc at) new = refl
take-write (x ∷ xs) zero new = refl
take-write (x ∷ xs) (suc at) new = ap (λ r. x ∷ r) (take-write xs at new)

pub agree-append : (b : Buffer) (new : List ℕ) → Agree b.used b.words (append b new).words
unfolding append
agree-append b new = record { front = sym (take-write b.words b.used new) }

-- Adding a type changes no tree.
pub ty_of-append : (t : Texts) (b : Buffer) (new : List ℕ) {w : ℕ} → Within b.words b.used 33 w → ty_of t b.words w ≡ ty_of t (append b new).words w
ty_of-append t b new h = ty_of_grow (agree-append b new) t h

-- A name that is accepted lies in its text.
pub accepted-lies : (t : Texts) (bit w : ℕ) → good_payload bit (text_by t bit) w ≡ true → Lies t w
accepted-lies t bit w e =
    let g = good_payload-true bit (text_by t bit) w e in
    record { lies = rw g.home g.lies }

-- Texts lengthened at their ends.
module _ (t : Texts) (s l : List ℕ) where
  text_by-longer : (bit : ℕ) → text_by (longer t s l) bit ≡ text_by t bit ++ text_by (texts_of s l) bit
  text_by-longer bit = go (eqb bit 1)
    where
      go : (b : Bool) → cond b (t.library ++ l) (t.script ++ s) ≡ cond b t.library t.script ++ cond b l s
      go true = refl
      go false = refl

  -- A name that lies in its text keeps its bytes,
  pub name_bytes-longer : {w : ℕ} → Lies t w → name_bytes t w ≡ name_bytes (longer t s l) w
  unfolding name_bytes
  name_bytes-longer {w} h = rw (text_by-longer (name_bit w)) (sym (bytes_in-longer (text_by t (name_bit w)) w h.lies (text_by (texts_of s l) (name_bit w))))

  -- and a word whose names do keeps its tree.
  pub unfolded-longer : (types : List ℕ) {deep w : ℕ} → NamesIn t types deep w → unfolded t types deep w ≡ unfolded (longer t s l) types deep w
  unfolded-longer types h =
      unfolded-alike t (longer t s l) types types
      (throughout_map
      (λ v n. record {
        words = record { inner = λ k. refl; count = λ k. refl; names = λ k i l. refl; inside = λ k i l. refl };
        names = record { own = λ k. name_bytes-longer (n.own k); of_fields = λ k i l. name_bytes-longer (n.of_fields k i l) };
      })
      h)

  pub ty_of-longer : (types : List ℕ) {w : ℕ} → NamesIn t types 33 w → ty_of t types w ≡ ty_of (longer t s l) types w
  unfolding ty_of
  ty_of-longer types h = unfolded-longer types h

  -- The names go on to lie there.
  lies-longer : {w : ℕ} → Lies t w → Lies (longer t s l) w
  lies-longer {w} h = record { lies = rw (text_by-longer (name_bit w), length-append) (omega (arith, h.lies)) }

  pub names-longer : {types : List ℕ} {deep w : ℕ} → NamesIn t types deep w → NamesIn (longer t s l) types deep w
  names-longer h = throughout_map (λ v n. record { own = λ k. lies-longer (n.own k); of_fields = λ k i m. lies-longer (n.of_fields k i m) }) h
