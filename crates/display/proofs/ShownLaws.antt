-- The text of a type, by the kind of its word, and of fields one by one: the branches of `show_within` and the turns of `show_fields`. Assumes nothing.
use Prim.Native.Nat.{ℕ, zero, suc, ◌+◌, ◌-◌, ◌<◌, ◌≤◌}
use mathlib.Core.Path.{◌≡◌, refl, sym, ap, ◌∙◌}
use mathlib.Core.Bool.{Bool, true, false, cond, true≢false}
use mathlib.Core.Logic.{◌⊎◌, ⊎_elim}
use mathlib.Core.List.{List, [], ◌++◌, append-nil, append_assoc}
use native.Mathlib.Omega.{arith}
use lib.ListN.{get_or, length, get_or-eq_default}
use lib.Dec.{ltb}
use borrow.Author.Tests.{ltb-false}
use Rattle.std.proofs.Common.{rules}
use Rattle.std.proofs.lemmas.List.{get_or_past}
use Rattle.facts.specs.Lists.{EachAt, each_at}
use Rattle.tok.specs.Word.{kind_of, payload_of}
use Rattle.tok.specs.Text.{Texts, text, name_bytes}
use Rattle.ptype.specs.Ty.{Ty}
use Rattle.ptype.specs.Words.{inner_word, field_count, fields_from, unfolded}
use Rattle.ptype.specs.Show.{plain_names, openings, closings, gap, show, show_fields}
use Rattle.ptype.specs.declared.TypeKind.{TypeKind}
use Rattle.ptype.specs.declared.TypeKind.TheVariants as type
use Rattle.ptype.specs.TypeKind.{kinds_of_types, kind_of_type, number_of_type}
use Rattle.ptype.specs.TypeKindLaws.{type-number, type-not, type-wraps, type-flat, type-nameless}
use Rattle.ptype.specs.Kinds.{wraps, one_of, Plain, shape, is_plain, is_wrap, is_record, is_named}
use Rattle.ptype.proofs.UnfoldLaws.{one_less, unfolded-none, unfolded-plain, unfolded-wrap, unfolded_record, unfolded-named, fields-none, fields-more}
use Rattle.display.specs.Behind.{behind_of}
use Rattle.display.specs.Leaf.{Leaf}
use Rattle.display.specs.Joined.{separated}
use Rattle.display.specs.Writing.{written}
use Rattle.display.specs.WritingLaws.{written_next, written_append}

-- ---- kinds
pub is_leaf : (w : ℕ) {x : TypeKind} → x ≡ kind_of_type (kind_of w) → (x ≡ type.Option → ⊥) → (x ≡ type.Array → ⊥) → (x ≡ type.Record → ⊥) → Leaf (kind_of w)
is_leaf w e a b c = record { no_type = type-flat _ e a b; no_field = type-not _ e c }

-- A number that is no type's has no text, as the kind of no type has none.
abbrev SameTexts : TypeKind → ℕ → Type 0
SameTexts x k = (get_or openings (number_of_type x) [] ≡ get_or openings k []) × (get_or plain_names (number_of_type x) [] ≡ get_or plain_names k [])

texts-at : (k : ℕ) → SameTexts (kind_of_type k) k
unfolding kind_of_type kinds_of_types openings plain_names EachAt
texts-at =
    each_at SameTexts kinds_of_types type.None (search rules)
    (λ k h. (sym (get_or_past openings k [] (omega arith)), sym (get_or_past plain_names k [] h)))

wrap_closing : (k : ℕ) → wraps k ≡ true → get_or closings k [] ≡ text ">"
unfolding closings
wrap_closing k h = ⊎_elim (λ e. rw e) (λ e. rw e) (one_of 6 7 k h)

-- ---- types
pub shown-none : (t : Texts) (types : List ℕ) (w : ℕ) {deep : ℕ} → deep ≡ 0 → show (unfolded t types deep w) ≡ get_or plain_names 11 []
unfolding show
shown-none t types w e = rw (unfolded-none t types w e)

-- x is the kind that was found of the word, and o the text before what is inside
module _ (t : Texts) (types : List ℕ) (w : ℕ) {deep : ℕ} {x : TypeKind} (p : deep ≡ 0 → ⊥) (ex : x ≡ kind_of_type (kind_of w)) {o : List ℕ} (eo : o ≡ get_or openings (number_of_type x) []) where
  opens : get_or openings (kind_of w) [] ≡ o
  opens = sym (eo ∙ rw ex (texts-at (kind_of w)).0)

  pub shown-wrap : {i : ℕ} → (x ≡ type.Option) ⊎ (x ≡ type.Array) → i ≡ inner_word types w → show (unfolded t types deep w) ≡ o ++ show (unfolded t types (deep - 1) i) ++ text ">"
  unfolding show
  shown-wrap h e = let wrapping = type-wraps _ ex h in rw (unfolded-wrap t types w (one_less p) refl wrapping, wrap_closing _ wrapping, ← e, opens)

  pub shown_record :
      {i n : ℕ} → x ≡ type.Record → i ≡ payload_of w → n ≡ field_count types w →
      show (unfolded t types deep w) ≡ o ++ show_fields (fields_from (unfolded t types (deep - 1)) t types (i + 1) n) ++ text ">"
  unfolding show closings
  shown_record h ei en =
      let k = type-number (kind_of w) (sym h ∙ ex) in
      rw (unfolded_record t types w (one_less p) refl k, ← en, ← ei, ← opens, k)

pub shown-leaf : (t : Texts) (types : List ℕ) (w : ℕ) {deep : ℕ} → (deep ≡ 0 → ⊥) → Leaf (kind_of w) → show (unfolded t types deep w) ≡ show (unfolded t [] 1 w)
shown-leaf t types w {deep} p l = ap show (elim (shape (kind_of w)) [
  | is_plain h ↦ unfolded-plain t types w (one_less p) refl h ∙ sym (unfolded-plain t [] w {deep = 1} {f = 0} refl refl h)
  | is_wrap h ↦ absurd (true≢false (sym h ∙ l.no_type))
  | is_record h ↦ absurd (l.no_field h)
  | is_named h ↦ unfolded-named t types w (one_less p) refl h ∙ sym (unfolded-named t [] w {deep = 1} {f = 0} refl refl h)
])

-- with no type inside
module _ (t : Texts) (w : ℕ) {x : TypeKind} (ex : x ≡ kind_of_type (kind_of w)) where
  pub shown-foreign : {name o : List ℕ} → x ≡ type.Foreign → o ≡ get_or openings (number_of_type x) [] → name ≡ name_bytes t w → show (unfolded t [] 1 w) ≡ o ++ name ++ text ">"
  unfolding show closings
  shown-foreign h eo e =
      let k = type-number (kind_of w) (sym h ∙ ex) in
      rw (unfolded-named t [] w {deep = 1} {f = 0} refl refl (rw k refl), e, eo, h, k)

  pub shown-slot : {name : List ℕ} → x ≡ type.Slot → name ≡ name_bytes t w → show (unfolded t [] 1 w) ≡ name
  unfolding show openings closings
  shown-slot h e =
      let k = type-number (kind_of w) (sym h ∙ ex) in
      rw (unfolded-named t [] w {deep = 1} {f = 0} refl refl (rw k refl), k, e, append-nil)

  pub shown-plain : {name : List ℕ} → Leaf (kind_of w) → (x ≡ type.Foreign → ⊥) → (x ≡ type.Slot → ⊥) → name ≡ get_or plain_names (number_of_type x) [] → show (unfolded t [] 1 w) ≡ name
  unfolding show
  shown-plain l a b e =
      let plain : Plain (kind_of w) = record { no_wrap = l.no_type; no_record = l.no_field; no_name = type-nameless _ ex a b } in
      rw (unfolded-plain t [] w {deep = 1} {f = 0} refl refl plain, e, ex, (texts-at (kind_of w)).1)

-- ---- fields
module _ (go : ℕ → Ty) (t : Texts) (words : List ℕ) (i : ℕ) where
  pub fields-end : {k : ℕ} → k ≡ 0 → show_fields (fields_from go t words i k) ≡ []
  unfolding show_fields
  fields-end e = rw (fields-none go t words i e)

  gap_is : (j n : ℕ) → gap (fields_from go t words j n) ≡ separated n (text " ")
  unfolding gap separated fields_from
  gap_is j zero = refl
  gap_is j (suc n) = refl

  -- what one turn writes: the name that was read, a colon, the type of the word that was read, and a blank unless it is the last
  pub fields-turn :
      {k w : ℕ} {name : List ℕ} → 0 < k → name ≡ name_bytes t (get_or words i 0) → w ≡ get_or words (i + 1) 0 →
      show_fields (fields_from go t words i k) ≡ name ++ text ": " ++ show (go w) ++ separated (k - 1) (text " ") ++ show_fields (fields_from go t words (i + 2) (k - 1))
  unfolding show_fields
  fields-turn {k} h en ew =
      let e : k ≡ suc (k - 1) = omega arith in
      rw (fields-more go t words i e, gap_is (i + 2) (k - 1), en, ew) (simp append_assoc)

module _ (go : ℕ → Ty) (t : Texts) (words : List ℕ) where
  -- past the end of the words any index will do
  fields-past : (k i j : ℕ) → length words ≤ i → length words ≤ j → fields_from go t words i k ≡ fields_from go t words j k
  unfolding fields_from
  fields-past zero i j h l = refl
  fields-past (suc k) i j h l =
      rw (
        get_or-eq_default words 0 h,
        get_or-eq_default words 0 l,
        get_or-eq_default words 0 {n = i + 1} (omega arith),
        get_or-eq_default words 0 {n = j + 1} (omega arith),
        fields-past k (i + 2) (j + 2) (omega arith) (omega arith),
      )

  fields-behind : (k i : ℕ) → fields_from go t words (i + 2) k ≡ fields_from go t words (behind_of words i) k
  unfolding behind_of
  fields-behind k i = by (ltb i (length words)) refl
    where
      by : (b : Bool) → ltb i (length words) ≡ b → fields_from go t words (i + 2) k ≡ fields_from go t words (cond b (i + 2) i) k
      by true e = refl
      by false e = let l = ltb-false i (length words) e in fields-past k (i + 2) i (omega arith) (omega arith)

  -- the same, where the next field is read behind this one
  pub turn-behind :
      (i : ℕ) {k w next : ℕ} {name : List ℕ} → 0 < k → name ≡ name_bytes t (get_or words i 0) → w ≡ get_or words (i + 1) 0 → next ≡ behind_of words i →
      show_fields (fields_from go t words i k) ≡ name ++ text ": " ++ show (go w) ++ separated (k - 1) (text " ") ++ show_fields (fields_from go t words next (k - 1))
  turn-behind i {k} h en ew e = fields-turn go t words i h en ew ∙ rw (e, fields-behind (k - 1) i)

-- ---- signatures
pub bracket : (o : List ℕ) (n : ℕ) (s : List ℕ) → written o n (text "(" ++ s) ≡ written_next (written o n (text "(")) s
bracket o n s = written_append o n (text "(") s
