-- Binding slots and putting types for them (ptype.rs: bind_slots, has_bound_slot, apply_slot_binding). Definitions.
use Rattle.std.specs.Prelude.{ℕ, ◌+◌, ◌-◌, Bool, true, false, ◌||◌, List, [], ◌∷◌, get_or, eqb}
use Rattle.std.proofs.Math.Option.{Option, none, some}
use Rattle.tok.specs.Word.{kind_of, payload_of}
use Rattle.tok.specs.Text.{Texts, same_bytes}
use Rattle.tok.specs.Step.{Step, Refusal, ◌>>=◌, return, look, when}
use Rattle.ptype.specs.Ty.{Ty, Fields, plain, wrap, rec, named, no_field, field, same_ty}
use Rattle.ptype.specs.Words.{ty_of, inner_word, field_count}
use Rattle.ptype.specs.Add.{Buffer, add_wrap, add_record}

-- HashMap<&str, Type>: a slot's name and the word of the type that it is bound to
pub record Binding : Type 0 where
  pub slot : List ℕ
  pub word : ℕ

abbrev pub binding : List ℕ → ℕ → Binding
binding s w = record { slot = s; word = w }

-- bindings.get(slot)
unfoldable pub bound_to : List ℕ → List Binding → Option ℕ
bound_to s [] = none
bound_to s (b ∷ bs) = elim (same_bytes s b.slot) [ true ↦ some b.word | false ↦ bound_to s bs ]

-- Result<(), BindError>, and the bindings after it: what was bound before an error stays
pub data Bound : Type 0 where
  all_bound : List Binding → Bound
  -- BindError::Conflict { slot, existing, new }
  conflict : List Binding → (slot : List ℕ) → (existing new : ℕ) → Bound
  -- BindError::Void { slot }
  void_slot : List Binding → (slot : List ℕ) → Bound

-- `?` of the Rust: an error ends the binding
unfoldable pub and_then : Bound → (List Binding → Bound) → Bound
and_then (all_bound bs) f = f bs
and_then (conflict bs s e n) f = conflict bs s e n
and_then (void_slot bs s) f = void_slot bs s

-- match bindings.get(slot) { None => insert, Some(existing) if existing == a => Ok(()), Some(existing) => Err(Conflict) }
unfoldable pub bind_found : Texts → List ℕ → List ℕ → (new : ℕ) → List Binding → Option ℕ → Bound
bind_found texts types s a bs none = all_bound (binding s a ∷ bs)
bind_found texts types s a bs (some e) = elim (same_ty (ty_of texts types e) (ty_of texts types a)) [ true ↦ all_bound bs | false ↦ conflict bs s e a ]

-- (Self::Slot(slot), Self::Void) => Err(BindError::Void { slot }), (Self::Slot(slot), a) => ..
unfoldable pub bind_one : Texts → List ℕ → List ℕ → (new : ℕ) → List Binding → Bound
bind_one texts types s a bs = elim (eqb (kind_of a) 1) [ true ↦ void_slot bs s | false ↦ bind_found texts types s a bs (bound_to s bs) ]

-- Type::bind_slots: the expected type as a tree, the provided one as its word.
-- (Option, Option) and (Array, Array) go inside, (Record, Record) go in step as far as the shorter goes, names ignored; other pairs bind nothing.
unfoldable mutual
  pub bind_slots : Texts → List ℕ → Ty → (provided : ℕ) → List Binding → Bound
  bind_slots texts types (plain k) w bs = all_bound bs
  bind_slots texts types (wrap k t) w bs = elim (eqb (kind_of w) k) [ true ↦ bind_slots texts types t (inner_word types w) bs | false ↦ all_bound bs ]
  bind_slots texts types (rec fs) w bs = elim (eqb (kind_of w) 8) [ true ↦ bind_fields texts types fs (payload_of w + 1) (field_count types w) bs | false ↦ all_bound bs ]
  bind_slots texts types (named k n) w bs = elim (eqb k 10) [ true ↦ bind_one texts types n w bs | false ↦ all_bound bs ]

  -- lhs.iter().zip(rhs.iter()).try_for_each(..): `left` provided fields from index `at` on
  pub bind_fields : Texts → List ℕ → Fields → (at left : ℕ) → List Binding → Bound
  bind_fields texts types no_field at left bs = all_bound bs
  bind_fields texts types (field n t fs) at left bs =
      elim (eqb left 0) [ true ↦ all_bound bs | false ↦ and_then (bind_slots texts types t (get_or types (at + 1) 0) bs) (λ more. bind_fields texts types fs (at + 2) (left - 1) more) ]

abbrev pub is_some : Option ℕ → Bool
is_some none = false
is_some (some w) = true

-- Type::has_bound_slot
unfoldable mutual
  pub has_bound_slot : List Binding → Ty → Bool
  has_bound_slot bs (plain k) = false
  has_bound_slot bs (wrap k t) = has_bound_slot bs t
  has_bound_slot bs (rec fs) = any_bound_slot bs fs
  has_bound_slot bs (named k n) = elim (eqb k 10) [ true ↦ is_some (bound_to n bs) | false ↦ false ]

  pub any_bound_slot : List Binding → Fields → Bool
  any_bound_slot bs no_field = false
  any_bound_slot bs (field n t fs) = has_bound_slot bs t || any_bound_slot bs fs

-- bindings.get(slot).copied().unwrap_or(*self)
unfoldable pub bound_or : ℕ → Option ℕ → ℕ
bound_or w none = w
bound_or w (some a) = a

-- Type::apply_slot_binding, of a tree and its word: "types without slots are returned as is, so only substituted compound types allocate".
-- Inner first, fields in order; a Record is added after all of its fields.
unfoldable mutual
  pub apply_slot_binding : Texts → (n : ℕ) → List Binding → Ty → (word : ℕ) → Step Buffer Refusal ℕ
  apply_slot_binding texts n bs (plain k) w = return w
  apply_slot_binding texts n bs (wrap k t) w =
      when (has_bound_slot bs t)
      (do
        b ← look
        inner ← apply_slot_binding texts n bs t (inner_word b.words w)
        add_wrap texts n k inner)
      (return w)
  apply_slot_binding texts n bs (rec fs) w =
      when (any_bound_slot bs fs)
      (do
        pairs ← apply_fields texts n bs fs (payload_of w + 1)
        add_record texts n pairs)
      (return w)
  apply_slot_binding texts n bs (named k s) w = elim (eqb k 10) [ true ↦ return (bound_or w (bound_to s bs)) | false ↦ return w ]

  -- the fields from index `at` on: names as they are, types applied
  pub apply_fields : Texts → (n : ℕ) → List Binding → Fields → (at : ℕ) → Step Buffer Refusal (List ℕ)
  apply_fields texts n bs no_field at = return []
  apply_fields texts n bs (field name t fs) at = do
    b ← look
    new ← apply_slot_binding texts n bs t (get_or b.words (at + 1) 0)
    rest ← apply_fields texts n bs fs (at + 2)
    return (get_or b.words at 0 ∷ new ∷ rest)
