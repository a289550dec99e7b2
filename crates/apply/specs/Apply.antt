-- Type::apply_slot_binding (ptype.rs), of a type word. Definitions.
-- `apply_slot_binding` of ptype goes by the tree that the word meant at the start. The two are equal where the word means a type
-- (TreeLaws: apply-tree). Where a word refers past the used part they may differ: code reads the type from the words that were used at
-- the start, and follows this one.
-- "Option and Array add one word, Record of n fields 1 + 2n, inner first, where the Rust allocates type nodes."
use Rattle.std.specs.Prelude.{List, [], ◌∷◌, ℕ, zero, suc, ◌+◌, get_or, take, eqb}
use Rattle.tok.specs.Word.{kind_of, payload_of}
use Rattle.tok.specs.Text.{Texts, name_bytes}
use Rattle.tok.specs.Step.{Step, Refusal, ◌>>=◌, return, look, when}
use Rattle.ptype.specs.Kinds.{wraps}
use Rattle.ptype.specs.Words.{inner_word, field_count, unfolded}
use Rattle.ptype.specs.Add.{Buffer, add_wrap, add_record}
use Rattle.ptype.specs.Slots.{Binding, bound_to, bound_or, has_bound_slot}

-- `seen` says what is read of the buffer: all of it as it is at the time, or only the words `old`, whatever was added since
abbrev pub whole : Buffer → List ℕ
whole b = b.words

abbrev pub only : (old : List ℕ) → Buffer → List ℕ
only old b = old

-- The pairs of `left` fields from index `at` on: names as they are, each type as `go` puts it, in order.
unfoldable pub apply_pairs : (go : ℕ → Step Buffer Refusal ℕ) → (seen : Buffer → List ℕ) → (at left : ℕ) → Step Buffer Refusal (List ℕ)
apply_pairs go seen at zero = return []
apply_pairs go seen at (suc left) = do
  b ← look
  new ← go (get_or (seen b) (at + 1) 0)
  rest ← apply_pairs go seen (at + 2) left
  return (get_or (seen b) at 0 ∷ new ∷ rest)

-- match self { Slot(slot) => bindings.get(slot).copied().unwrap_or(*self), Option(inner) => Option(arena.alloc(inner.apply_slot_binding(..))),
-- .., Record(fields) => Record(arena.alloc_slice(..)), _ => *self }: `go` is for what stands inside
unfoldable pub apply_inside : Texts → (n : ℕ) → List Binding → (seen : Buffer → List ℕ) → (go : ℕ → Step Buffer Refusal ℕ) → (word : ℕ) → Step Buffer Refusal ℕ
apply_inside texts n bs seen go w =
    when (eqb (kind_of w) 10) (return (bound_or w (bound_to (name_bytes texts w) bs)))
    (when (wraps (kind_of w))
    (do
      b ← look
      inner ← go (inner_word (seen b) w)
      add_wrap texts n (kind_of w) inner)
    (when (eqb (kind_of w) 8)
    (do
      b ← look
      pairs ← apply_pairs go seen (payload_of w + 1) (field_count (seen b) w)
      add_record texts n pairs)
    (return w)))

-- if !self.has_bound_slot(bindings) { return *self; }: "types without slots are returned as is, so only substituted compound types
-- allocate". As deep as the number says.
unfoldable pub apply_within : Texts → (n : ℕ) → List Binding → (seen : Buffer → List ℕ) → (deep : ℕ) → (word : ℕ) → Step Buffer Refusal ℕ
apply_within texts n bs seen zero w = return w
apply_within texts n bs seen (suc f) w = do
  b ← look
  when (has_bound_slot bs (unfolded texts (seen b) (suc f) w)) (apply_inside texts n bs seen (apply_within texts n bs seen f) w) (return w)

-- for node n, whose rule runs; of the words that are used, as deep as a word is unfolded
unfoldable pub apply_word : Texts → (n : ℕ) → List Binding → (word : ℕ) → Step Buffer Refusal ℕ
apply_word texts n bs w = do
  b ← look
  apply_within texts n bs (only (take b.used b.words)) 33 w
