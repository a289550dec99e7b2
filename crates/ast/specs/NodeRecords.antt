-- The fourteen kinds of node record, a definition for each row of document 01's table ("Rest of each"). Definitions.
-- Each reads the words after the slot. Counts inside a record are held against its length, at the count word.
use Rattle.std.specs.Prelude.{ℕ, zero, suc, ◌+◌, ◌*◌, ◌-◌, ◌/◌, Bool, ◌&&◌, ◌||◌, List, [], ◌∷◌, ◌++◌, get_or, leb, ltb, eqb}
use Rattle.utf8.specs.Rfc3629.{range}
use Rattle.tok.specs.Step.{◌>>=◌, return}
use Rattle.tok.specs.Reader.{Read, word, below, many}
use Rattle.ast.specs.Outline.{Outline, Here, outline, owns, token, name, part, parts, type_part, typed_names}

-- 0 Atom: token, type kind 2 to 5
unfoldable pub atom : Here → Read Outline
atom h = do
  _ ← token h.counts
  _ ← word (range 2 5)
  return (owns h [])

-- 1 Ident: name
unfoldable pub ident : Here → Read Outline
ident h = do
  _ ← name h.counts
  return (owns h [])

-- "Operators: 0 to 8"
abbrev pub operator : Read ℕ
operator = below 9

-- 2 Bin: token, operator, left, right
unfoldable pub bin : Here → Read Outline
bin h = do
  _ ← token h.counts
  _ ← operator
  l ← part h
  r ← part h
  return (owns h (l ∷ r ∷ []))

-- 3 Unary: token, operator, right
unfoldable pub unary : Here → Read Outline
unary h = do
  _ ← token h.counts
  _ ← operator
  r ← part h
  return (owns h (r ∷ []))

-- 4 Let: name, right
unfoldable pub binding : Here → Read Outline
binding h = do
  _ ← name h.counts
  r ← part h
  return (owns h (r ∷ []))

-- "slots (an Fn's argument slots too) below V": its slot and one after it per argument
unfoldable pub good_arguments : Here → (n : ℕ) → Bool
good_arguments h n = leb (2 * n) (h.left - 3) && ltb (h.slot + n) h.counts.slots

-- 5 Fn: name, return type, argument count, name and type of each, body
unfoldable pub fn : Here → Read Outline
fn h = do
  _ ← name h.counts
  _ ← type_part h.counts
  n ← word (good_arguments h)
  _ ← typed_names h.counts n
  body ← parts h (h.left - 3 - 2 * n)
  return (outline h n body)

-- The cases that are left, in `left` words: "per case token, condition, body count, body; then default token, body". A
-- case has three words at least, the default one.
unfoldable pub cases : Here → (count left : ℕ) → Read (List ℕ)
cases h zero left = do
  _ ← token h.counts
  parts h (left - 1)
cases h (suc count) left = do
  _ ← token h.counts
  condition ← part h
  n ← word (λ k. leb (k + 3 * count + 1) (left - 3))
  body ← parts h n
  others ← cases h count (left - 3 - n)
  return (condition ∷ body ++ others)

-- 6 Match: case count; the cases
unfoldable pub match : Here → Read Outline
match h = do
  count ← word (λ k. leb (3 * k + 1) (h.left - 1))
  ps ← cases h count (h.left - 1)
  return (owns h ps)

-- an Ident or a Field
abbrev pub callable : Outline → Bool
callable o = eqb o.kind 1 || eqb o.kind 8

abbrev pub no_node : Outline
no_node = record { kind = 0; slot = 0; arguments = 0; parts = [] }

-- 7 Call: target (Ident or Field), arguments
unfoldable pub call : Here → Read Outline
call h = do
  target ← word (λ p. ltb p h.number && callable (get_or h.before p no_node))
  args ← parts h (h.left - 1)
  return (owns h (target ∷ args))

-- 8 Field: target, name
unfoldable pub field : Here → Read Outline
field h = do
  target ← part h
  _ ← name h.counts
  return (owns h (target ∷ []))

-- 9 Cast: token, left, type
unfoldable pub cast : Here → Read Outline
cast h = do
  _ ← token h.counts
  l ← part h
  _ ← type_part h.counts
  return (owns h (l ∷ []))

-- 10 Import: token, paths
unfoldable pub imports : Here → Read Outline
imports h = do
  _ ← token h.counts
  _ ← many (h.left - 1) (name h.counts)
  return (owns h [])

-- The functions that are left, in `left` words: "each: name, return type, argument count, pairs", three words at least.
-- The last one's count uses the record up.
unfoldable pub good_extern_count : (count left n : ℕ) → Bool
good_extern_count zero left n = eqb (2 * n) left
good_extern_count (suc others) left n = leb (2 * n + 3 * suc others) left

unfoldable pub extern_functions : Here → (count left : ℕ) → Read (Unit {0})
extern_functions h zero left = return tt
extern_functions h (suc others) left = do
  _ ← name h.counts
  _ ← type_part h.counts
  n ← word (good_extern_count others (left - 3))
  _ ← typed_names h.counts n
  extern_functions h others (left - 3 - 2 * n)

-- of no function there are no words
unfoldable pub good_function_count : (left n : ℕ) → Bool
good_function_count left n = leb (3 * n) left && (ltb 0 n || eqb left 0)

-- 11 Extern: token, name, function count; the functions
unfoldable pub extern : Here → Read Outline
extern h = do
  _ ← token h.counts
  _ ← name h.counts
  count ← word (good_function_count (h.left - 3))
  _ ← extern_functions h count (h.left - 3)
  return (owns h [])

unfoldable pub named_part : Here → Read ℕ
named_part h = do
  _ ← name h.counts
  part h

-- 12 Record: token, name and value pairs
unfoldable pub record_node : Here → Read Outline
record_node h = do
  _ ← token h.counts
  values ← many ((h.left - 1) / 2) (named_part h)
  return (owns h values)

-- 13 Array: token, members
unfoldable pub array : Here → Read Outline
array h = do
  _ ← token h.counts
  members ← parts h (h.left - 1)
  return (owns h members)
