-- What the functions that cover lists ask for, and what it is of the items after the first. Assumes nothing.
use Rattle.std.specs.Prelude.{ℕ, suc, ◌+◌, ◌*◌, ◌-◌, ◌≤◌, ◌<◌, ◌≡◌, List, get_or}
use Rattle.std.proofs.Common.{arith}
use Rattle.ast.specs.Image.{word_at, type_count, record_kind}
use Rattle.ast.specs.Outline.{Counts}
use Rattle.image_laws.specs.Many.{Each}
use Rattle.image_laws.specs.RecordWords.{Under, Pair, CasesWords, case_words, FunctionsWords, function_words}
use Rattle.image_laws.proofs.Accepted.{counts_in}
use Rattle.trees.specs.SameWords.{each_first, each-rest, cases-within, functions-within}
use Rattle.places.specs.Readable.{Readable}
use Rattle.places.specs.NodesAt.{NodeReady, PartReady, part-ready}
use Rattle.type_expr.specs.Ready.{TypeReady}

-- k nodes from word `at` on, parts of `owner`
pub record NodesReady (image places : List ℕ) (owner at k : ℕ) : Type 0 where
  pub ready : NodeReady image places owner
  pub nodes : Each (Under owner image) 1 at k
  pub room : at + k ≤ 8192

-- k pairs of a name and such a node
pub record ValuesReady (image places : List ℕ) (owner at k : ℕ) : Type 0 where
  pub ready : NodeReady image places owner
  pub values : Each (Pair ready.readable.text owner image) 2 at k
  pub room : at + 2 * k ≤ 8192

-- k cases of the Match `owner`
pub record CasesReady (image places : List ℕ) (owner at k : ℕ) : Type 0 where
  pub ready : NodeReady image places owner
  pub end : ℕ
  pub cases : CasesWords (counts_in ready.readable.text image) image owner end at k
  pub room : end ≤ 8192

-- k pairs of a name and a type
pub record ArgsReady (image places : List ℕ) (at k : ℕ) : Type 0 where
  pub readable : Readable image places
  pub args : Each (Pair readable.text (type_count image) image) 2 at k
  pub room : at + 2 * k ≤ 8192

-- k functions of an Extern
pub record ExternsReady (image places : List ℕ) (at k : ℕ) : Type 0 where
  pub readable : Readable image places
  pub end : ℕ
  pub functions : FunctionsWords (counts_in readable.text image) image end at k
  pub room : end ≤ 8192

-- A Match at a place.
pub record MatchReady (image places : List ℕ) (n at : ℕ) : Type 0 where
  pub ready : NodeReady image places n
  pub place : at ≡ get_or places n 0
  pub kind : record_kind image at ≡ 6

-- the kinds that have a list: 5 to 7, and 10 to 13
pub record Listed (k : ℕ) : Type 0 where
  pub low : 5 ≤ k
  pub high : k < 14
  pub no_field : k ≡ 8 → ⊥
  pub no_cast : k ≡ 9 → ⊥

-- A node of such a kind at a place.
pub record ListReady (image places : List ℕ) (n at : ℕ) : Type 0 where
  pub ready : NodeReady image places n
  pub place : at ≡ get_or places n 0
  pub listed : Listed (record_kind image at)

past : (a : ℕ) {k : ℕ} → a ≤ k → (k ≡ a → ⊥) → a + 1 ≤ k
past a l d = omega (arith, d)

pub is-listed : {k : ℕ} → k < 14 → 2 ≤ k → (k ≡ 2 → ⊥) → (k ≡ 3 → ⊥) → (k ≡ 4 → ⊥) → (k ≡ 8 → ⊥) → (k ≡ 9 → ⊥) → Listed k
is-listed h l b u t f c = record { low = past 4 (past 3 (past 2 l b) u) t; high = h; no_field = f; no_cast = c }

-- one that is none of the others is an Array
pub is-array : {k : ℕ} → Listed k → (k ≡ 5 → ⊥) → (k ≡ 6 → ⊥) → (k ≡ 7 → ⊥) → (k ≡ 10 → ⊥) → (k ≡ 11 → ⊥) → (k ≡ 12 → ⊥) → k ≡ 13
is-array h f m c i e r =
    let l = past 12 (past 11 (past 10 (past 9 (past 8 (past 7 (past 6 (past 5 h.low f) m) c) h.no_field) h.no_cast) i) e) r in
    omega (arith, h.high)

-- ── The first item, and the others ──

less : {k : ℕ} → 0 < k → k ≡ suc (k - 1)
less l = omega arith

module _ {image places : List ℕ} {owner at k : ℕ} (l : 0 < k) where
  module _ (r : NodesReady image places owner at k) where
    nodes : Each (Under owner image) 1 at (suc (k - 1))
    nodes = rw (less l) at r.nodes

    pub nodes-part : {i : ℕ} → i ≡ get_or image at 0 → PartReady image places owner i
    nodes-part e = part-ready r.ready (each_first (Under owner image) nodes) e

    pub nodes-rest : NodesReady image places owner (at + 1) (k - 1)
    nodes-rest = record { ready = r.ready; nodes = each-rest (Under owner image) nodes; room = omega (arith, r.room) }

  module _ (r : ValuesReady image places owner at k) where
    values : Each (Pair r.ready.readable.text owner image) 2 at (suc (k - 1))
    values = rw (less l) at r.values

    pub values-part : {i : ℕ} → i ≡ get_or image (at + 1) 0 → PartReady image places owner i
    values-part e = part-ready r.ready (each_first (Pair r.ready.readable.text owner image) values).value e

    pub values-rest : ValuesReady image places owner (at + 2) (k - 1)
    values-rest = record { ready = r.ready; values = each-rest (Pair r.ready.readable.text owner image) values; room = omega (arith, r.room) }

module _ {image places : List ℕ} {at k : ℕ} (l : 0 < k) (r : ArgsReady image places at k) where
  args : Each (Pair r.readable.text (type_count image) image) 2 at (suc (k - 1))
  args = rw (less l) at r.args

  pub args-type : {i : ℕ} → i ≡ get_or image (at + 1) 0 → TypeReady image places i
  args-type e = record { readable = r.readable; below = rw e (each_first (Pair r.readable.text (type_count image) image) args).value.under }

  pub args-rest : ArgsReady image places (at + 2) (k - 1)
  args-rest = record { readable = r.readable; args = each-rest (Pair r.readable.text (type_count image) image) args; room = omega (arith, r.room) }

-- A case's condition and body, and the cases after it.
record CaseParts (c : Counts) (image : List ℕ) (n end at k : ℕ) : Type 0 where
  condition : Under n image (at + 1)
  body : Each (Under n image) 1 (at + 3) (word_at image (at + 2))
  others : CasesWords c image n end (at + 3 + word_at image (at + 2)) k

case-parts : {c : Counts} {image : List ℕ} {n end at k : ℕ} → CasesWords c image n end at (suc k) → CaseParts c image n end at k
case-parts (case_words t q b o) = record { condition = q; body = b; others = o }

module _ {image places : List ℕ} {owner at k : ℕ} (l : 0 < k) (r : CasesReady image places owner at k) where
  parts : CaseParts (counts_in r.ready.readable.text image) image owner r.end at (k - 1)
  parts = case-parts (rw (less l) at r.cases)

  pub case-condition : {i : ℕ} → i ≡ get_or image (at + 1) 0 → PartReady image places owner i
  case-condition e = part-ready r.ready parts.condition e

  -- its words stand in the image
  pub case-room : {m : ℕ} → m ≡ get_or image (at + 2) 0 → at + 3 + m ≤ 8192
  case-room e = rw e (let h = cases-within parts.others in omega (arith, r.room))

  pub case-body : {m : ℕ} → m ≡ get_or image (at + 2) 0 → NodesReady image places owner (at + 3) m
  case-body e = record { ready = r.ready; nodes = rw (← e) at parts.body; room = case-room e }

  pub case-rest : {m : ℕ} → m ≡ get_or image (at + 2) 0 → CasesReady image places owner (at + 3 + m) (k - 1)
  case-rest e = record { ready = r.ready; end = r.end; cases = rw (← e) at parts.others; room = r.room }

-- A function's arguments and return type, and the functions after it.
record FunctionParts (c : Counts) (image : List ℕ) (end at k : ℕ) : Type 0 where
  ret : Under c.types image (at + 1)
  args : Each (Pair c.text c.types image) 2 (at + 3) (word_at image (at + 2))
  others : FunctionsWords c image end (at + 3 + 2 * word_at image (at + 2)) k

function-parts : {c : Counts} {image : List ℕ} {end at k : ℕ} → FunctionsWords c image end at (suc k) → FunctionParts c image end at k
function-parts (function_words n t a o) = record { ret = t; args = a; others = o }

module _ {image places : List ℕ} {at k : ℕ} (l : 0 < k) (r : ExternsReady image places at k) where
  extern : FunctionParts (counts_in r.readable.text image) image r.end at (k - 1)
  extern = function-parts (rw (less l) at r.functions)

  pub extern-ret : {i : ℕ} → i ≡ get_or image (at + 1) 0 → TypeReady image places i
  extern-ret e = record { readable = r.readable; below = rw e extern.ret.under }

  pub extern-room : {m : ℕ} → m ≡ get_or image (at + 2) 0 → at + 3 + 2 * m ≤ 8192
  extern-room e = rw e (let h = functions-within extern.others in omega (arith, r.room))

  pub extern-args : {m : ℕ} → m ≡ get_or image (at + 2) 0 → ArgsReady image places (at + 3) m
  extern-args e = record { readable = r.readable; args = rw (← e) at extern.args; room = extern-room e }

  pub extern-rest : {m : ℕ} → m ≡ get_or image (at + 2) 0 → ExternsReady image places (at + 3 + 2 * m) (k - 1)
  extern-rest e = record { readable = r.readable; end = r.end; functions = rw (← e) at extern.others; room = r.room }
