-- What the words of an accepted node record are, a record of facts for each row of document 01's table ("Rest of each"). Definitions.
-- Node n, whose record stands at word `at`: word 0 is kind and length, word 1 the slot.
use Rattle.std.specs.Prelude.{ℕ, zero, suc, ◌+◌, ◌*◌, ◌-◌, ◌/◌, ◌≤◌, ◌<◌, true, ◌≡◌, List, get_or}
use Rattle.tok.specs.Name.{good_name, in_script}
use Rattle.ast.specs.Image.{word_at, record_length}
use Rattle.ast.specs.Outline.{Outline, Counts}
use Rattle.ast.specs.NodeRecords.{callable, no_node}
use Rattle.image_laws.specs.OutlineAt.{outline_at}
use Rattle.image_laws.specs.Many.{Each}

-- a good name or token
pub record Named (text image : List ℕ) (at : ℕ) : Type 0 where
  pub good : good_name in_script text (word_at image at) ≡ true

-- a number below another: of a part, a type
pub record Under (n : ℕ) (image : List ℕ) (at : ℕ) : Type 0 where
  pub under : word_at image at < n

-- a pair: a name, and a number below another
pub record Pair (text : List ℕ) (n : ℕ) (image : List ℕ) (at : ℕ) : Type 0 where
  pub name : Named text image at
  pub value : Under n image (at + 1)

module _ (c : Counts) (image : List ℕ) (n at : ℕ) where
  -- 0 Atom: token, type kind 2 to 5
  pub record AtomWords : Type 0 where
    pub long : record_length image at ≡ 4
    pub token : Named c.text image (at + 2)
    pub least : 2 ≤ word_at image (at + 3)
    pub most : word_at image (at + 3) ≤ 5

  -- 1 Ident: name
  pub record IdentWords : Type 0 where
    pub long : record_length image at ≡ 3
    pub name : Named c.text image (at + 2)

  -- 2 Bin: token, operator, left, right
  pub record BinWords : Type 0 where
    pub long : record_length image at ≡ 6
    pub token : Named c.text image (at + 2)
    pub operator : Under 9 image (at + 3)
    pub left : Under n image (at + 4)
    pub right : Under n image (at + 5)

  -- 3 Unary: token, operator, right
  pub record UnaryWords : Type 0 where
    pub long : record_length image at ≡ 5
    pub token : Named c.text image (at + 2)
    pub operator : Under 9 image (at + 3)
    pub right : Under n image (at + 4)

  -- 4 Let: name, right
  pub record LetWords : Type 0 where
    pub long : record_length image at ≡ 4
    pub name : Named c.text image (at + 2)
    pub right : Under n image (at + 3)

  -- 5 Fn: name, return type, argument count, name and type of each, body. "An Fn owns its slot and one after it per argument."
  pub record FnWords : Type 0 where
    pub long : 5 + 2 * word_at image (at + 4) ≤ record_length image at
    pub slots : word_at image (at + 1) + word_at image (at + 4) < c.slots
    pub name : Named c.text image (at + 2)
    pub ret : Under c.types image (at + 3)
    pub args : Each (Pair c.text c.types image) 2 (at + 5) (word_at image (at + 4))
    pub body : Each (Under n image) 1 (at + 5 + 2 * word_at image (at + 4)) (record_length image at - (5 + 2 * word_at image (at + 4)))

  -- 7 Call: target (Ident or Field), arguments
  pub record CallWords : Type 0 where
    pub long : 3 ≤ record_length image at
    pub target : Under n image (at + 2)
    pub callable : callable (outline_at image (word_at image (at + 2))) ≡ true
    pub args : Each (Under n image) 1 (at + 3) (record_length image at - 3)

  -- 8 Field: target, name
  pub record FieldWords : Type 0 where
    pub long : record_length image at ≡ 4
    pub target : Under n image (at + 2)
    pub name : Named c.text image (at + 3)

  -- 9 Cast: token, left, type
  pub record CastWords : Type 0 where
    pub long : record_length image at ≡ 5
    pub token : Named c.text image (at + 2)
    pub left : Under n image (at + 3)
    pub type : Under c.types image (at + 4)

  -- 10 Import: token, paths
  pub record ImportWords : Type 0 where
    pub long : 3 ≤ record_length image at
    pub token : Named c.text image (at + 2)
    pub paths : Each (Named c.text image) 1 (at + 3) (record_length image at - 3)

  -- 12 Record: token, name and value pairs
  pub record RecordWords : Type 0 where
    pub long : 3 + 2 * ((record_length image at - 3) / 2) ≡ record_length image at
    pub token : Named c.text image (at + 2)
    pub values : Each (Pair c.text n image) 2 (at + 3) ((record_length image at - 3) / 2)

  -- 13 Array: token, members
  pub record ArrayWords : Type 0 where
    pub long : 3 ≤ record_length image at
    pub token : Named c.text image (at + 2)
    pub members : Each (Under n image) 1 (at + 3) (record_length image at - 3)

-- 7 Call, as it is read: its target is an Ident or a Field among the nodes before
pub record CallReads (c : Counts) (before : List Outline) (image : List ℕ) (n at : ℕ) : Type 0 where
  pub long : 3 ≤ record_length image at
  pub target : Under n image (at + 2)
  pub callable : callable (get_or before (word_at image (at + 2)) no_node) ≡ true
  pub args : Each (Under n image) 1 (at + 3) (record_length image at - 3)

-- of a Match, k cases from word `at` on and the default, which ends at word `end`
pub data CasesWords (c : Counts) (image : List ℕ) (n end : ℕ) : (at k : ℕ) → Type 0 where
  default_words : {at : ℕ} → Named c.text image at → at + 1 ≤ end → Each (Under n image) 1 (at + 1) (end - (at + 1)) → CasesWords c image n end at zero
  case_words : {at k : ℕ} → Named c.text image at → Under n image (at + 1) → Each (Under n image) 1 (at + 3) (word_at image (at + 2))
      → CasesWords c image n end (at + 3 + word_at image (at + 2)) k → CasesWords c image n end at (suc k)

-- 6 Match: case count; per case token, condition, body count, body; then default token, body
pub record MatchWords (c : Counts) (image : List ℕ) (n at : ℕ) : Type 0 where
  pub long : 4 ≤ record_length image at
  pub cases : CasesWords c image n (at + record_length image at) (at + 3) (word_at image (at + 2))

-- of an Extern, k functions from word `at` on, which end at word `end`
pub data FunctionsWords (c : Counts) (image : List ℕ) (end : ℕ) : (at k : ℕ) → Type 0 where
  no_functions : {at : ℕ} → at ≡ end → FunctionsWords c image end at zero
  function_words : {at k : ℕ} → Named c.text image at → Under c.types image (at + 1)
      → Each (Pair c.text c.types image) 2 (at + 3) (word_at image (at + 2))
      → FunctionsWords c image end (at + 3 + 2 * word_at image (at + 2)) k → FunctionsWords c image end at (suc k)

-- 11 Extern: token, name, function count; each: name, return type, argument count, pairs
pub record ExternWords (c : Counts) (image : List ℕ) (n at : ℕ) : Type 0 where
  pub long : 5 ≤ record_length image at
  pub token : Named c.text image (at + 2)
  pub name : Named c.text image (at + 3)
  pub functions : FunctionsWords c image (at + record_length image at) (at + 5) (word_at image (at + 4))

-- Type t, whose record stands at word `at`: word 0 is kind and length.
module _ (c : Counts) (image : List ℕ) (t at : ℕ) where
  -- 0 Atom: token, kind 1 to 5
  pub record TypeAtomWords : Type 0 where
    pub long : record_length image at ≡ 3
    pub token : Named c.text image (at + 1)
    pub least : 1 ≤ word_at image (at + 2)
    pub most : word_at image (at + 2) ≤ 5

  -- 1 Foreign: token
  pub record TypeForeignWords : Type 0 where
    pub long : record_length image at ≡ 2
    pub token : Named c.text image (at + 1)

  -- 2 Option, 3 Array: inner
  pub record TypeInnerWords : Type 0 where
    pub long : record_length image at ≡ 2
    pub inner : Under t image (at + 1)

  -- 4 Record: token, pairs
  pub record TypeRecordWords : Type 0 where
    pub long : 2 + 2 * ((record_length image at - 2) / 2) ≡ record_length image at
    pub token : Named c.text image (at + 1)
    pub fields : Each (Pair c.text t image) 2 (at + 2) ((record_length image at - 2) / 2)
