-- Where the code's reading stands, in the terms of tok's `Reader`: what the contracts of readers cite. Definitions.
use Rattle.std.specs.Prelude.{ℕ, cond, ◌≡◌, List, get_or, drop, ltb, Result, Ok, Err}
use Rattle.std.proofs.Math.Option.{Option, none, some}
use Rattle.tok.specs.Step.{ok, refused}
use Rattle.tok.specs.Step as step
use Rattle.tok.specs.Reader.{Cursor, Read, most_bytes}
use Rattle.reader.specs.declared.Fault.{Fault}

-- A reading of a list of words: it stands before word `at`, and the list has `least` words at least. What contracts see of the code's.
pub record Reader : Type 0 where
  pub words : List ℕ
  pub at : ℕ
  pub least : ℕ

abbrev pub reading : List ℕ → (at least : ℕ) → Reader
reading words at least = record { words = words; at = at; least = least }

-- the definitions' cursor before word `at` of a list
abbrev pub standing : List ℕ → (at least : ℕ) → Cursor
standing words at least = record { rest = drop at words; at = at; least = least }

-- before the first word of a list with a text of n bytes: "a text over its limit comes first, with place 0"
abbrev pub beginning : (n : ℕ) → List ℕ → (least : ℕ) → Result Reader Fault
beginning n words least = cond (ltb most_bytes n) (Err (record { 0 = 0 })) (Ok (reading words 0 least))

-- the word before which a reading stands, and 0 past the end
abbrev pub next_word : Reader → ℕ
next_word from = get_or from.words from.at 0

-- going on from a place by a rule
abbrev pub onward : {A : Type 0} → Reader → Read A → step.Result Cursor ℕ A
onward from rule = rule (standing from.words from.at from.least)

-- What reading has come to, with the answer read: an answer and a cursor, or the place of the first offending word.
unfoldable pub gave : {A : Type 0} → A → Result Reader Fault → step.Result Cursor ℕ A
gave a (Ok to) = ok a (standing to.words to.at to.least)
gave a (Err fault) = refused fault.0

-- the words are the same
abbrev pub Same : Reader → Result Reader Fault → Type 0
Same from (Ok to) = to.words ≡ from.words
Same from (Err fault) = Unit {0}

-- The contract of a reader: going on from `from` by a rule, which answers `a`, comes to `to`, in the same words.
abbrev pub Comes : {A : Type 0} → (from : Reader) → Read A → (a : A) → (to : Result Reader Fault) → Type 0
Comes from rule a to = (onward from rule ≡ gave a to) × Same from to

-- "first offending word, or its length": the place at which reading was refused, or none
abbrev pub offending : {A : Type 0} → Result A Fault → Option ℕ
offending (Ok a) = none
offending (Err fault) = some fault.0
