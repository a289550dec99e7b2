-- How the code's reading goes on by a rule of the definitions: it comes to where the rule comes to, in the same words, whatever the rule answers.
-- What that answer is, by place, is a law (image_laws, by reader's `Reads`). Definitions.
use Rattle.std.specs.Prelude.{ℕ, ◌≡◌, Result}
use Rattle.tok.specs.Step.{ok, refused}
use Rattle.tok.specs.Step as step
use Rattle.tok.specs.Reader.{Cursor, Read}
use Rattle.reader.specs.declared.Fault.{Fault}
use Rattle.reader.specs.Reading.{Reader, onward, gave, Same}

-- what reading has come to, whatever was read
unfoldable pub unanswered : {A : Type 0} → step.Result Cursor ℕ A → step.Result Cursor ℕ (Unit {0})
unanswered (ok a c) = ok tt c
unanswered (refused place) = refused place

-- Going on from `from` by a rule comes to `to`, in the same words. Where a reading comes to is thereby said in full (`leads_one` of `LeadLaws`);
-- only the answer is left open.
abbrev pub Leads : {A : Type 0} → Reader → Read A → Result Reader Fault → Type 0
Leads from rule to = (unanswered (onward from rule) ≡ gave tt to) × Same from to

-- What a loop keeps that has come from `from` to `to`: the rule that is left leads where the whole rule leads, in the same words.
abbrev pub Left : {A : Type 0} → (from : Reader) (all : Read A) (to : Reader) (left : Read A) → Type 0
Left from all to left = (unanswered (onward to left) ≡ unanswered (onward from all)) × (to.words ≡ from.words)
