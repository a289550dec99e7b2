-- The script text and the counts of an image, as the code has them, and reading by a rule that goes by them. Definitions.
use Rattle.std.specs.Prelude.{ℕ, ◌≡◌, List, Result}
use Rattle.tok.specs.Reader.{Read}
use Rattle.reader.specs.declared.Fault.{Fault}
use Rattle.reader.specs.Reading.{Reader, onward, gave, Same}
use Rattle.ast.specs.Outline.{Counts}
use Rattle.image_words.specs.Leads.{unanswered}

abbrev pub counted : (text : List ℕ) (nodes types slots : ℕ) → Counts
counted text nodes types slots = record { text = text; nodes = nodes; types = types; slots = slots }

-- Going on from `from` by a rule of type records comes to `to`, in the same words, whatever the counts: such a rule asks only for the text.
abbrev pub LeadsFor : {A : Type 0} → (from : Reader) → (text : List ℕ) → (Counts → Read A) → Result Reader Fault → Type 0
LeadsFor from text rule to = ((n t v : ℕ) → unanswered (onward from (rule (counted text n t v))) ≡ gave tt to) × Same from to
