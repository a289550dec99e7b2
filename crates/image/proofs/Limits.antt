-- What the whole image goes by: a count that was read, and that it is within its limit; and the fault that its reading comes to. Assumes nothing.
use Prim.Native.Nat.{ℕ}
use mathlib.Core.Bool.{Bool, true}
use mathlib.Core.Path.{◌≡◌, refl, sym, ap, ◌∙◌}
use mathlib.Core.List.{List, []}
use mathlib.Core.Option.{some}
use lib.ListN.{length}
use lib.Dec.{leb}
use Rattle.std.specs.Prelude.{Result, Ok, Err}
use Rattle.tok.specs.Text.{Texts}
use Rattle.tok.specs.Reader.{owing, fault_of}
use Rattle.reader.specs.declared.Fault.{Fault}
use Rattle.reader.specs.Reading.{Reader, beginning, next_word, onward, gave, offending}
use Rattle.reader.specs.Laws.{owed, onward_begun, onward_long}
use Rattle.ast.specs.ImageFault.{image, image_read, image_fault}
use Rattle.reader.specs.Reads.{reads_word, reads-shown}
use Rattle.image_words.specs.Leads.{unanswered}
use Rattle.image_words.specs.LeadLaws.{leads_fault}

pub within : (from to : Reader) (good : Bool) (owes a : ℕ) → onward from (owing (λ _. good) (λ _. owes)) ≡ gave a (Ok to) → good ≡ true
unfolding gave
within from to good owes a e = reads-shown (reads_word (λ _. good) (λ _. owes) from.words from.at from.least) e

pub up_to : (most : ℕ) (owes : ℕ → ℕ) (from to : Reader) (k : ℕ) → k ≡ next_word from
    → onward from (owing (λ _. leb k most) (λ _. owes k)) ≡ gave (next_word from) (Ok to)
    → onward from (owing (λ n. leb n most) owes) ≡ gave k (Ok to)
up_to most owes from to k e read =
    owed (λ n. leb n most) owes from (Ok to) k (owes k) (leb k most) e refl refl read

module _ (t : Texts) (words : List ℕ) where
  pub long_fault : (fault : Fault) → beginning (length t.script) words 4 ≡ Err fault → some fault.0 ≡ image_fault t words
  unfolding image_fault image_read gave fault_of
  long_fault fault e = ap fault_of (sym (onward_long words (length t.script) 4 (image t) fault (record { slots = 0; roots = []; nodes = [] }) e))

  pub read_fault : (from : Reader) (to : Result Reader Fault) → beginning (length t.script) words 4 ≡ Ok from → unanswered (onward from (image t)) ≡ gave tt to
      → offending to ≡ image_fault t words
  unfolding image_fault image_read
  read_fault from to e l = leads_fault to (onward from (image t)) l ∙ ap fault_of (sym (onward_begun words (length t.script) 4 (image t) from e))
