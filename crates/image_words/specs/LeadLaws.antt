-- Laws of where reading comes to: one rule after another. Assumes nothing.
use Rattle.std.specs.Prelude.{ℕ, ◌≡◌, refl, List, Result, Ok, Err}
use Rattle.std.proofs.Common.{sym, ap, ◌∙◌}
use Rattle.tok.specs.Step.{ok, refused, next, return}
use Rattle.tok.specs.Step as step
use Rattle.tok.specs.Reader.{Cursor, Read, fault_of}
use Rattle.reader.specs.declared.Fault.{Fault}
use Rattle.reader.specs.Reading.{Reader, reading, standing, onward, gave, Same, offending}
use Rattle.reader.specs.Laws.{by_rule}
use Rattle.reader.specs.Reads.{Reads, reads, faults}
use Rattle.image_words.specs.Leads.{unanswered, Leads}

-- a word that was read
pub leads_word : {A : Type 0} (a : A) (to : Result Reader Fault) (r : step.Result Cursor ℕ A) → r ≡ gave a to → unanswered r ≡ gave tt to
unfolding unanswered gave
leads_word a (Ok to) r e = rw e refl
leads_word a (Err fault) r e = rw e refl

module _ {A B : Type 0} (f : A → Read B) where
  -- a rule, and the rest, which goes by what it answered
  pub leads_on : (r : step.Result Cursor ℕ A) (mid : Reader) (end : step.Result Cursor ℕ (Unit {0})) → unanswered r ≡ gave tt (Ok mid)
      → ((a : A) → unanswered (onward mid (f a)) ≡ end) → unanswered (next r f) ≡ end
  unfolding unanswered gave
  leads_on (ok a c) mid end e h = let same : c ≡ standing mid.words mid.at mid.least = cc in rw same (h a)
  leads_on (refused place) mid end e h = cc

  pub leads_then : (r : step.Result Cursor ℕ A) (mid : Reader) (to : Result Reader Fault) → unanswered r ≡ gave tt (Ok mid)
      → ((a : A) → unanswered (onward mid (f a)) ≡ gave tt to) → unanswered (next r f) ≡ gave tt to
  leads_then r mid to e h = leads_on r mid (gave tt to) e h

  -- a fault ends all
  pub leads_stops : (r : step.Result Cursor ℕ A) (fault : Fault) → unanswered r ≡ gave tt (Err fault) → unanswered (next r f) ≡ gave tt (Err fault)
  unfolding unanswered gave
  leads_stops (ok a c) fault e = cc
  leads_stops (refused place) fault e = e

-- the last rule, of which an answer is made
pub leads_last : {A B : Type 0} (f : A → B) (r : step.Result Cursor ℕ A) → unanswered (next r (λ a. return (f a))) ≡ unanswered r
unfolding unanswered
leads_last f (ok a c) = refl
leads_last f (refused place) = refl

-- where an answer stands there by place, it is the one that was read
pub leads_there : {A : Type 0} {words : List ℕ} (a : A) (end : ℕ) (P : Type 0) (to : Result Reader Fault) (r : step.Result Cursor ℕ A) → Reads words a end P r
    → unanswered r ≡ gave tt to → r ≡ gave a to
unfolding unanswered gave
leads_there {words = words} a end P (Ok to) r (reads least w p) e = let same : standing words end least ≡ standing to.words to.at to.least = cc in ap (ok a) same
leads_there {words = words} a end P (Err fault) r (reads least w p) e = cc
leads_there {words = words} a end P (Ok to) r (faults place) e = cc
leads_there {words = words} a end P (Err fault) r (faults place) e = let same : place ≡ fault.0 = cc in ap refused same

-- the fault that ended it
pub leads_fault : {A : Type 0} (to : Result Reader Fault) (r : step.Result Cursor ℕ A) → unanswered r ≡ gave tt to → offending to ≡ fault_of r
unfolding unanswered gave fault_of
leads_fault (Ok to) (ok a c) e = refl
leads_fault (Ok to) (refused place) e = cc
leads_fault (Err fault) (ok a c) e = cc
leads_fault (Err fault) (refused place) e = let same : place ≡ fault.0 = cc in rw same refl

-- the words that one reading has left as they were, and then another, are the same still
pub same_on : (from mid : Reader) (to : Result Reader Fault) → mid.words ≡ from.words → Same mid to → Same from to
same_on from mid (Ok to) p q = q ∙ p
same_on from mid (Err fault) p q = tt

-- a rule leads to one place
gave_one : {A : Type 0} (a b : A) (from : Reader) (to other : Result Reader Fault) → gave a to ≡ gave b other → Same from to → Same from other → to ≡ other
unfolding gave
gave_one a b from (Ok to) (Ok other) e p q =
    let same : standing to.words to.at to.least ≡ standing other.words other.at other.least = cc in
    ap (λ (c : Cursor). Ok (reading to.words c.at c.least)) same ∙ ap (λ words. Ok (reading words other.at other.least)) (p ∙ sym q)
gave_one a b from (Ok to) (Err fault) e p q = cc
gave_one a b from (Err fault) (Ok to) e p q = cc
gave_one a b from (Err fault) (Err other) e p q = let same : fault.0 ≡ other.0 = cc in ap (λ place. Err (record { 0 = place })) same

pub leads_one : {A : Type 0} (from : Reader) (rule : Read A) {to other : Result Reader Fault} → Leads from rule to → Leads from rule other → to ≡ other
leads_one from rule l m = gave_one _ _ from _ _ (sym l.0 ∙ m.0) l.1 m.1

-- what a reader of words one after the other goes by
pub ruleset leads = (leads_last, leads_then, leads_stops, by_rule, same_on)
