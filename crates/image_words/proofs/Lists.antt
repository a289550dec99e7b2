-- A list read by one rule again and again: where each turn goes by the rule, all go by `many` of it. Assumes nothing.
use Prim.Native.Nat.{ℕ}
use mathlib.Core.Path.{refl, ◌∙◌}
use mathlib.Core.List.{◌∷◌}
use Rattle.std.specs.Prelude.{Result, Ok, Err}
use Rattle.tok.specs.Reader.{Read, many}
use Rattle.reader.specs.declared.Fault.{Fault}
use Rattle.reader.specs.Reading.{Reader, onward, gave, Comes}
use Rattle.reader.specs.Repeated.{Repeated, none_left, one_more, one_stops}
use Rattle.image_words.specs.Leads.{unanswered, Leads}
use Rattle.image_words.specs.LeadLaws.{leads_word, leads_then, leads_stops, leads_last, same_on}

module _ {A : Type 0} {one : Reader → ℕ → Result Reader Fault → Type 0} (m : Read A)
    (turn : (from : Reader) (i : ℕ) (to : Result Reader Fault) → one from i to → Leads from m to) where
  pub many_leads : {i n : ℕ} {from : Reader} {to : Result Reader Fault} → Repeated one i n from to → Leads from (many n m) to
  unfolding many unanswered gave
  many_leads none_left = (refl, refl)
  many_leads {from = from} {to = to} (one_more {i = i} {count = n} {mid = mid} h rest) =
      let t = turn from i (Ok mid) h in
      let others = many_leads rest in
      (leads_then _ _ mid to t.0 (λ a. leads_last (λ found. a ∷ found) (onward mid (many n m)) ∙ others.0), same_on from mid to t.1 others.1)
  many_leads {from = from} (one_stops {i = i} {fault = fault} h) = let t = turn from i (Err fault) h in (leads_stops _ _ fault t.0, tt)

-- the same, where each turn reads one word
pub words_lead : {A : Type 0} {one : Reader → ℕ → Result Reader Fault → Type 0} (m : Read A) (answer : Reader → A)
    → ((from : Reader) (i : ℕ) (to : Result Reader Fault) → one from i to → Comes from m (answer from) to)
    → {i n : ℕ} {from : Reader} {to : Result Reader Fault} → Repeated one i n from to → Leads from (many n m) to
words_lead m answer turn h = many_leads m (λ from i to p. (leads_word (answer from) to _ (turn from i to p).0, (turn from i to p).1)) h
