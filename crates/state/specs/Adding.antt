-- From a type added (crate `add`) to the rules' step `on_types`. By cases. Assumes nothing.
use Rattle.std.specs.Prelude.{ℕ, ◌≡◌, List, Ok, Err}
use Rattle.std.proofs.Math.Path.{refl, ap}
use Rattle.std.proofs.Common.{◌∙◌}
use Rattle.tok.specs.Step.{Step as Stepping, Refusal as Refused}
use Rattle.ptype.specs.Add.{Buffer, buffer}
use Rattle.add.specs.declared.AddError.TheVariants as A
use Rattle.add.specs.Answer.{Added, result_of}
use Rattle.rules.specs.Steps.{raised, on_types}
use Rattle.state.specs.declared.Used.{Used}
use Rattle.state.specs.declared.Refusal.TheVariants.{TypesFull, TooDeep, ReportsFull}
use Rattle.state.specs.Refused.{refusal_of}
use Rattle.state.specs.World.{Rest, world, Step, stepped, Steps}

-- what a step of node n gives after a type is added: its word, and so many words of types used then; or refusal 7 or 8
unfoldable pub added_of : (n : ℕ) → Used → Added → Step ℕ
added_of n u (Ok (word, types)) = Ok (word, record { types = types; told = u.told; kept = u.kept })
added_of n u (Err A.Full) = Err (TypesFull n)
added_of n u (Err A.TooDeep) = Err (TooDeep n)

added-is : (n : ℕ) (rest : Rest) (s t d m t' : List ℕ) (u : Used) (a : Added) → raised (world rest s t d m u) (result_of n a t') ≡ stepped rest s t' d m (added_of n u a)
unfolding raised stepped added_of refusal_of
added-is n rest s t d m t' u (Ok (word, types)) = refl
added-is n rest s t d m t' u (Err A.Full) = refl
added-is n rest s t d m t' u (Err A.TooDeep) = refl

-- Steps of the types buffer that give what the code that adds the type answers are a step of the walk.
pub added-step : (n : ℕ) (add : Stepping Buffer Refused ℕ) (a : Added) {s t d m t' : List ℕ} {u : Used} → add (buffer t u.types) ≡ result_of n a t'
    → Steps (on_types add) s t d m u s t' d m (added_of n u a)
unfolding on_types
added-step n add a {s} {t} {d} {m} {t'} {u} p = record { step = λ rest. ap (raised (world rest s t d m u)) p ∙ added-is n rest s t d m t' u a }

-- the addition that a step answers for
abbrev answered : Step ℕ → Added
answered (Ok (word, u)) = Ok (word, u.types)
answered (Err (TypesFull n)) = Err A.Full
answered (Err (TooDeep n)) = Err A.TooDeep
answered (Err (ReportsFull n)) = Err A.Full

answered-is : (n : ℕ) (u : Used) (a : Added) → a ≡ answered (added_of n u a)
unfolding added_of
answered-is n u (Ok (word, types)) = refl
answered-is n u (Err A.Full) = refl
answered-is n u (Err A.TooDeep) = refl

pub added-back : (n : ℕ) (u : Used) (a : Added) {word : ℕ} {v : Used} → added_of n u a ≡ Ok (word, v) → a ≡ Ok (word, v.types)
added-back n u a p = answered-is n u a ∙ ap answered p
