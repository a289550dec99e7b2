-- Refusals of the walk, as document 01 numbers them. Definitions.
use Rattle.tok.specs.Step.{Refusal, refusal}
use Rattle.state.specs.declared.Refusal.{Refusal as Refused}
use Rattle.state.specs.declared.Refusal.TheVariants.{TypesFull, TooDeep, ReportsFull}

-- "types buffer full | 7", "type depth 33 | 8", "diagnostics or messages full | 9", each with "the node"
unfoldable pub refusal_of : Refused → Refusal
refusal_of (TypesFull n) = refusal 7 n
refusal_of (TooDeep n) = refusal 8 n
refusal_of (ReportsFull n) = refusal 9 n
