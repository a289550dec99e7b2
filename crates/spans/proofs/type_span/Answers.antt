-- `spans::type_span` meets its contract. Assumes nothing.
use mathlib.Core.Path.{ap, ◌∙◌}
use Rattle.tok.specs.Span.{token_span}
use Rattle.spans.proofs.type_span.Goals as goal

pub type_token-requires : goal.type_token-requires
type_token-requires c = c.requires

pub returns : goal.returns
returns c = c.token_span.ensures ∙ ap token_span c.type_token.ensures
