-- `scope::held_at` meets its contract. Assumes nothing.
use mathlib.Core.Path.{refl, ap, ◌∙◌}
use Rattle.state.specs.Store.{held_size}
use Rattle.scope.proofs.HeldWays.{size-one, size-more, of-library, of-extern}
use Rattle.scope.proofs.held_at.Goals as goal

pub returns-then-w-lt-EXTERN : goal.returns-then-w-lt-EXTERN
returns-then-w-lt-EXTERN c =
    ((λ library. of-library library _ _ c.word_at-w.ensures c.if-w-lt-EXTERN.true refl), size-one _ c.if-w-lt-EXTERN.true ∙ ap (λ w. held_size w) c.word_at-w.ensures)

pub returns-else-w-lt-EXTERN : goal.returns-else-w-lt-EXTERN
returns-else-w-lt-EXTERN c =
    ((λ library. of-extern library _ _ c.word_at-w.ensures c.if-w-lt-EXTERN.false), size-more _ refl c.if-w-lt-EXTERN.false ∙ ap (λ w. held_size w) c.word_at-w.ensures)
