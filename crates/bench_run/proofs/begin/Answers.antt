-- `bench_run::begin` meets its contract: an input that does not fit, or its check. Assumes nothing.
use mathlib.Core.Path.{refl, sym, ◌∙◌}
use borrow.Author.Tests.{not-true, not-false}
use Rattle.rows_begin.specs.RunLaws.{begins_input, begins-runs}
use Rattle.bench_run.proofs.begin.Goals as goal

-- src/lib.rt:124:1
pub returns : goal.returns
returns c =
    begins-runs _ _ _ (sym c.fits.ensures ∙ c.if-not-fits.false) c.image.ensures c.library.ensures c.image_length-image_length.ensures c.library_length-library_length.ensures
    c.front.ensures c.front-2.ensures c.script.ensures c.library_text.ensures c.run.ensures
