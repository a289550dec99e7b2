-- `library_read::Pool::package_record` meets its contract: three rules, one after another. Assumes nothing.
use Rattle.std.proofs.Common.{◌≡◌, refl, ap, ◌∙◌}
use Rattle.std.proofs.lemmas.Result.{err_from_is_err_and}
use Rattle.library_read.proofs.RecordWays.{name_stops, function_count_stops, package_by}
use Rattle.library_read.proofs.Pool.package_record.Goals as goal

pub returns-in_err-at : goal.returns-in_err-at
returns-in_err-at c = λ o.
    let e : c.texts.inside.library.now ≡ c.args.self.now.texts.library = ap (λ t. t.library) c.texts.view_is ∙ ap (λ p. p.texts.library) c.self.view_is in
    let p = err_from_is_err_and c.from_residual.result c.from_residual.ensures.1 in
    rw (p.1, p.2) (name_stops _ _ _ (rw e at c.in_err-at.ensures))

pub returns-in_err-at-2 : goal.returns-in_err-at-2
returns-in_err-at-2 c = λ o.
    let e : c.texts.inside.library.now ≡ c.args.self.now.texts.library = ap (λ t. t.library) c.texts.view_is ∙ ap (λ p. p.texts.library) c.self.view_is in
    let p = err_from_is_err_and c.from_residual-in_err-at-2.result c.from_residual-in_err-at-2.ensures.1 in
    rw (p.1, p.2) (function_count_stops _ _ _ (rw e at c.in_ok-at.ensures) _ _ c.next_word-count.ensures refl _ c.in_err-at-2.ensures)

pub returns : goal.returns
returns c = λ o.
    let e : c.texts.inside.library.now ≡ c.args.self.now.texts.library = ap (λ t. t.library) c.texts.view_is ∙ ap (λ p. p.texts.library) c.self.view_is in
    let same = c.in_ok-at-2.ensures.1 ∙ c.in_ok-at.ensures.1 in
    package_by _ _ _ (rw e at c.in_ok-at.ensures) _ _ c.next_word-count.ensures refl _ c.in_ok-at-2.ensures _ (c.function_records.ensures (rw same o))
