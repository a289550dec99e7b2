-- `refuse::refuse` meets its contract: a law for each way out (`Ways`), with the fault that each cause was made of (`Causes`). Assumes nothing.
use mathlib.Core.Path.{ap, sym, ◌∙◌}
use Rattle.std.proofs.Common.{rules}
use Rattle.std.proofs.lemmas.Result.{err_from_is_err_and}
use Rattle.refuse.specs.declared.Cause.TheVariants.{Library, Image, Claims, Depth}
use Rattle.refuse.specs.Answer.{refusal_in}
use Rattle.refuse.proofs.Causes.{passed, caused}
use Rattle.refuse.proofs.Ways.{scratch-short, library-refused, image-refused, claims-refused, depth-refused, room-last}
use Rattle.refuse.proofs.refuse.Goals as goal

pub returns-then-scratch-lt-SCRATCH_WORDS : goal.returns-then-scratch-lt-SCRATCH_WORDS
returns-then-scratch-lt-SCRATCH_WORDS c = scratch-short _ _ c.if-scratch-lt-SCRATCH_WORDS.true

pub returns-in_err-map_err : goal.returns-in_err-map_err
returns-in_err-map_err c =
    let p = err_from_is_err_and c.from_residual.result c.from_residual.ensures.1 in
    let t = caused Library (λ f d h. search rules) c.library_fault.result c.in_err-map_err.field-0.0 c.map_err.ensures.cases c.in_err-map_err.was in
    rw (p.1, p.2, t.is) (library-refused _ _ c.if-scratch-lt-SCRATCH_WORDS.false t.place (c.library_fault.ensures ∙ t.found))

pub returns-in_err-map_err-2 : goal.returns-in_err-map_err-2
returns-in_err-map_err-2 c =
    let p = err_from_is_err_and c.from_residual-in_err-map_err-2.result c.from_residual-in_err-map_err-2.ensures.1 in
    let t = caused Image (λ f d h. search rules) c.read.result c.in_err-map_err-2.field-0.0 c.map_err-2.ensures.cases c.in_err-map_err-2.was in
    let library = c.library_fault.ensures ∙ passed Library (λ f d h. search rules) c.library_fault.result c.map_err.ensures.cases c.in_ok-map_err.was in
    rw (p.1, p.2, t.is) (image-refused _ _ c.if-scratch-lt-SCRATCH_WORDS.false library t.place (sym t.found ∙ c.read.ensures _))

pub returns-in_err-map_err-3 : goal.returns-in_err-map_err-3
returns-in_err-map_err-3 c =
    let p = err_from_is_err_and c.from_residual-in_err-map_err-3.result c.from_residual-in_err-map_err-3.ensures.1 in
    let t = caused Claims (λ f d h. search rules) c.claims.result c.in_err-map_err-3.field-0.0 c.map_err-3.ensures.cases c.in_err-map_err-3.was in
    let library = c.library_fault.ensures ∙ passed Library (λ f d h. search rules) c.library_fault.result c.map_err.ensures.cases c.in_ok-map_err.was in
    let image = sym (passed Image (λ f d h. search rules) c.read.result c.map_err-2.ensures.cases c.in_ok-map_err-2.was) ∙ c.read.ensures _ in
    rw (p.1, p.2, t.is) (claims-refused _ _ c.if-scratch-lt-SCRATCH_WORDS.false library image t.place (sym t.found ∙ c.claims.ensures))

pub returns-in_err-map_err-4 : goal.returns-in_err-map_err-4
returns-in_err-map_err-4 c =
    let p = err_from_is_err_and c.from_residual-in_err-map_err-4.result c.from_residual-in_err-map_err-4.ensures.1 in
    let t = caused Depth (λ f d h. search rules) c.depth.result c.in_err-map_err-4.field-0.0 c.map_err-4.ensures.cases c.in_err-map_err-4.was in
    let library = c.library_fault.ensures ∙ passed Library (λ f d h. search rules) c.library_fault.result c.map_err.ensures.cases c.in_ok-map_err.was in
    let image = sym (passed Image (λ f d h. search rules) c.read.result c.map_err-2.ensures.cases c.in_ok-map_err-2.was) ∙ c.read.ensures _ in
    let claims = sym (passed Claims (λ f d h. search rules) c.claims.result c.map_err-3.ensures.cases c.in_ok-map_err-3.was) ∙ c.claims.ensures in
    rw (p.1, p.2, t.is) (depth-refused _ _ c.if-scratch-lt-SCRATCH_WORDS.false library image claims t.place (sym t.found ∙ c.depth.ensures))

pub returns : goal.returns
returns c =
    let library = c.library_fault.ensures ∙ passed Library (λ f d h. search rules) c.library_fault.result c.map_err.ensures.cases c.in_ok-map_err.was in
    let image = sym (passed Image (λ f d h. search rules) c.read.result c.map_err-2.ensures.cases c.in_ok-map_err-2.was) ∙ c.read.ensures _ in
    let claims = sym (passed Claims (λ f d h. search rules) c.claims.result c.map_err-3.ensures.cases c.in_ok-map_err-3.was) ∙ c.claims.ensures in
    let depth = sym (passed Depth (λ f d h. search rules) c.depth.result c.map_err-4.ensures.cases c.in_ok-map_err-4.was) ∙ c.depth.ensures in
    ap refusal_in c.or.ensures ∙ room-last _ _ c.if-scratch-lt-SCRATCH_WORDS.false library image claims depth c.room.result c.room.ensures
