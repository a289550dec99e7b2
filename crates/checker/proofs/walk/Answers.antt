-- `checker::walk` meets its contract: a refusal of its beginning, or the roots. Assumes nothing.
use Rattle.std.specs.Prelude.{refl}
use Rattle.std.proofs.Common.{ap}
use Rattle.std.proofs.lemmas.Result.{err_from_is_err_and}
use Rattle.checker.proofs.Walks.{walk-refused, roots-ready, walk-roots}
use Rattle.checker.proofs.walk.Goals as goal

pub returns-in_err-st : goal.returns-in_err-st
returns-in_err-st c =
    let i = ap (λ i. i.image) c.inputs.view_is in
    let l = ap (λ i. i.library) c.inputs.view_is in
    let p = err_from_is_err_and c.from_residual.result c.from_residual.ensures.1 in
    rw (p.1, p.2)
    (walk-refused c.args.inputs.now.script c.args.inputs.now.image c.args.inputs.now.library_text c.args.inputs.now.library
    c.args.slots.now c.args.functions.now c.args.types.now c.args.diagnostics.now c.args.messages.now c.args.scratch.now
    (rw (i, l) at c.in_err-st.ensures))

pub visit_roots-requires : goal.visit_roots-requires
visit_roots-requires c =
    let i = ap (λ i. i.image) c.inputs.view_is in
    let l = ap (λ i. i.library) c.inputs.view_is in
    roots-ready c.args.inputs.now.script c.args.inputs.now.image c.args.inputs.now.library_text c.args.inputs.now.library
    c.args.slots.now c.args.functions.now c.args.types.now c.args.diagnostics.now c.args.messages.now c.args.scratch.now
    (rw (i, l) at c.in_ok-st.ensures) c.requires refl refl refl

pub returns : goal.returns
returns c =
    let i = ap (λ i. i.image) c.inputs.view_is in
    let l = ap (λ i. i.library) c.inputs.view_is in
    walk-roots c.args.inputs.now.script c.args.inputs.now.image c.args.inputs.now.library_text c.args.inputs.now.library
    c.args.slots.now c.args.functions.now c.args.types.now c.args.diagnostics.now c.args.messages.now c.args.scratch.now
    (rw (i, l) at c.in_ok-st.ensures) c.requires refl c.visit_roots.ensures
