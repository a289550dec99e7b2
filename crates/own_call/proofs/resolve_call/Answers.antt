-- `own_call::resolve_call` meets its contract: a function of the name, or 17. Assumes nothing.
use mathlib.Core.Path.{◌≡◌, ap}
use Rattle.state.specs.Signatures.{signature_at}
use Rattle.own_call.proofs.Returns.{not_found, found_at}
use Rattle.own_call.proofs.resolve_call.Goals as goal

pub returns-in-Some : goal.returns-in-Some
unfolding signature_at
returns-in-Some c =
    let e : c.own.inside.words.now ≡ c.args.own.now.words = ap (λ o. o.words) c.own.view_is in
    found_at c.find.ensures c.in-Some.is (rw e at c.check_plain.ensures)

pub returns-in-None : goal.returns-in-None
returns-in-None c = not_found c.find.ensures c.in-None.is c.undefined_own-reported.ensures.reports c.told.ensures
