-- `group_select::none_fits` meets its contract: 18 is told, or there is no room for it (9). Assumes nothing.
use Rattle.std.proofs.Common.{rules, sym, ◌∙◌}
use Rattle.rules.specs.Calls.{common_return}
use Rattle.state.specs.Context.{ctx}
use Rattle.state.specs.Reporting.{reports_step, on-ok, on-err}
use Rattle.group_select.proofs.none_fits.Goals as goal

pub returns-in_err-used : goal.returns-in_err-used
returns-in_err-used c = record {
  of = λ f others q library void.
      on-err (λ _. common_return (ctx c.args.types.now.texts.now library void) c.args.call.slot f others)
      (reports_step c.args.call.n (c.no_specialisation-r.ensures.reports _ (λ w r w' p. search rules))) (sym c.told.ensures ∙ c.in_err-used.was) c.from_residual.ensures.1;
}

pub returns : goal.returns
returns c =
    record {
      of = λ f others q library void.
          on-ok (λ _. common_return (ctx c.args.types.now.texts.now library void) c.args.call.slot f others)
          (reports_step c.args.call.n (c.no_specialisation-r.ensures.reports _ (λ w r w' p. search rules)))
          (sym c.told.ensures ∙ c.in_ok-used.was)
          (c.common_return.ensures.of f others q library void _ _);
    }
