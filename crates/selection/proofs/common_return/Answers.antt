-- `selection::common_return` meets its contract: all return the first's type, or not. Assumes nothing.
use Rattle.std.proofs.Common.{rules, refl, sym, ◌∙◌}
use Rattle.std.proofs.lemmas.Iterator.Consumers.{YieldsList-from_first}
use Rattle.std.proofs.lemmas.Iterator.Search.{all_from_yields_List}
use borrow.Author.Tests.{tests}
use Rattle.ptype.specs.Ty.{same_ty}
use Rattle.ptype.specs.Types.{type_at}
use Rattle.selection.proofs.Ways.{common_known, common_poison}
use Rattle.selection.proofs.common_return.Goals as goal

pub returns-then-all : goal.returns-then-all
returns-then-all c =
    let U = type_at c.args.types.now in
    let a = all_from_yields_List (λ f. same_ty (U f.ret) (U c.return_type-ret.result)) _ _ c.all.result c.all.ensures.ran
    (YieldsList-from_first (λ f. f) (λ fs. fs) c.next.new.self refl) (λ x b q k. search (rules, tests)) in
    common_known _ _ _ _ _ (sym c.iter-others.ensures ∙ c.in-Some.ensures.steps) (rw c.return_type-ret.ensures at a) c.if-all.true
    (rw c.return_type-ret.ensures at c.set_known.ensures)

pub returns : goal.returns
returns c =
    let U = type_at c.args.types.now in
    let a = all_from_yields_List (λ f. same_ty (U f.ret) (U c.return_type-ret.result)) _ _ c.all.result c.all.ensures.ran
    (YieldsList-from_first (λ f. f) (λ fs. fs) c.next.new.self refl) (λ x b q k. search (rules, tests)) in
    common_poison _ _ _ _ _ (sym c.iter-others.ensures ∙ c.in-Some.ensures.steps) (rw c.return_type-ret.ensures at a) c.if-all.false
