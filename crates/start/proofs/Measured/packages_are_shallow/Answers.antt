use Rattle.std.proofs.Common.{◌≡◌, ◌+◌, ◌-◌, refl, sym, ap, ◌∙◌, arith}
use Rattle.library.specs.Package.{functions_from, packages_from}
use Rattle.add.specs.Pool.{all_shallow}
use Rattle.rules.specs.Walk.{function_types, package_types}
use Rattle.start.specs.Measured.{packages-begin, packages-over, packages-next, packages-deep}
use Rattle.start.proofs.Measured.packages_are_shallow.Goals as goal

pub loop-init : goal.loop-init
loop-init c =
    let e : c.package_count-count.result - 0 ≡ c.package_count-count.result = omega arith in
    rw e ((λ t. packages-begin t c.args.self.now c.args.words.now c.packages_place-at.ensures c.package_count-count.ensures), omega (arith, c.packages_place-at.ensures), refl)

pub returns-then-not-functions_are_shallow : goal.returns-then-not-functions_are_shallow
returns-then-not-functions_are_shallow c =
    let v = c.loop.invariant in (
      (λ t. sym (v.0 t ∙ packages-deep t c.args.self.now c.args.words.now c.loop.at (c.package_count-count.result - c.loop.counter) (omega arith) c.function_count.ensures
          (c.functions_are_shallow.ensures.0 t ∙ ap (λ l. all_shallow t l (function_types (functions_from c.args.words.now (c.loop.at + 2) c.function_count.result))) v.2)
          c.if-not-functions_are_shallow.true)),
      c.functions_are_shallow.ensures.1 ∙ v.2,
    )

pub loop-preserved : goal.loop-preserved
loop-preserved c =
    let v = c.loop.invariant in
    let e : c.package_count-count.result - c.loop.counter - 1 ≡ c.package_count-count.result - (c.loop.counter + 1) = omega arith in (
      (λ t. v.0 t ∙ packages-next t c.args.self.now c.args.words.now c.loop.at (c.package_count-count.result - c.loop.counter) (omega arith) c.function_count.ensures
          (c.functions_are_shallow.ensures.0 t ∙ ap (λ l. all_shallow t l (function_types (functions_from c.args.words.now (c.loop.at + 2) c.function_count.result))) v.2)
          c.if-not-functions_are_shallow.false c.end-at.ensures
          ∙ ap (λ n. all_shallow t c.args.self.now (package_types (packages_from c.args.words.now c.end-at.result n))) e),
      omega (arith, c.end-at.ensures),
      c.functions_are_shallow.ensures.1 ∙ v.2,
    )

pub returns : goal.returns
returns c =
    let v = c.loop.invariant in
    ((λ t. sym (v.0 t ∙ packages-over t c.args.self.now c.args.words.now c.loop.at (c.package_count-count.result - c.loop.counter) (omega arith))), v.2)
