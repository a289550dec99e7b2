-- `calls::resolve` meets its contract: a call of an own function, or of a package's. Assumes nothing.
use mathlib.Core.Path.{sym, ◌∙◌}
use mathlib.Core.Bool.{true≢false}
use Rattle.calls.proofs.Returns.{is-field}
use Rattle.calls.proofs.Resolving.{own-asked, package_asked, own-resolved, package_resolved}
use Rattle.state.specs.World.{no_more}
use Rattle.calls.proofs.resolve.Goals as goal

pub target_at-requires : goal.target_at-requires
target_at-requires c = rw (c.node-node.ensures.same, c.node-node.ensures.place) c.requires.call

pub resolve_own-requires : goal.resolve_own-requires
resolve_own-requires c = rw c.node-node.ensures.place (own-asked c.requires)

pub resolve_pkg_call-requires : goal.resolve_pkg_call-requires
resolve_pkg_call-requires c = rw c.node-node.ensures.place (package_asked c.requires)

pub unreachable-requires : goal.unreachable-requires
unreachable-requires c = true≢false (sym (is-field (rw (c.node-node.ensures.same, c.node-node.ensures.place) at c.in-Field.ensures)) ∙ c.requires.other)

pub returns-in-Own : goal.returns-in-Own
returns-in-Own c =
    let same = c.node-node.ensures.same in
    let place = c.node-node.ensures.place in
    let own = rw place at c.resolve_own.ensures in
    own-resolved c.requires (rw (same, place) at c.word.ensures) c.args.poisoned (rw (same, place) at c.in-Own.ensures) (λ ls v. own ls v _ _ no_more)

pub returns-in-OfPackage : goal.returns-in-OfPackage
returns-in-OfPackage c =
    let same = c.node-node.ensures.same in
    let place = c.node-node.ensures.place in
    let of_package = rw place at c.resolve_pkg_call.ensures in
    package_resolved c.requires (rw (same, place) at c.word.ensures) c.args.poisoned (rw (same, place) at c.in-OfPackage.ensures) (λ ls v. of_package ls v _ no_more)
