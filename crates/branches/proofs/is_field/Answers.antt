-- `branches::is_field` meets its contract. Assumes nothing.
use Rattle.std.proofs.Common.{refl, sym, eq-eqb, ne_eqb}
use Rattle.ast.specs.KindLaws.{node-number, node-not}
use Rattle.places.specs.Readable.{node-there, node-kind}
use Rattle.branches.proofs.is_field.Goals as goal

pub returns-in-Field : goal.returns-in-Field
returns-in-Field c =
    let kind = rw c.node.ensures.same at (node-number _ c.in-Field.ensures) in
    sym (eq-eqb _ _ (node-kind c.requires.readable c.requires.below c.node.ensures.place 8 refl refl kind))

pub returns-in_default : goal.returns-in_default
returns-in_default c =
    let there = node-there c.requires.readable c.requires.below c.node.ensures.place in
    sym (ne_eqb _ _ (λ q. node-not _ c.kind.ensures c.in_default.not-Field (rw (c.node.ensures.same, there) q)))
