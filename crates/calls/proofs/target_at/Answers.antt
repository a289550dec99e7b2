-- `calls::target_at` meets its contract, by the kinds of the target and of what it is a field of. Assumes nothing.
use Rattle.ast.specs.KindLaws.{node-number, node-not}
use Rattle.calls.specs.Callees.{callee_own, callee_package, callee_field}
use Rattle.calls.proofs.target_at.Goals as goal

pub returns-in-Ident : goal.returns-in-Ident
returns-in-Ident c =
    let same = c.node-target.ensures.same in
    let kind = rw same at (node-number _ c.in-Ident.ensures) in
    rw (c.word-in-Ident.ensures, same) (callee_own c.requires c.word.ensures c.node-target.ensures.place kind)

pub returns-in-Ident-kind : goal.returns-in-Ident-kind
returns-in-Ident-kind c =
    let same = c.node-target.ensures.same in
    let no = rw same at (node-not _ c.kind.ensures c.in_default.not-Ident) in
    let kind = rw c.node-of.ensures.same at (node-number _ c.in-Ident-kind.ensures) in
    rw (c.word-in-Ident-kind.ensures, c.word-name.ensures, same, c.node-of.ensures.same)
    (callee_package c.requires c.word.ensures c.node-target.ensures.place no (rw same at c.word-in_default.ensures) c.node-of.ensures.place kind)

pub returns-in_default-kind : goal.returns-in_default-kind
returns-in_default-kind c =
    let same = c.node-target.ensures.same in
    let no = rw same at (node-not _ c.kind.ensures c.in_default.not-Ident) in
    let other = rw c.node-of.ensures.same at (node-not _ c.kind-in_default.ensures c.in_default-kind.not-Ident) in
    rw (c.word-name.ensures, same)
    (callee_field c.requires c.word.ensures c.node-target.ensures.place no (rw same at c.word-in_default.ensures) c.node-of.ensures.place other)
