-- `image_nodes::rest` meets its contract: the row of the kind that the arm names (`Heads`). Assumes nothing.
use Rattle.tok.specs.Word.{kind_of}
use Rattle.ast.specs.Nodes.{node_kinds}
use Rattle.image_nodes.proofs.Heads.{rest_by}
use Rattle.image_nodes.proofs.rest.Goals as goal

pub returns-in-Atom : goal.returns-in-Atom
unfolding node_kinds
returns-in-Atom c = λ before kept. rest_by c.args.head c.args.from _ _ c.in-Atom.ensures (c.atom.ensures.0 _ before) c.atom.ensures.1

pub returns-in-Ident : goal.returns-in-Ident
unfolding node_kinds
returns-in-Ident c = λ before kept. rest_by c.args.head c.args.from _ _ c.in-Ident.ensures (c.ident.ensures.0 _ before) c.ident.ensures.1

pub returns-in-Bin : goal.returns-in-Bin
unfolding node_kinds
returns-in-Bin c = λ before kept. rest_by c.args.head c.args.from _ _ c.in-Bin.ensures (c.bin.ensures.0 _ before) c.bin.ensures.1

pub returns-in-Unary : goal.returns-in-Unary
unfolding node_kinds
returns-in-Unary c = λ before kept. rest_by c.args.head c.args.from _ _ c.in-Unary.ensures (c.unary.ensures.0 _ before) c.unary.ensures.1

pub returns-in-Let : goal.returns-in-Let
unfolding node_kinds
returns-in-Let c = λ before kept. rest_by c.args.head c.args.from _ _ c.in-Let.ensures (c.binding.ensures.0 _ before) c.binding.ensures.1

pub returns-in-Fn : goal.returns-in-Fn
unfolding node_kinds
returns-in-Fn c = λ before kept. rest_by c.args.head c.args.from _ _ c.in-Fn.ensures (c.function.ensures.0 _ before) c.function.ensures.1

pub returns-in-Match : goal.returns-in-Match
unfolding node_kinds
returns-in-Match c = λ before kept. rest_by c.args.head c.args.from _ _ c.in-Match.ensures (c.matching.ensures.0 _ before) c.matching.ensures.1

pub returns-in-Call : goal.returns-in-Call
unfolding node_kinds
returns-in-Call c = λ before kept.
    let reads = c.call.ensures (kind_of c.args.head) before kept in
    rest_by c.args.head c.args.from _ _ c.in-Call.ensures reads.0 reads.1

pub returns-in-Field : goal.returns-in-Field
unfolding node_kinds
returns-in-Field c = λ before kept. rest_by c.args.head c.args.from _ _ c.in-Field.ensures (c.field.ensures.0 _ before) c.field.ensures.1

pub returns-in-Cast : goal.returns-in-Cast
unfolding node_kinds
returns-in-Cast c = λ before kept. rest_by c.args.head c.args.from _ _ c.in-Cast.ensures (c.cast.ensures.0 _ before) c.cast.ensures.1

pub returns-in-Import : goal.returns-in-Import
unfolding node_kinds
returns-in-Import c = λ before kept. rest_by c.args.head c.args.from _ _ c.in-Import.ensures (c.imports.ensures.0 _ before) c.imports.ensures.1

pub returns-in-Extern : goal.returns-in-Extern
unfolding node_kinds
returns-in-Extern c = λ before kept. rest_by c.args.head c.args.from _ _ c.in-Extern.ensures (c.externs.ensures.0 _ before) c.externs.ensures.1

pub returns-in-Record : goal.returns-in-Record
unfolding node_kinds
returns-in-Record c = λ before kept. rest_by c.args.head c.args.from _ _ c.in-Record.ensures (c.record_node.ensures.0 _ before) c.record_node.ensures.1

pub returns-in-Array : goal.returns-in-Array
unfolding node_kinds
returns-in-Array c = λ before kept. rest_by c.args.head c.args.from _ _ c.in-Array.ensures (c.array.ensures.0 _ before) c.array.ensures.1
