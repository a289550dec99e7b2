-- `image::type_rest` meets its contract: the row of a word of the same kind (`TypeRows`), arm by arm. Assumes nothing.
use Rattle.ast.specs.KindLaws.{expr-number}
use Rattle.ast.specs.TypeRecords.{type_kind, type_kinds}
use Rattle.image.proofs.TypeRows.{rest-by, inner-rest, no-rest}
use Rattle.image.proofs.type_rest.Goals as goal

pub returns-in-Atom : goal.returns-in-Atom
unfolding type_kind type_kinds
returns-in-Atom c = rest-by c.args.from _ _ c.args.head 0x0000_0000 _ _ (expr-number _ c.in-Atom.ensures) (c.type_atom.ensures _ _)

pub returns-in-Foreign : goal.returns-in-Foreign
unfolding type_kind type_kinds
returns-in-Foreign c = rest-by c.args.from _ _ c.args.head 0x1000_0000 _ _ (expr-number _ c.in-Foreign.ensures) (c.type_foreign.ensures _ _)

pub returns-in-Option : goal.returns-in-Option
returns-in-Option c = inner-rest c.args.from c.args.script.now _ c.args.head _ _ c.of.ensures c.in-Option.is (c.type_inner.ensures _ _)

pub returns-in-Record : goal.returns-in-Record
unfolding type_kind type_kinds
returns-in-Record c = rest-by c.args.from _ _ c.args.head 0x4000_0000 _ _ (expr-number _ c.in-Record.ensures) c.type_record.ensures

pub returns-in-None : goal.returns-in-None
returns-in-None c = no-rest c.args.from _ c.args.head _ _ (expr-number _ c.in-None.ensures)
