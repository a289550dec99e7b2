-- `leaves::leaf` meets its contract: one law for each kind. Assumes nothing.
use native.Mathlib.Omega.{arith}
use Rattle.ast.specs.Image.{slot_count}
use Rattle.ast.specs.KindLaws.{node-number}
use Rattle.places.specs.NodesAt.{record_room}
use Rattle.visit.specs.Plain.{steps-visits}
use Rattle.leaves.specs.Leaves.{atom-word, import_long, import_ready, extern-ready, kind-extern, few-names, atom-visited, ident-visited, import_visited, extern-visited}
use Rattle.leaves.proofs.leaf.Goals as goal

pub returns-in-Atom : goal.returns-in-Atom
returns-in-Atom c =
    let same = c.node-node.ensures.same in
    let q = rw same at (node-number _ c.in-Atom.ensures) in
    let w = rw same at c.word.ensures in
    let word = atom-word c.requires c.node-node.ensures.place q w c.from.ensures c.word-w.ensures in
    λ f o. atom-visited _ _ c.requires.node c.node-node.ensures.place q (rw same at c.word-slot.ensures) w word
    (rw c.answered.ensures (steps-visits (c.set_known.ensures _ _ _) _ _ _ o))

pub ident-requires : goal.ident-requires
ident-requires c = few-names c.requires

pub returns-in-Ident : goal.returns-in-Ident
returns-in-Ident c =
    let same = c.node-node.ensures.same in
    λ f o. ident-visited _ _ c.requires.node c.node-node.ensures.place (rw same at (node-number _ c.in-Ident.ensures)) (rw same at c.word-slot.ensures)
    (rw same at c.word-first.ensures) (c.ident.ensures _ _ _ _ _ o)

pub overflow_add-node : goal.overflow_add-node
overflow_add-node c = omega (arith, record_room c.requires.node c.node-node.ensures.place)

pub overflow_sub-length : goal.overflow_sub-length
overflow_sub-length c =
    let same = c.node-node.ensures.same in
    import_long c.requires c.node-node.ensures.place (rw same at c.length.ensures) (rw same at (node-number _ c.in-Import.ensures))

pub import_node-requires : goal.import_node-requires
import_node-requires c =
    let same = c.node-node.ensures.same in
    import_ready c.requires c.node-node.ensures.place (rw same at c.length.ensures) (rw same at (node-number _ c.in-Import.ensures))

pub returns-in-Import : goal.returns-in-Import
returns-in-Import c =
    let same = c.node-node.ensures.same in
    λ f o. import_visited _ _ c.requires.node c.node-node.ensures.place (rw same at (node-number _ c.in-Import.ensures)) (rw same at c.word-slot.ensures)
    (rw same at c.word-first.ensures) (rw same at c.length.ensures) (c.import_node.ensures (slot_count c.args.sources.now.image.now.words) f c.args.types.now o)

pub overflow_add-node-in_default : goal.overflow_add-node-in_default
overflow_add-node-in_default c = omega (arith, record_room c.requires.node c.node-node.ensures.place)

pub overflow_add-node-in_default-2 : goal.overflow_add-node-in_default-2
overflow_add-node-in_default-2 c =
    let long = rw c.node-node.ensures.same at c.length-in_default.ensures in
    omega (arith, record_room c.requires.node c.node-node.ensures.place, long)

pub extern_package-requires : goal.extern_package-requires
extern_package-requires c =
    let same = c.node-node.ensures.same in
    let q = kind-extern c.requires c.node-node.ensures.place (rw same at c.kind.ensures) c.in_default.not-Atom c.in_default.not-Ident c.in_default.not-Import in
    extern-ready c.requires c.node-node.ensures.place (rw same at c.length-in_default.ensures) q (rw same at c.word-in_default-2.ensures)

pub returns-in_default : goal.returns-in_default
returns-in_default c =
    let same = c.node-node.ensures.same in
    let q = kind-extern c.requires c.node-node.ensures.place (rw same at c.kind.ensures) c.in_default.not-Atom c.in_default.not-Ident c.in_default.not-Import in
    λ f o. extern-visited _ _ c.requires.node c.node-node.ensures.place q (rw same at c.word-slot.ensures) (rw same at c.word-in_default.ensures)
    (rw same at c.word-in_default-2.ensures) (c.extern_package.ensures _ _ _ _ _ _ _ o)
