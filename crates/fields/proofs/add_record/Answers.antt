-- `fields::add_record` meets its contract: one law for each return. Assumes nothing.
use Rattle.std.proofs.lemmas.Result.{err_from_is_err_and}
use Prim.Native.Nat.{◌+◌}
use Rattle.std.proofs.Math.Path.{refl}
use Rattle.fields.proofs.Returns.{record-refused, record-closed}
use Rattle.fields.proofs.add_record.Goals as goal

pub returns-in_err-word : goal.returns-in_err-word
returns-in_err-word c =
    let p = err_from_is_err_and c.from_residual.result c.from_residual.ensures.1 in
    rw (p.1, p.2) (record-refused c.args.count c.args.node.now.image.now.words c.args.slots.now (c.args.node.now.at + 3) c.in_err-word.ensures.allocates)

pub returns : goal.returns
returns c =
    record-closed c.args.count c.args.node.now.image.now.words c.args.slots.now (c.args.node.now.at + 3) c.in_ok-word.ensures.allocates c.payload-to.ensures refl refl c.set_pairs.ensures
    c.close_record.ensures
