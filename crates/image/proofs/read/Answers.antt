-- `image::read` meets its contract: the fault of the whole is where its reading comes to. Assumes nothing.
use mathlib.Core.Path.{sym}
use Rattle.std.specs.Prelude.{Ok, Err}
use Rattle.std.proofs.lemmas.Result.{err_from_is_err_and}
use Rattle.tok.specs.Text.{texts_of}
use Rattle.image.proofs.Limits.{long_fault, read_fault}
use Rattle.image.proofs.read.Goals as goal

pub returns-in_err-from : goal.returns-in_err-from
returns-in_err-from c = λ library.
    let p = err_from_is_err_and c.from_residual.result c.from_residual.ensures.1 in
    rw (p.1, p.2) (long_fault (texts_of c.args.script.now library) c.args.words.now c.in_err-from.field-0.0 (sym c.in_err-from.ensures))

pub returns-in_err-whole : goal.returns-in_err-whole
returns-in_err-whole c = λ library.
    let p = err_from_is_err_and c.from_residual-in_err-whole.result c.from_residual-in_err-whole.ensures.1 in
    rw (p.1, p.2) (read_fault (texts_of c.args.script.now library) c.args.words.now c.in_ok-from.from (Err c.in_err-whole.field-0.0) (sym c.in_ok-from.ensures) (c.in_err-whole.ensures library))

pub returns : goal.returns
returns c = λ library. read_fault (texts_of c.args.script.now library) c.args.words.now c.in_ok-from.from (Ok _) (sym c.in_ok-from.ensures) (c.in_ok-whole.ensures library)
