-- `display::show_leaf` meets its contract: a Foreign, a Slot, and the other kinds. Assumes nothing.
use mathlib.Core.Path.{refl}
use Rattle.tok.specs.Text.{text}
use Rattle.display.proofs.Sinks.{as_text, leaves}
use Rattle.display.proofs.ShownLaws.{shown-foreign, shown-slot, shown-plain}
use Rattle.display.proofs.show_leaf.Goals as goal

pub returns-in_err-write-in-Foreign : goal.returns-in_err-write-in-Foreign
returns-in_err-write-in-Foreign g c =
    let l = g.met.S.Sink.laws in
    leaves l _ c.from_residual.ensures.1 (shown-foreign c.args.texts.now c.args.w c.of-kind.ensures c.in-Foreign.is c.opening.ensures refl) (l.stop _ (l.stop _ c.in_err-write-in-Foreign.ensures))

pub returns-in_err-write-in-Foreign-2 : goal.returns-in_err-write-in-Foreign-2
returns-in_err-write-in-Foreign-2 g c =
    let l = g.met.S.Sink.laws in
    leaves l _ c.from_residual-in_err-write-in-Foreign-2.ensures.1 (shown-foreign c.args.texts.now c.args.w c.of-kind.ensures c.in-Foreign.is c.opening.ensures c.name_bytes.ensures)
    (l.stop _ (l.more c.in_ok-write-in-Foreign.ensures c.in_err-write-in-Foreign-2.ensures))

pub returns-in_ok-write-in-Foreign-2 : goal.returns-in_ok-write-in-Foreign-2
unfolding text
returns-in_ok-write-in-Foreign-2 g c =
    let l = g.met.S.Sink.laws in
    as_text l (shown-foreign c.args.texts.now c.args.w c.of-kind.ensures c.in-Foreign.is c.opening.ensures c.name_bytes.ensures)
    (l.more (l.more c.in_ok-write-in-Foreign.ensures c.in_ok-write-in-Foreign-2.ensures) c.write-in-Foreign-2.ensures)

pub returns-in-Slot : goal.returns-in-Slot
returns-in-Slot g c = as_text g.met.S.Sink.laws (shown-slot c.args.texts.now c.args.w c.of-kind.ensures c.in-Slot.is c.name_bytes-in-Slot.ensures) c.write-in-Slot.ensures

pub returns-in_default : goal.returns-in_default
returns-in_default g c =
    as_text g.met.S.Sink.laws (shown-plain c.args.texts.now c.args.w c.of-kind.ensures c.requires c.in_default.not-Foreign c.in_default.not-Slot c.plain_name.ensures) c.write-in_default.ensures
