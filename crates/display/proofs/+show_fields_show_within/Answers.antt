use mathlib.Core.Path.{refl, sym, ◌∙◌}
use native.Mathlib.Omega.{arith}
use Rattle.tok.specs.Text.{text}
use Rattle.ptype.specs.Types.{type_within}
use Rattle.display.proofs.Sinks.{as_text, leaves, owes-all, owes-less}
use Rattle.display.proofs.ShownLaws.{is_leaf, shown-none, shown-wrap, shown_record, shown-leaf, fields-end, fields-turn, turn-behind}
use Rattle.display.proofs.+show_fields_show_within.Goals as goal

pub show_fields-loop-left-init : goal.show_fields-loop-left-init
show_fields-loop-left-init g t c = owes-all g.met.S.Sink.laws refl

pub show_fields-returns-in_err-write : goal.show_fields-returns-in_err-write
show_fields-returns-in_err-write g t c =
    let l = g.met.S.Sink.laws in
    c.loop-left.invariant.ends (leaves l _ c.from_residual.ensures.1
    (fields-turn (type_within c.args.types.now c.args.depth) c.args.types.now.texts.now c.args.words.now c.loop-left.at (omega arith) c.field_name.ensures refl)
    (l.stop _ (l.stop _ (l.stop _ (l.stop _ c.in_err-write.ensures)))))

pub show_fields-returns-in_err-write-2 : goal.show_fields-returns-in_err-write-2
unfolding text
show_fields-returns-in_err-write-2 g t c =
    let l = g.met.S.Sink.laws in
    c.loop-left.invariant.ends (leaves l _ c.from_residual-in_err-write-2.ensures.1
    (fields-turn (type_within c.args.types.now c.args.depth) c.args.types.now.texts.now c.args.words.now c.loop-left.at (omega arith) c.field_name.ensures refl)
    (l.stop _ (l.stop _ (l.stop _ (l.more c.in_ok-write.ensures c.in_err-write-2.ensures)))))

pub show_fields-returns-in_err-show_within : goal.show_fields-returns-in_err-show_within
unfolding text
show_fields-returns-in_err-show_within g t c =
    let l = g.met.S.Sink.laws in
    c.loop-left.invariant.ends (leaves l _ c.from_residual-in_err-show_within.ensures.1
    (fields-turn (type_within c.args.types.now c.args.depth) c.args.types.now.texts.now c.args.words.now c.loop-left.at (omega arith) c.field_name.ensures c.field_type.ensures)
    (l.stop _ (l.stop _ (l.more (l.more c.in_ok-write.ensures c.in_ok-write-2.ensures) c.in_err-show_within.ensures))))

pub show_fields-returns-in_err-put_separator : goal.show_fields-returns-in_err-put_separator
unfolding text
show_fields-returns-in_err-put_separator g t c =
    let l = g.met.S.Sink.laws in
    c.loop-left.invariant.ends (leaves l _ c.from_residual-in_err-put_separator.ensures.1
    (fields-turn (type_within c.args.types.now c.args.depth) c.args.types.now.texts.now c.args.words.now c.loop-left.at (omega arith) c.field_name.ensures c.field_type.ensures)
    (l.stop _ (l.more (l.more (l.more c.in_ok-write.ensures c.in_ok-write-2.ensures) c.in_ok-show_within.ensures) c.in_err-put_separator.ensures)))

pub show_fields-loop-left-preserved : goal.show_fields-loop-left-preserved
unfolding text
show_fields-loop-left-preserved g t c =
    let l = g.met.S.Sink.laws in
    owes-less l c.loop-left.invariant
    (turn-behind (type_within c.args.types.now c.args.depth) c.args.types.now.texts.now c.args.words.now c.loop-left.at (omega arith) c.field_name.ensures c.field_type.ensures c.behind-at.ensures)
    (l.more (l.more (l.more c.in_ok-write.ensures c.in_ok-write-2.ensures) c.in_ok-show_within.ensures) c.in_ok-put_separator.ensures)

pub show_fields-returns : goal.show_fields-returns
show_fields-returns g t c =
    c.loop-left.invariant.ends (as_text g.met.S.Sink.laws
    (fields-end (type_within c.args.types.now c.args.depth) c.args.types.now.texts.now c.args.words.now c.loop-left.at (omega arith))
    c.write-2.ensures)

pub show_within-returns-then-depth-eq0 : goal.show_within-returns-then-depth-eq0
show_within-returns-then-depth-eq0 g t c =
    as_text g.met.S.Sink.laws
    (shown-none c.args.types.now.texts.now c.args.types.now.words.now c.args.w c.if-depth-eq0.true ∙ sym c.plain_name.ensures)
    c.write.ensures

pub show_within-returns-in_err-write-in-Option : goal.show_within-returns-in_err-write-in-Option
show_within-returns-in_err-write-in-Option g t c =
    let l = g.met.S.Sink.laws in
    leaves l _ c.from_residual.ensures.1
    (shown-wrap c.args.types.now.texts.now c.args.types.now.words.now c.args.w c.if-depth-eq0.false c.of-kind.ensures c.opening.ensures c.in-Option.is refl)
    (l.stop _ (l.stop _ c.in_err-write-in-Option.ensures))

pub show_within-returns-in_err-show_within-in-Option : goal.show_within-returns-in_err-show_within-in-Option
show_within-returns-in_err-show_within-in-Option g t c =
    let l = g.met.S.Sink.laws in
    leaves l _ c.from_residual-in_err-show_within-in-Option.ensures.1
    (shown-wrap c.args.types.now.texts.now c.args.types.now.words.now c.args.w c.if-depth-eq0.false c.of-kind.ensures c.opening.ensures c.in-Option.is c.inner.ensures)
    (l.stop _ (l.more c.in_ok-write-in-Option.ensures c.in_err-show_within-in-Option.ensures))

pub show_within-returns-in_ok-show_within-in-Option : goal.show_within-returns-in_ok-show_within-in-Option
unfolding text
show_within-returns-in_ok-show_within-in-Option g t c =
    let l = g.met.S.Sink.laws in
    as_text l
    (shown-wrap c.args.types.now.texts.now c.args.types.now.words.now c.args.w c.if-depth-eq0.false c.of-kind.ensures c.opening.ensures c.in-Option.is c.inner.ensures)
    (l.more (l.more c.in_ok-write-in-Option.ensures c.in_ok-show_within-in-Option.ensures) c.write-in-Option-2.ensures)

pub show_within-returns-in_err-write-in-Record : goal.show_within-returns-in_err-write-in-Record
show_within-returns-in_err-write-in-Record g t c =
    let l = g.met.S.Sink.laws in
    leaves l _ c.from_residual-in_err-write-in-Record.ensures.1
    (shown_record c.args.types.now.texts.now c.args.types.now.words.now c.args.w c.if-depth-eq0.false c.of-kind.ensures c.opening-in-Record.ensures c.in-Record.is refl refl)
    (l.stop _ (l.stop _ c.in_err-write-in-Record.ensures))

pub show_within-returns-in_err-show_fields-in-Record : goal.show_within-returns-in_err-show_fields-in-Record
show_within-returns-in_err-show_fields-in-Record g t c =
    let l = g.met.S.Sink.laws in
    leaves l _ c.from_residual-in_err-show_fields-in-Record.ensures.1
    (shown_record c.args.types.now.texts.now c.args.types.now.words.now c.args.w c.if-depth-eq0.false c.of-kind.ensures c.opening-in-Record.ensures c.in-Record.is c.payload-i.ensures c.field_count-n.ensures)
    (l.stop _ (l.more c.in_ok-write-in-Record.ensures c.in_err-show_fields-in-Record.ensures))

pub show_within-returns-in_ok-show_fields-in-Record : goal.show_within-returns-in_ok-show_fields-in-Record
unfolding text
show_within-returns-in_ok-show_fields-in-Record g t c =
    let l = g.met.S.Sink.laws in
    as_text l
    (shown_record c.args.types.now.texts.now c.args.types.now.words.now c.args.w c.if-depth-eq0.false c.of-kind.ensures c.opening-in-Record.ensures c.in-Record.is c.payload-i.ensures c.field_count-n.ensures)
    (l.more (l.more c.in_ok-write-in-Record.ensures c.in_ok-show_fields-in-Record.ensures) c.write-in-Record-2.ensures)

pub show_within-show_leaf-requires : goal.show_within-show_leaf-requires
show_within-show_leaf-requires g t c = is_leaf c.args.w c.of-kind.ensures c.in_default.not-Option c.in_default.not-Array c.in_default.not-Record

pub show_within-returns-in_default : goal.show_within-returns-in_default
show_within-returns-in_default g t c =
    let l = is_leaf c.args.w c.of-kind.ensures c.in_default.not-Option c.in_default.not-Array c.in_default.not-Record in
    as_text g.met.S.Sink.laws (shown-leaf c.args.types.now.texts.now c.args.types.now.words.now c.args.w c.if-depth-eq0.false l) c.show_leaf.ensures
