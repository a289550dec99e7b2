-- `contains` meets its contract: each return is a law of `StandsReturns`, over what the calls gave. Assumes nothing.
use mathlib.Core.Path.{◌∙◌}
use Rattle.ptype.specs.TypeKindLaws.{type-number, type-not, type-wraps, type-flat}
use Rattle.ptype.proofs.StandsReturns.{found-below, found-wrap, found_record, found_leaf}
use Rattle.ptype.proofs.+contains.Goals as goal

pub returns-then-depth-eq0 : goal.returns-then-depth-eq0
returns-then-depth-eq0 g t c = c.is.ensures ∙ found-below _ _ c.args.w c.if-depth-eq0.true

pub returns-in-Option : goal.returns-in-Option
returns-in-Option g t c = found-wrap _ _ c.args.w c.if-depth-eq0.false (type-wraps _ c.of.ensures c.in-Option.is) c.inner.ensures c.contains.ensures

pub returns-in-Record : goal.returns-in-Record
returns-in-Record g t c = found_record _ _ c.args.w c.if-depth-eq0.false (type-number _ c.in-Record.ensures) c.record_contains.ensures

pub returns-in_default : goal.returns-in_default
returns-in_default g t c =
    let flat = type-flat _ c.of.ensures c.in_default.not-Option c.in_default.not-Array in
    let no_record = type-not _ c.of.ensures c.in_default.not-Record in
    c.is-in_default.ensures ∙ found_leaf _ _ c.args.w c.if-depth-eq0.false flat no_record
