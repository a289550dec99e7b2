-- `places::levels_inside` meets its contract: by the kind of the record. Assumes nothing.
use mathlib.Core.Path.{refl}
use Rattle.ast.specs.KindLaws.{expr-number, expr-not}
use Rattle.places.proofs.Levelling.{inside-inner, inside_record, inside-none}
use Rattle.places.proofs.levels_inside.Goals as goal

pub returns-in-Option : goal.returns-in-Option
returns-in-Option c =
    let a = c.args in
    inside-inner a.image.now a.places.now a.at c.word_at-head.ensures refl c.of.ensures c.in-Option.is c.word_at.ensures c.levels.ensures

pub returns-in-Record : goal.returns-in-Record
returns-in-Record c =
    let a = c.args in
    inside_record a.image.now a.places.now a.at c.word_at-head.ensures refl (expr-number _ c.in-Record.ensures) c.fields_in.ensures.0 c.most_levels.ensures

pub returns-in_default : goal.returns-in_default
returns-in_default c =
    let a = c.args in
    inside-none a.image.now a.places.now a.at c.word_at-head.ensures refl
    (expr-not _ c.of.ensures c.in_default.not-Option) (expr-not _ c.of.ensures c.in_default.not-Array) (expr-not _ c.of.ensures c.in_default.not-Record)
