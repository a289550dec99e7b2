use mathlib.Core.Path.{refl, sym, ◌∙◌}
use Rattle.ptype.specs.TypeKindLaws.{type-number, type-not, type-wraps, type-flat, type-named, type-nameless}
use native.Mathlib.Omega.{arith}
use Rattle.ptype.proofs.SameReturns.{same_none, same_word, differ-kind, same-wrap, same-named, same-plain, same_record, differ-count, same-all, same_end, differ-name, differ-type, same_rest}
use Rattle.ptype.proofs.+same_fields_same_type_within.Goals.{same_type_within-then-depth-eq0-via-then-depth-eq0, same_type_within-then-depth-eq0-via-else-depth-eq0+then-a-b}
use Rattle.ptype.proofs.+same_fields_same_type_within.Goals as goal

pub same_fields-returns-then-n-field_count : goal.same_fields-returns-then-n-field_count
same_fields-returns-then-n-field_count t c = differ-count _ _ _ _ _ c.field_count-n.ensures c.field_count.ensures c.if-n-field_count.true

pub same_fields-loop-k-init : goal.same_fields-loop-k-init
same_fields-loop-k-init t c = same-all _ _ _ _ _ c.field_count-n.ensures c.field_count.ensures c.if-n-field_count.false (omega arith) (omega arith) (omega arith)

pub same_fields-returns-then-not-same_name : goal.same_fields-returns-then-not-same_name
same_fields-returns-then-not-same_name t c =
    differ-name _ _ _ _ _ c.loop-k.invariant (omega arith) c.word_at-x.ensures c.word_at-y.ensures c.same_name.ensures c.if-not-same_name.true

pub same_fields-returns-then-not-same_type_within : goal.same_fields-returns-then-not-same_type_within
same_fields-returns-then-not-same_type_within t c =
    differ-type _ _ _ _ _ c.loop-k.invariant (omega arith) c.word_at-x.ensures c.word_at-y.ensures c.same_name.ensures c.if-not-same_name.false
    c.field_type-x.ensures c.field_type-y.ensures c.same_type_within.ensures c.if-not-same_type_within.true

pub same_fields-loop-k-preserved : goal.same_fields-loop-k-preserved
same_fields-loop-k-preserved t c =
    same_rest _ _ _ _ _ c.loop-k.invariant (omega arith) c.word_at-x.ensures c.word_at-y.ensures c.same_name.ensures c.if-not-same_name.false
    c.field_type-x.ensures c.field_type-y.ensures c.same_type_within.ensures (omega arith) (omega arith) (omega arith) c.if-not-same_type_within.false

pub same_fields-returns : goal.same_fields-returns
same_fields-returns t c = same_end _ _ _ _ _ c.loop-k.invariant (omega arith)

pub same_type_within-returns-then-depth-eq0 : goal.same_type_within-returns-then-depth-eq0
same_type_within-returns-then-depth-eq0 t c = elim c.then-depth-eq0.branch [
  | same_type_within-then-depth-eq0-via-then-depth-eq0 w ↦ same_none _ _ _ _ w.if-depth-eq0.true
  | same_type_within-then-depth-eq0-via-else-depth-eq0+then-a-b w ↦ same_word _ _ _ _ _ w.if-a-b.true
]

pub same_type_within-returns-then-kind : goal.same_type_within-returns-then-kind
same_type_within-returns-then-kind t c = differ-kind _ _ _ _ c.if-depth-eq0.false c.kind.ensures c.kind-2.ensures c.if-kind.true

pub same_type_within-returns-in-Option : goal.same_type_within-returns-in-Option
same_type_within-returns-in-Option t c =
    same-wrap _ _ _ _ c.if-depth-eq0.false refl c.kind-2.ensures (sym c.kind.ensures ∙ c.if-kind.false) (type-wraps _ c.of.ensures c.in-Option.is)
    c.inner.ensures c.inner-in-Option.ensures c.same_type_within.ensures

pub same_type_within-returns-in-Record : goal.same_type_within-returns-in-Record
same_type_within-returns-in-Record t c =
    same_record _ _ _ _ c.if-depth-eq0.false refl c.kind-2.ensures (sym c.kind.ensures ∙ c.if-kind.false) (type-number _ c.in-Record.ensures) c.same_fields.ensures

pub same_type_within-returns-in-Foreign : goal.same_type_within-returns-in-Foreign
same_type_within-returns-in-Foreign t c =
    same-named _ _ _ _ c.if-depth-eq0.false refl c.kind-2.ensures (sym c.kind.ensures ∙ c.if-kind.false) (type-named _ c.of.ensures c.in-Foreign.is) c.same_name.ensures

pub same_type_within-returns-in_default : goal.same_type_within-returns-in_default
same_type_within-returns-in_default t c =
    same-plain _ _ _ _ c.if-depth-eq0.false refl c.kind-2.ensures (sym c.kind.ensures ∙ c.if-kind.false) (record {
      no_wrap = type-flat _ c.of.ensures c.in_default.not-Option c.in_default.not-Array;
      no_record = type-not _ c.of.ensures c.in_default.not-Record;
      no_name = type-nameless _ c.of.ensures c.in_default.not-Foreign c.in_default.not-Slot;
    })
