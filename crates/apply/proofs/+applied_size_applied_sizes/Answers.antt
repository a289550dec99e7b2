use mathlib.Core.Path.{refl, sym}
use native.Mathlib.Omega.{arith}
use Prim.Native.Nat.{◌+◌, ◌-◌, ◌*◌}
use Rattle.ptype.specs.TypeKindLaws.{type-number, type-not, type-wraps, type-flat}
use Rattle.slots.specs.Bindings.{bound_slots}
use Rattle.apply.specs.Sizes.{size_within}
use Rattle.apply.proofs.SizeReturns.{none-adds, rest-adds, free-adds, wrap_adds, record_adds}
use Rattle.apply.proofs.FieldReturns.{sizes_all, sizes_none, sizes_first, sizes_next}
use Rattle.apply.proofs.+applied_size_applied_sizes.Goals as goal

pub applied_size-returns-then-depth-eq0 : goal.applied_size-returns-then-depth-eq0
applied_size-returns-then-depth-eq0 t c = sym (none-adds _ _ _ _ _ c.if-depth-eq0.true)

pub applied_size-returns-then-not-has_bound_slot_within : goal.applied_size-returns-then-not-has_bound_slot_within
applied_size-returns-then-not-has_bound_slot_within t c =
    sym (free-adds _ _ _ _ _ c.if-depth-eq0.false refl c.has_bound_slot_within.ensures c.if-not-has_bound_slot_within.true)

pub applied_size-applied_size-requires : goal.applied_size-applied_size-requires
applied_size-applied_size-requires t c =
    let bound = bound_slots c.args.old.now.texts.now c.args.bindings.now in
    let has = c.has_bound_slot_within.ensures in
    let is_wrap = type-wraps _ c.of.ensures c.in-Option.is in
    let adds = wrap_adds c.args.old.now.texts.now bound c.args.old.now.words.now c.args.w c.args.depth c.if-depth-eq0.false refl has c.if-not-has_bound_slot_within.false is_wrap c.inner.ensures in
    (omega (arith, c.decreases, c.if-depth-eq0.false), omega (arith, c.requires, adds))

pub applied_size-overflow_add-result : goal.applied_size-overflow_add-result
applied_size-overflow_add-result t c =
    let bound = bound_slots c.args.old.now.texts.now c.args.bindings.now in
    let has = c.has_bound_slot_within.ensures in
    let is_wrap = type-wraps _ c.of.ensures c.in-Option.is in
    let adds = wrap_adds c.args.old.now.texts.now bound c.args.old.now.words.now c.args.w c.args.depth c.if-depth-eq0.false refl has c.if-not-has_bound_slot_within.false is_wrap c.inner.ensures in
    omega (arith, c.requires, c.applied_size.ensures, adds)

pub applied_size-returns-else-not-has_bound_slot_within : goal.applied_size-returns-else-not-has_bound_slot_within
applied_size-returns-else-not-has_bound_slot_within t c =
    let bound = bound_slots c.args.old.now.texts.now c.args.bindings.now in
    let has = c.has_bound_slot_within.ensures in
    let is_wrap = type-wraps _ c.of.ensures c.in-Option.is in
    let adds = wrap_adds c.args.old.now.texts.now bound c.args.old.now.words.now c.args.w c.args.depth c.if-depth-eq0.false refl has c.if-not-has_bound_slot_within.false is_wrap c.inner.ensures in
    omega (arith, c.applied_size.ensures, adds)

pub applied_size-returns-then-not-has_bound_slot_within-2 : goal.applied_size-returns-then-not-has_bound_slot_within-2
applied_size-returns-then-not-has_bound_slot_within-2 t c =
    sym (free-adds _ _ _ _ _ c.if-depth-eq0.false refl c.has_bound_slot_within-in-Record.ensures c.if-not-has_bound_slot_within-2.true)

pub applied_size-applied_sizes-requires : goal.applied_size-applied_sizes-requires
applied_size-applied_sizes-requires t c =
    let bound = bound_slots c.args.old.now.texts.now c.args.bindings.now in
    let has = c.has_bound_slot_within-in-Record.ensures in
    let is_record = type-number _ c.in-Record.ensures in
    let with_bound = record_adds c.args.old.now.texts.now bound c.args.old.now.words.now c.args.w c.args.depth c.if-depth-eq0.false refl has c.if-not-has_bound_slot_within-2.false in
    let adds = with_bound is_record c.field_count-n.ensures c.payload.ensures in
    (omega (arith, c.decreases, c.if-depth-eq0.false), (omega (arith, c.payload.ensures, c.field_count-n.ensures), omega (arith, c.requires, adds)))

pub applied_size-overflow_add-result-in-Record-2 : goal.applied_size-overflow_add-result-in-Record-2
applied_size-overflow_add-result-in-Record-2 t c =
    let bound = bound_slots c.args.old.now.texts.now c.args.bindings.now in
    let has = c.has_bound_slot_within-in-Record.ensures in
    let is_record = type-number _ c.in-Record.ensures in
    let with_bound = record_adds c.args.old.now.texts.now bound c.args.old.now.words.now c.args.w c.args.depth c.if-depth-eq0.false refl has c.if-not-has_bound_slot_within-2.false in
    let adds = with_bound is_record c.field_count-n.ensures c.payload.ensures in
    omega (arith, c.requires, c.applied_sizes.ensures, adds)

pub applied_size-returns-else-not-has_bound_slot_within-2 : goal.applied_size-returns-else-not-has_bound_slot_within-2
applied_size-returns-else-not-has_bound_slot_within-2 t c =
    let bound = bound_slots c.args.old.now.texts.now c.args.bindings.now in
    let has = c.has_bound_slot_within-in-Record.ensures in
    let is_record = type-number _ c.in-Record.ensures in
    let with_bound = record_adds c.args.old.now.texts.now bound c.args.old.now.words.now c.args.w c.args.depth c.if-depth-eq0.false refl has c.if-not-has_bound_slot_within-2.false in
    let adds = with_bound is_record c.field_count-n.ensures c.payload.ensures in
    omega (arith, c.applied_sizes.ensures, adds)

pub applied_size-returns-in_default : goal.applied_size-returns-in_default
applied_size-returns-in_default t c =
    let at = c.of.ensures in
    let no = c.in_default in
    sym (rest-adds _ _ _ _ _ c.if-depth-eq0.false refl (type-flat _ at no.not-Option no.not-Array) (type-not _ at no.not-Record))

pub applied_sizes-loop-i-init : goal.applied_sizes-loop-i-init
applied_sizes-loop-i-init t c = sizes_all _ _ _ _ _ _ (omega arith) (omega arith)

pub applied_sizes-applied_size-sum-requires : goal.applied_sizes-applied_size-sum-requires
applied_sizes-applied_size-sum-requires t c =
    let bound = bound_slots c.args.old.now.texts.now c.args.bindings.now in
    let size = size_within c.args.old.now.texts.now bound c.args.old.now.words.now c.args.depth in
    let here = c.args.at + 2 * c.loop-i.i in
    let left = c.args.fields - c.loop-i.i in
    (omega (arith, c.decreases), omega (arith, c.requires.1, c.loop-i.invariant, sizes_first size c.args.old.now.words.now here left (λ z. omega arith) c.field_type.ensures))

pub applied_sizes-overflow_add-sum : goal.applied_sizes-overflow_add-sum
applied_sizes-overflow_add-sum t c =
    let bound = bound_slots c.args.old.now.texts.now c.args.bindings.now in
    let size = size_within c.args.old.now.texts.now bound c.args.old.now.words.now c.args.depth in
    let here = c.args.at + 2 * c.loop-i.i in
    let left = c.args.fields - c.loop-i.i in
    omega (arith, c.requires.1, c.loop-i.invariant, c.applied_size-sum.ensures, sizes_first size c.args.old.now.words.now here left (λ z. omega arith) c.field_type.ensures)

pub applied_sizes-loop-i-preserved : goal.applied_sizes-loop-i-preserved
applied_sizes-loop-i-preserved t c =
    let bound = bound_slots c.args.old.now.texts.now c.args.bindings.now in
    let size = size_within c.args.old.now.texts.now bound c.args.old.now.words.now c.args.depth in
    let here = c.args.at + 2 * c.loop-i.i in
    let left = c.args.fields - c.loop-i.i in
    let next = c.args.at + 2 * (c.loop-i.i + 1) in
    let less = c.args.fields - (c.loop-i.i + 1) in
    let rest = sizes_next size c.args.old.now.words.now here left next less (omega arith) (omega arith) (λ z. omega arith) c.field_type.ensures in
    omega (arith, c.loop-i.invariant, c.applied_size-sum.ensures, rest)

pub applied_sizes-returns : goal.applied_sizes-returns
applied_sizes-returns t c =
    let bound = bound_slots c.args.old.now.texts.now c.args.bindings.now in
    let size = size_within c.args.old.now.texts.now bound c.args.old.now.words.now c.args.depth in
    let here = c.args.at + 2 * c.loop-i.i in
    let left = c.args.fields - c.loop-i.i in
    omega (arith, c.loop-i.invariant, sizes_none size c.args.old.now.words.now here left (omega arith))
