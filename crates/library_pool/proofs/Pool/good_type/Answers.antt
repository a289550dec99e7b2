-- `library_pool::Pool::good_type` meets its contract: one law for each group of kinds. Assumes nothing.
use Rattle.std.proofs.Common.{ap}
use Rattle.std.specs.Prelude.{eqb}
use Rattle.ptype.specs.TypeKindLaws.{type-number}
use Rattle.library_pool.proofs.GoodTypes.{plain-type, wrapped-type, record_type, named-type, no-type}
use Rattle.library_pool.proofs.Pool.good_type.Goals as goal

pub returns-in-Void : goal.returns-in-Void
returns-in-Void c = λ script size. plain-type _ _ _ c.of.ensures c.in-Void.is (ap (λ q. eqb q 0) c.payload.ensures)

pub returns-in-Option : goal.returns-in-Option
returns-in-Option c = λ script size. wrapped-type _ _ _ c.of.ensures c.in-Option.is c.good_inner.ensures

pub returns-in-Record : goal.returns-in-Record
returns-in-Record c = λ script size. record_type _ _ _ (type-number _ c.in-Record.ensures) c.good_list.ensures

pub returns-in-Foreign : goal.returns-in-Foreign
returns-in-Foreign c = λ script size. named-type _ _ _ c.of.ensures c.in-Foreign.is (rw c.bit.ensures at c.good_payload.ensures)

pub returns-in_default : goal.returns-in_default
returns-in_default c = λ script size.
    let n = c.in_default in
    no-type _ _ _ c.of.ensures n.not-Void n.not-Bool n.not-Int n.not-Double n.not-Str n.not-Option n.not-Array n.not-Record n.not-Foreign n.not-Slot
