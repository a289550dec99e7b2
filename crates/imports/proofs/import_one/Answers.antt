-- `imports::import_one` meets its contract: one law for each return. Assumes nothing.
use Rattle.std.proofs.Common.{sym, ◌∙◌, arith}
use Rattle.imports.specs.Holding.{held-near}
use Rattle.imports.proofs.Returns.{place-low, import_held, import_found_lem, import_none}
use Rattle.imports.proofs.import_one.Goals as goal

pub find_held-held-requires : goal.find_held-held-requires
find_held-held-requires c = held-near c.requires.free

pub returns-then-is_some : goal.returns-then-is_some
returns-then-is_some c = import_held _ _ c.args.n c.args.path c.requires c.find_held-held.result c.find_held-held.ensures (sym c.is_some.ensures ∙ c.if-is_some.true) _ _

pub returns-in_default : goal.returns-in_default
returns-in_default c =
    let told = c.no_import-none.ensures.reports in
    let held = c.find_held-held in
    let found = c.find_package in
    import_none _ _ c.args.n c.args.path c.requires held.result held.ensures (sym c.is_some.ensures ∙ c.if-is_some.false) c.name_bytes-name.ensures found.result found.ensures
    c.in_default.is told c.told.ensures c.answered.ensures

pub overflow_cast-at : goal.overflow_cast-at
overflow_cast-at c =
    let held = c.find_held-held in
    let found = c.find_package in
    let low = place-low _ _ c.args.n c.args.path c.requires held.result held.ensures (sym c.is_some.ensures ∙ c.if-is_some.false) c.name_bytes-name.ensures found.result found.ensures c.in-Some.is in
    omega (arith, low)

pub returns : goal.returns
returns c =
    let held = c.find_held-held in
    let found = c.find_package in
    import_found_lem _ _ c.args.n c.args.path c.requires held.result held.ensures (sym c.is_some.ensures ∙ c.if-is_some.false) c.name_bytes-name.ensures found.result found.ensures
    c.in-Some.is c.store.ensures c.one_held.ensures _ _
