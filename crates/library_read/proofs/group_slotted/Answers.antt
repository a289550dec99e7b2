-- `library_read::group_slotted` meets its contract: by the flag of each function of the group. Assumes nothing.
use Rattle.std.proofs.Common.{Bool, rules, sym, ap, ◌∙◌}
use Rattle.std.specs.List.{list_any}
use Rattle.std.proofs.lemmas.Iterator.Consumers.{YieldsList-from_first}
use Rattle.std.proofs.lemmas.Iterator.Search.{any_from_yields_List}
use Rattle.library.specs.Package.{Signature, group_of}
use Rattle.library.specs.Entries.{functions_in}
use Rattle.library_read.proofs.GroupWays.{slots_in_lem}
use Rattle.library_read.proofs.group_slotted.Goals as goal

pub returns : goal.returns
returns c =
    let slotted : Signature → Bool = λ s. s.with_slots in
    let fs = functions_in c.args.functions.now in
    let any = any_from_yields_List slotted _ _ c.any.result c.any.ensures.ran (YieldsList-from_first (λ s. s) (λ ss. ss) _ c.new.ensures) (λ x b q k. search rules) in
    any ∙ ap (λ n. list_any slotted (group_of c.args.texts.now n fs)) c.name_bytes-name.ensures ∙ sym (slots_in_lem c.args.texts.now c.args.group fs)
