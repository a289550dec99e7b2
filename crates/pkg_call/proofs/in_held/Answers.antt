-- `pkg_call::in_held` meets its contract: a package of the library, of an Extern, or none (15). Assumes nothing.
use Rattle.std.proofs.Common.{ap, ◌∙◌, Some}
use Rattle.pkg_call.proofs.Ready.{held-near, library-ready}
use Rattle.pkg_call.proofs.Returns.{no_package, library-held, extern-held}
use Rattle.pkg_call.proofs.in_held.Goals as goal

pub find_held-requires : goal.find_held-requires
find_held-requires c = held-near c.requires

pub in_library-requires : goal.in_library-requires
in_library-requires c =
    library-ready c.requires _ _ c.find_held.ensures (c.in-Some-Library.is ∙ ap Some c.in-Some-Library.field-0-is)

pub returns-in-Some-Library : goal.returns-in-Some-Library
returns-in-Some-Library c = library-held _ c.find_held.ensures (c.in-Some-Library.is ∙ ap Some c.in-Some-Library.field-0-is) c.in_library.ensures

pub returns-in-Some-Extern : goal.returns-in-Some-Extern
returns-in-Some-Extern c = extern-held _ c.find_held.ensures (c.in-Some-Extern.is ∙ ap Some c.in-Some-Extern.field-0-is) c.in_extern.ensures

pub returns-in-None : goal.returns-in-None
returns-in-None c = no_package _ c.find_held.ensures c.in-None.is c.missing_package-r.ensures.reports c.told.ensures
