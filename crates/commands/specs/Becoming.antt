-- What a program's four lists and registers become. Definitions.
use Rattle.std.specs.Prelude.{◌≡◌}
use Rattle.commands.specs.declared.Lists.{Lists}
use Rattle.commands.specs.Changes.{Lists as Values, lists}

-- what the lent lists hold
abbrev pub lists_of : Lists → Values
lists_of l = lists l.script.now l.image.now l.text.now l.library.now l.registers.now

-- the same lists are lent
abbrev pub SameLent : Lists → Lists → Type 0
SameLent l l' =
    (l'.script.ghost_name ≡ l.script.ghost_name) × (l'.image.ghost_name ≡ l.image.ghost_name) × (l'.text.ghost_name ≡ l.text.ghost_name)
    × (l'.library.ghost_name ≡ l.library.ghost_name) × (l'.registers.ghost_name ≡ l.registers.ghost_name)

-- the same lists are lent, and hold these values now
abbrev pub Becomes : Lists → Lists → Values → Type 0
Becomes l l' values = SameLent l l' × (values ≡ lists_of l')
