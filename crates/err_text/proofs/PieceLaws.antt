-- The pieces of messages by the branches that write them. Assumes nothing.
use Prim.Native.Nat.{ℕ}
use mathlib.Core.Path.{◌≡◌, refl, sym, ap, ◌∙◌}
use mathlib.Core.List.{List, ◌++◌, map}
use lib.ListN.{get_or, get_or-map}
use Rattle.std.specs.Borrow.{Bor}
use Rattle.tok.specs.Text.{Texts, name_bytes, text}
use Rattle.display.specs.Writing.{written}
use Rattle.display.specs.WritingLaws.{written_next, written_append}
use Rattle.err.specs.declared.CallName.TheVariants.{Own, OfPackage}
use Rattle.err.specs.Message.{pkg_name, call_name}

-- ---- names
pub own_call : (t : Texts) (name : ℕ) → call_name t (Own name) ≡ name_bytes t name
unfolding call_name
own_call t name = refl

pub package_call : (t : Texts) (pkg name : ℕ) → call_name t (OfPackage pkg name) ≡ name_bytes t pkg ++ text "." ++ name_bytes t name
unfolding call_name pkg_name
package_call t pkg name = refl

pub backquote : (o : List ℕ) (n : ℕ) (s : List ℕ) → written o n (text "`" ++ s) ≡ written_next (written o n (text "`")) s
backquote o n s = written_append o n (text "`") s

pub ruleset calls = (own_call, package_call, backquote)

-- ---- wording in a list: what is behind the reference at an index
pub behind : (pieces : List (Bor (List ℕ))) (i : ℕ) (none : Bor (List ℕ)) {r : Bor (List ℕ)} → r ≡ get_or pieces i none → r.now ≡ get_or (map (λ p. p.now) pieces) i none.now
behind pieces i none e = ap (λ p. p.now) e ∙ sym (get_or-map (λ p. p.now) pieces i none)
