-- Finding by name in two runs: locals, functions, packages, groups and fields. By induction on the lists. Assumes nothing.
use Rattle.std.specs.Prelude.{ℕ, ◌≡◌}
use Rattle.std.proofs.Math.Option.{Option, none, some}
use mathlib.Core.List.{List}
use Rattle.std.proofs.lemmas.Bool.{eqb-false}
use Rattle.tok.specs.Text.{Texts, name_bytes, same_bytes}
use Rattle.ptype.specs.Ty.{Fields, no_field, field}
use Rattle.ptype.specs.Add.{Buffer}
use Rattle.ptype.proofs.UnfoldLaws.{one_less}
use Rattle.library.specs.Package.{Function, Package, find_package, find_function, group_of}
use Rattle.rules.specs.World.{Local}
use Rattle.rules.specs.Steps.{env_get}
use Rattle.rules.specs.Rules.{find_field}
use Rattle.tworuns.specs.Means.{FieldsMean, no_more}
use Rattle.tworuns.specs.Runs.{Runs, Each, end, and, Front, ends, longer, before, Both?, neither, present, SameType, SameName, SameLocal, SameSignature, SameFunction, SamePackage, Used}
use Rattle.tworuns.specs.Inner.{FieldsAre, open_field, is-type}
use Rattle.tworuns.specs.Bind.{pick}

matches : (r : Runs) {name name' : List ℕ} → name ≡ name' → {w w' : ℕ} → SameName r w w' → same_bytes name (name_bytes r.first.texts w) ≡ same_bytes name' (name_bytes r.second.texts w')
matches r e n = cc (e, n.bytes)

module _ (r : Runs) {b b' : Buffer} {name name' : List ℕ} (e : name ≡ name') where
  pub local_same : {ls ls' : List Local} → Each (SameLocal r b b') ls ls' → Both? (Both? (SameType r b b')) (env_get r.first.texts name ls) (env_get r.second.texts name' ls')
  unfolding env_get
  local_same end = neither
  local_same (and h rest) = pick (Both? (Both? (SameType r b b'))) _ _ _ _ (matches r e h.name) (λ _. present h.type) (λ _. local_same rest)

  pub function-same : {fs fs' : List Function} → Each (SameFunction r b b') fs fs' → Both? (SameSignature r b b') (find_function r.first.texts name fs) (find_function r.second.texts name' fs')
  unfolding find_function
  function-same end = neither
  function-same (and h rest) = pick (Both? (SameSignature r b b')) _ _ _ _ (matches r e h.name) (λ _. present h.sig) (λ _. function-same rest)

  pub package_same : {ps ps' : List Package} → Each (SamePackage r b b') ps ps' → Both? (SamePackage r b b') (find_package r.first.texts name ps) (find_package r.second.texts name' ps')
  unfolding find_package
  package_same end = neither
  package_same (and h rest) = pick (Both? (SamePackage r b b')) _ _ _ _ (matches r e h.name) (λ _. present h) (λ _. package_same rest)

  pub group-same : {fs fs' : List Function} → Each (SameFunction r b b') fs fs' → Each (SameSignature r b b') (group_of r.first.texts name fs) (group_of r.second.texts name' fs')
  unfolding group_of
  group-same end = end
  group-same (and h rest) = pick (Each (SameSignature r b b')) _ _ _ _ (matches r e h.name) (λ _. and h.sig (group-same rest)) (λ _. group-same rest)

  -- the first field of a name, of k from index `at` on
  pub field-same : Used r b b' → (fs : Fields) {at k at' k' : ℕ} → FieldsAre r b b' at k at' k' fs
      → Both? (SameType r b b') (find_field r.first.texts b.words name at k) (find_field r.second.texts b'.words name' at' k')
  unfolding find_field
  field-same u no_field h = by h.left h.right
    where
      by : {t t' : Texts} {ts ts' : List ℕ} {z z' at at' k k' : ℕ} → FieldsMean t ts z at k no_field → FieldsMean t' ts' z' at' k' no_field
          → Both? (SameType r b b') (find_field r.first.texts b.words name at k) (find_field r.second.texts b'.words name' at' k')
      by no_more no_more = neither
  field-same u (field n x fs) {at} {k} {at'} {k'} h =
      let f = open_field u h in
      rw (one_less (eqb-false k 0 f.some), one_less (eqb-false k' 0 f.some'))
      (pick (Both? (SameType r b b')) _ _ _ _ (matches r e f.name) (λ _. present (is-type f.type)) (λ _. field-same u fs f.rest))

-- A package of two libraries, of which the second may be longer: neither has it, both have it, or only the second may.
pub data InLibraries (r : Runs) (b b' : Buffer) : Option Package → Option Package → Type 0 where
  in_both : {o o' : Option Package} → Both? (SamePackage r b b') o o' → InLibraries r b b' o o'
  in_longer : {o : Option Package} → (r.strict → ⊥) → InLibraries r b b' none o

pub library-same : (r : Runs) {b b' : Buffer} {name name' : List ℕ} → name ≡ name' → {ps ps' : List Package} → Front r.strict (SamePackage r b b') ps ps'
    → InLibraries r b b' (find_package r.first.texts name ps) (find_package r.second.texts name' ps')
unfolding find_package
library-same r e ends = in_both neither
library-same r e (longer n) = in_longer n
library-same r {b} {b'} e (before h rest) = pick (InLibraries r b b') _ _ _ _ (matches r e h.name) (λ _. in_both (present h)) (λ _. library-same r e rest)
