-- What is found by name: a local, a function, a package, a group, a field. Of each the same is claimed as of the list. Assumes nothing.
use Prim.Native.Nat.{ℕ, zero, suc, ◌+◌, ◌-◌}
use native.Mathlib.Omega.{arith}
use Rattle.std.specs.Prelude.{◌≡◌, Bool, true, false, List, get_or}
use Rattle.std.proofs.Math.Option.{Option, none, some}
use Rattle.std.proofs.Math.Dec.{eqb-suc-zero}
use Rattle.tok.specs.Text.{name_bytes, same_bytes}
use Rattle.ptype.specs.Add.{Buffer}
use Rattle.library.specs.Package.{Signature, Function, Package, find_package, find_function, group_of}
use Rattle.rules.specs.World.{Local}
use Rattle.rules.specs.Steps.{env_get}
use Rattle.rules.specs.Rules.{find_field}
use Rattle.onerun.specs.Claim.{Run, All, end, and, Typed, Bound, LocalOk, SignatureOk, FunctionOk, PackageOk}
use Rattle.onerun.specs.Inner.{FieldsTyped, first-typed}
use Rattle.onerun.specs.Bind.{pick}

no-some : {A B : Type 0} {a : A} → ◌≡◌ {A = Option A} none (some a) → B
no-some e = let z : ◌≡◌ {A = ℕ} 0 1 = cc in absurd (omega arith)

-- the first of a name, or one of the rest
first_or : {B : Type 0} (P : B → Type 0) (x : B) (rest : Option B) {y : B} (t : Bool) → elim t [ true ↦ some x | false ↦ rest ] ≡ some y → P x → (rest ≡ some y → P y) → P y
first_or P x rest {y} true e h k = let q : x ≡ y = cc in rw (← q) h
first_or P x rest false e h k = k e

module _ (r : Run) {b : Buffer} (name : List ℕ) where
  pub local_found : {ls : List Local} {o : Option ℕ} → All (LocalOk r b) ls → env_get r.ctx.texts name ls ≡ some o → Bound r b o
  unfolding env_get
  local_found end e = no-some e
  local_found (and {a = l} {xs = ls} h rest) e =
      first_or (Bound r b) l.type (env_get r.ctx.texts name ls) (same_bytes name (name_bytes r.ctx.texts l.name)) e h.type (λ q. local_found rest q)

  pub function-found : {fs : List Function} {f : Signature} → All (FunctionOk r b) fs → find_function r.ctx.texts name fs ≡ some f → SignatureOk r b f
  unfolding find_function
  function-found end e = no-some e
  function-found (and {a = g} {xs = fs} h rest) e =
      first_or (SignatureOk r b) g.sig (find_function r.ctx.texts name fs) (same_bytes name (name_bytes r.ctx.texts g.name)) e h.sig (λ q. function-found rest q)

  pub package_found : {ps : List Package} {p : Package} → All (PackageOk r b) ps → find_package r.ctx.texts name ps ≡ some p → PackageOk r b p
  unfolding find_package
  package_found end e = no-some e
  package_found (and {a = g} {xs = ps} h rest) e =
      first_or (PackageOk r b) g (find_package r.ctx.texts name ps) (same_bytes name (name_bytes r.ctx.texts g.name)) e h (λ q. package_found rest q)

  pub group-found : {fs : List Function} → All (FunctionOk r b) fs → All (SignatureOk r b) (group_of r.ctx.texts name fs)
  unfolding group_of
  group-found end = end
  group-found (and {a = f} h rest) = pick (All (SignatureOk r b)) {t = same_bytes name (name_bytes r.ctx.texts f.name)} _ _ (λ _. and h.sig (group-found rest)) (λ _. group-found rest)

  -- of k fields from index `at` on
  pub field_found : {free : Type 0} (k at : ℕ) {w : ℕ} → FieldsTyped r free b at k → find_field r.ctx.texts b.words name at k ≡ some w → Typed r free b w
  unfolding find_field
  field_found zero at h e = no-some e
  field_found {free} (suc k) at {w} h e =
      let f = first-typed r h (eqb-suc-zero k) in
      let q : suc k - 1 ≡ k = omega arith in
      let rest : FieldsTyped r free b (at + 2) k = rw q at f.rest in
      first_or (Typed r free b) (get_or b.words (at + 1) 0) (find_field r.ctx.texts b.words name (at + 2) k)
      (same_bytes name (name_bytes r.ctx.texts (get_or b.words at 0))) e f.type (λ q. field_found k (at + 2) rest q)
