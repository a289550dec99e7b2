-- What reading the packages has shown: they are those that `packages_of` decodes, and every name, type and flag of them is good.
-- By following each rule from word to word. Assumes nothing.
use Prim.Native.Nat.{ℕ, zero, suc, ◌+◌, ◌*◌}
use Rattle.std.specs.Prelude.{◌≡◌, Bool, true, false, ◌&&◌, ◌||◌, not, ltb, eqb}
use Rattle.std.proofs.Math.Path.{refl, subst}
use Rattle.std.proofs.Common.{sym, ◌∙◌, eqb-true, ne_eqb}
use Rattle.std.proofs.Math.Bool.{and-eq-true_iff}
use mathlib.Core.List.{List, [], ◌∷◌, ◌++◌, map, append_assoc, append-nil}
use native.Mathlib.Omega.{arith}
use Rattle.std.proofs.Math.Decide.{ℕ_discrete}
use Rattle.std.proofs.Math.ListN.{get_or}
use Rattle.std.proofs.lemmas.Bool.{not-true}
use Rattle.tok.specs.Name.{good_name, in_library}
use Rattle.tok.specs.Step.{ok}
use Rattle.tok.specs.Reader.{many}
use Rattle.reader.specs.Reading.{standing}
use Rattle.reader.specs.Reads.{Within, Reads, reads, reads-map, reads-done, reads_then, reads_word}
use Rattle.library.specs.Pool.{Pool, good_type}
use Rattle.library.specs.Slots.{no_slot, return_stands}
use Rattle.library.specs.Package.{Param, param, Signature, Function, function, Package, pkg, params_from, function_at, function_end, functions_from, functions_end, packages_from}
use Rattle.library.specs.PackageRecords.{any_function, same_group, good_group, good_flag, good_signature_type, argument, good_return, function_record, function_records, package_record}
use Rattle.library.specs.Each.{Each}

-- ── What is shown ──

-- a type of a signature; "Slots stand only under flag 1"
pub record TypeFine (p : Pool) (with_slots : Bool) (w : ℕ) : Type 0 where
  pub good : good_type p p.size w ≡ true
  pub slots : with_slots ≡ false → no_slot p w ≡ true

pub record ParamFine (p : Pool) (with_slots : Bool) (a : Param) : Type 0 where
  pub name : good_name in_library p.texts.library a.name ≡ true
  pub type : TypeFine p with_slots a.type

pub record SignatureFine (p : Pool) (s : Signature) : Type 0 where
  pub params : Each (ParamFine p s.with_slots) s.params
  pub ret : TypeFine p s.with_slots s.ret
  pub stands : return_stands p (map (λ a. a.type) s.params) s.ret ≡ true

pub record FunctionFine (p : Pool) (f : Function) : Type 0 where
  pub name : good_name in_library p.texts.library f.name ≡ true
  pub sig : SignatureFine p f.sig

signature-type : (p : Pool) (flag w : ℕ) → good_signature_type p flag w ≡ true → TypeFine p (eqb flag 1) w
unfolding good_signature_type
signature-type p flag w e =
    let h = (and-eq-true_iff (good_type p p.size w) _).0 e in
    record { good = h.0; slots = λ f. rw f at h.1 }

-- ── Arguments ──

module _ (p : Pool) (words : List ℕ) (flag : ℕ) where
  pub argument-reads : (at least : ℕ) → let a : Param = param (get_or words at 0) (get_or words (at + 1) 0) in
      Reads words a (at + 2) (ParamFine p (eqb flag 1) a) (argument p flag (standing words at least))
  unfolding argument
  argument-reads at least =
      reads_then _ (reads_word _ _ words at least) (λ l₁ w₁ f₁.
      reads_then _ (reads_word _ _ words (at + 1) l₁) (λ l₂ w₂ f₂.
      reads-done (at + 1 + 1) (at + 2) l₂ (omega arith) w₂ (record { name = f₁; type = signature-type p flag _ f₂ })))

  pub arguments-reads : (k at least to : ℕ) → to ≡ at + 2 * k → (k ≡ 0 → Within words at)
      → Reads words (params_from words at k) to (Each (ParamFine p (eqb flag 1)) (params_from words at k)) (many k (argument p flag) (standing words at least))
  unfolding many params_from Each
  arguments-reads zero at least to e w = reads-done at to least (omega arith) (w refl) tt
  arguments-reads (suc k) at least to e w =
      reads_then _ (argument-reads at least) (λ l₁ w₁ f₁.
      reads_then _ (arguments-reads k (at + 2) l₁ to (omega arith) (λ _. w₁)) (λ l₂ w₂ f₂.
      reads l₂ w₂ (f₁, f₂)))

-- ── Functions ──

-- "A group of several in one package has flag 0": what the group and the flag have shown
pub record GroupFine (p : Pool) (before : List Function) (f : Function) : Type 0 where
  pub others : any_function (λ g. same_group p.texts f.name g && g.sig.with_slots) before ≡ false
  pub own : f.sig.with_slots ≡ true → any_function (same_group p.texts f.name) before ≡ false

group-name : (p : Pool) (before : List Function) (group : ℕ) → good_group p before group ≡ true → good_name in_library p.texts.library group ≡ true
unfolding good_group
group-name p before group e = ((and-eq-true_iff (good_name in_library p.texts.library group) _).0 e).0

group-shown : (p : Pool) (before : List Function) (group flag : ℕ) (s : Signature) → s.with_slots ≡ eqb flag 1
    → good_group p before group ≡ true → good_flag p before group flag ≡ true → GroupFine p before (function group s)
unfolding good_group good_flag
group-shown p before group flag s es e f =
    let h = (and-eq-true_iff (good_name in_library p.texts.library group) _).0 e in
    let g = (and-eq-true_iff (ltb flag 2) _).0 f in
    record { others = not-true _ h.1; own = λ y. by (ℕ_discrete flag 0) g.1 (sym es ∙ y) }
  where
    by : Dec (flag ≡ 0) → (eqb flag 0 || not (any_function (same_group p.texts group) before)) ≡ true → eqb flag 1 ≡ true → any_function (same_group p.texts group) before ≡ false
    by (yes z) g y = absurd (omega (arith, eqb-true flag 1 y))
    by (no z) g y = not-true _ (rw (ne_eqb flag 0 z) at g)

module _ (p : Pool) (words : List ℕ) where
  pub record FunctionShown (before : List Function) (f : Function) : Type 0 where
    pub fine : FunctionFine p f
    pub group : GroupFine p before f

  pub function-reads : (before : List Function) (at least : ℕ)
      → Reads words (function_at words at) (function_end words at) (FunctionShown before (function_at words at)) (function_record p before (standing words at least))
  unfolding function_record function_at good_return
  function-reads before at least =
      reads_then _ (reads_word _ _ words at least) (λ l₁ w₁ f₁.
      reads_then _ (reads_word _ _ words (at + 1) l₁) (λ l₂ w₂ f₂.
      reads_then _ (reads_word _ _ words (at + 1 + 1) l₂) (λ l₃ w₃ f₃.
      let n : ℕ = get_or words (at + 2) 0 in
      let flag : ℕ = get_or words (at + 1) 0 in
      let e₂ : at + 1 + 1 ≡ at + 2 = omega arith in
      let e₃ : at + 2 + 1 ≡ at + 3 = omega arith in
      rw (e₂, e₃)
      (reads_then _ (arguments-reads p words flag n (at + 3) l₃ (at + 3 + 2 * n) refl (λ _. rw (e₂, e₃) at w₃)) (λ l₄ w₄ f₄.
      reads_then _ (reads_word _ _ words (at + 3 + 2 * n) l₄) (λ l₅ w₅ f₅.
      let g = (and-eq-true_iff (good_signature_type p flag (get_or words (at + 3 + 2 * n) 0)) _).0 f₅ in
      reads-done (at + 3 + 2 * n + 1) (at + 4 + 2 * n) l₅ (omega arith) w₅ (record {
        fine = record {
          name = group-name p before _ f₁;
          sig = record { params = f₄; ret = signature-type p flag _ g.0; stands = g.1 };
        };
        group = group-shown p before _ flag _ refl f₁ f₂;
      })))))))

-- each function beside those before it
unfoldable pub GroupsFine : Pool → (before functions : List Function) → Type 0
GroupsFine p before [] = Unit {0}
GroupsFine p before (f ∷ fs) = GroupFine p before f × GroupsFine p (before ++ (f ∷ [])) fs

pub record FunctionsShown (p : Pool) (before functions : List Function) : Type 0 where
  pub fine : Each (FunctionFine p) functions
  pub groups : GroupsFine p before functions

module _ (p : Pool) (words : List ℕ) where
  pub functions-reads : (k : ℕ) (before : List Function) (at least : ℕ) → (k ≡ 0 → Within words at)
      → Reads words (before ++ functions_from words at k) (functions_end words at k) (FunctionsShown p before (functions_from words at k))
      (function_records p k before (standing words at least))
  unfolding function_records functions_from functions_end Each GroupsFine
  functions-reads zero before at least w =
      subst (λ fs. Reads words fs at (FunctionsShown p before []) (ok before (standing words at least))) (sym (append-nil before))
      (reads least (w refl) (record { fine = tt; groups = tt }))
  functions-reads (suc k) before at least w =
      let f : Function = function_at words at in
      let fs : List Function = functions_from words (function_end words at) k in
      reads_then _ (function-reads p words before at least) (λ l₁ w₁ h₁.
      subst (λ gs. Reads words gs (functions_end words (function_end words at) k) (FunctionsShown p before (f ∷ fs))
      (function_records p k (before ++ (f ∷ [])) (standing words (function_end words at) l₁)))
      (append_assoc before (f ∷ []) fs)
      (reads-map (λ h. record { fine = (h₁.fine, h.fine); groups = (h₁.group, h.groups) })
      (functions-reads k (before ++ (f ∷ [])) (function_end words at) l₁ (λ _. w₁))))

-- ── Packages ──

pub record PackageFine (p : Pool) (k : Package) : Type 0 where
  pub name : good_name in_library p.texts.library k.name ≡ true
  pub functions : Each (FunctionFine p) k.functions
  pub groups : GroupsFine p [] k.functions

-- the package at a word, and where it ends
abbrev pub package_at : List ℕ → (at : ℕ) → Package
package_at words at = pkg (get_or words at 0) (functions_from words (at + 2) (get_or words (at + 1) 0))

abbrev pub package_end : List ℕ → (at : ℕ) → ℕ
package_end words at = functions_end words (at + 2) (get_or words (at + 1) 0)

unfoldable pub packages_end : List ℕ → (at k : ℕ) → ℕ
packages_end words at zero = at
packages_end words at (suc k) = packages_end words (package_end words at) k

module _ (p : Pool) (words : List ℕ) where
  pub package_reads : (at least : ℕ) → Reads words (package_at words at) (package_end words at) (PackageFine p (package_at words at)) (package_record p (standing words at least))
  unfolding package_record
  package_reads at least =
      reads_then _ (reads_word _ _ words at least) (λ l₁ w₁ f₁.
      reads_then _ (reads_word _ _ words (at + 1) l₁) (λ l₂ w₂ f₂.
      let e : at + 1 + 1 ≡ at + 2 = omega arith in
      rw e
      (reads_then _ (functions-reads p words (get_or words (at + 1) 0) [] (at + 2) l₂ (λ _. rw e at w₂)) (λ l₃ w₃ f₃.
      reads l₃ w₃ (record { name = f₁; functions = f₃.fine; groups = f₃.groups })))))

  pub packages-reads : (k at least : ℕ) → (k ≡ 0 → Within words at)
      → Reads words (packages_from words at k) (packages_end words at k) (Each (PackageFine p) (packages_from words at k)) (many k (package_record p) (standing words at least))
  unfolding many packages_from packages_end Each
  packages-reads zero at least w = reads least (w refl) tt
  packages-reads (suc k) at least w =
      reads_then _ (package_reads at least) (λ l₁ w₁ f₁.
      reads_then _ (packages-reads k (package_end words at) l₁ (λ _. w₁)) (λ l₂ w₂ f₂.
      reads l₂ w₂ (f₁, f₂)))
