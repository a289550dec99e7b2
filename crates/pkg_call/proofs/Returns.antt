-- A call of a package's function, one law for each way out of the code. Assumes nothing.
use Rattle.std.specs.Prelude.{Option as Found, Some, None}
use Prim.Native.Nat.{ℕ, ◌≤◌}
use mathlib.Core.Path.{◌≡◌, refl, sym, ap, subst, ◌∙◌}
use mathlib.Core.Bool.{Bool, true, false}
use mathlib.Core.Option.{some}
use mathlib.Core.List.{List, [], ◌∷◌, ◌++◌}
use lib.ListN.{length, take}
use lib.Seq.{length-take-le, take_at}
use Rattle.tok.specs.Text.{Texts, name_bytes}
use Rattle.err.specs.declared.CallName.TheVariants.{OfPackage}
use Rattle.err.specs.Message.{call_name, missing_package}
use Rattle.err.specs.Report.{Reports}
use Rattle.library.specs.Package.{Signature, Package, find_package, group_of}
use Rattle.library.specs.PackagesRead.{package_at}
use Rattle.rules.specs.declared.Answer.{Answer}
use Rattle.rules.specs.declared.Answer.TheVariants.{Poison}
use Rattle.rules.specs.Steps.{on_option}
use Rattle.rules.specs.Calls.{Provided, check_call_args, in_group, resolve_pkg_call}
use Rattle.state.specs.declared.Used.{Used}
use Rattle.state.specs.Context.{ctx}
use Rattle.state.specs.Reporting.{told_of, poisons-step}
use Rattle.signatures.specs.Groups.{as_slotted}
use Rattle.state.specs.Store.{held_from, extern_at}
use Rattle.state.specs.World.{Step, Steps}
use Rattle.scope.specs.declared.Held as F
use Rattle.scope.specs.declared.Held.TheVariants as H
use Rattle.scope.specs.Found.{held_of}
use Rattle.pkg_group.specs.declared.Candidate.{Candidate}
use Rattle.pkg_group.specs.declared.Candidates.{Candidates}
use Rattle.pkg_group.specs.declared.Candidates.TheVariants as C
use Rattle.pkg_group.specs.GroupSize.{group_size, signature_of, size_found}
use Rattle.pkg_group.specs.GroupSizeLaws.{size-one, slotted-of}
use Rattle.pkg_group.specs.Groups.{InGroup}
use Rattle.pkg_call.specs.Calls.{Low, LibraryCalls, HeldCalls}
use Rattle.pkg_call.specs.Found.{candidates_at}
use Rattle.pkg_call.proofs.Ready.{library-group, extern-group}
use Rattle.err.specs.declared.Counts.{Counts}

-- a tail of scratch that was lent and came back leaves what is before it
pub front-stays : (e rest : List ℕ) → 8192 ≤ length e → Low e (take 8192 e ++ rest)
front-stays e rest l = record { same = take_at (take 8192 e) rest 8192 (length-take-le 8192 e l) }

-- ── Into one package ──

module _ {texts : Texts} {n slot pkg name : ℕ} {given : List Provided} {poisoned : Bool} (words : List ℕ) (at : ℕ)
    {s t d m : List ℕ} {u : Used} {s' t' d' m' : List ℕ} {r : Step Answer} where
  pub library-calls : (e : List ℕ)
      → InGroup texts n slot pkg name given poisoned (candidates_at texts (name_bytes texts name) words true at) s t d m u s' t' d' m' r
      → LibraryCalls texts n slot pkg name given poisoned (package_at words at) e s t d m u e s' t' d' m' r
  library-calls e c =
      let g = library-group texts (name_bytes texts name) words at in
      record { call = subst (λ fs. InGroup texts n slot pkg name given poisoned fs s t d m u s' t' d' m' r) g c; low = record { same = refl } }

  -- of one function, with slots
  pub slotted-calls : {found : Candidates} {c : Candidate} {f : Signature} {e e' : List ℕ}
      → group_size (candidates_at texts (name_bytes texts name) words true at) ≡ size_found found → found ≡ C.Slotted c → f ≡ signature_of c true
      → ((library : List Package) (void : ℕ)
      → Steps (check_call_args (ctx texts library void) n slot name (call_name texts (OfPackage pkg name)) (as_slotted f) given) s t d m u s' t' d' m' r)
      → Low e e' → LibraryCalls texts n slot pkg name given poisoned (package_at words at) e s t d m u e' s' t' d' m' r
  unfolding in_group call_name
  slotted-calls {c = c} {f = f} a o k p l =
      let i : candidates_at texts (name_bytes texts name) words true at ≡ as_slotted f ∷ [] =
      size-one _ (a ∙ ap size_found o) ∙ ap (λ h. h ∷ []) (sym (ap as_slotted k ∙ slotted-of c)) in
      let g : group_of texts (name_bytes texts name) (package_at words at).functions ≡ as_slotted f ∷ [] = sym (library-group texts (name_bytes texts name) words at) ∙ i in
      record { call = record { of = λ library void. record { step = λ rest. rw g ((p library void).step rest) } }; low = l }

  pub extern-calls : InGroup texts n slot pkg name given poisoned (candidates_at texts (name_bytes texts name) words false at) s t d m u s' t' d' m' r
      → InGroup texts n slot pkg name given poisoned (group_of texts (name_bytes texts name) (extern_at words at).functions) s t d m u s' t' d' m' r
  extern-calls c =
      let g = extern-group texts (name_bytes texts name) words at in
      subst (λ fs. InGroup texts n slot pkg name given poisoned fs s t d m u s' t' d' m' r) g c

-- ── Into the packages held ──

module _ {texts : Texts} {n slot pkg name : ℕ} {given : List Provided} {poisoned : Bool} {words : List ℕ} {held packages : ℕ} {e s t d m : List ℕ} {u : Used} (found : Found F.Held)
    (q : held_of words e found ≡ find_package texts (name_bytes texts pkg) (held_from words e held packages)) where
  pub no_package : {d' m' : List ℕ} {x : Found Counts} {r : Step Answer} → found ≡ None → Reports (missing_package pkg (name_bytes texts pkg)) d m u.told d' m' x → r ≡ told_of n u x Poison
      → HeldCalls texts n slot pkg name given poisoned words held packages e s t d m u e s t d' m' r
  unfolding resolve_pkg_call on_option
  no_package o p w = record {
    step = λ library void rest z. rw (ap (find_package texts (name_bytes texts pkg)) z ∙ sym q ∙ ap (held_of words e) o, w) ((poisons-step n {s = s} {t = t} {u = u} p).step rest);
    low = record { same = refl };
  }

  module _ {s' t' d' m' : List ℕ} {r : Step Answer} where
    -- the package found, and the candidates in it
    in_package : (p : Package) {e' : List ℕ} → held_of words e found ≡ some p
        → InGroup texts n slot pkg name given poisoned (group_of texts (name_bytes texts name) p.functions) s t d m u s' t' d' m' r → Low e e'
        → HeldCalls texts n slot pkg name given poisoned words held packages e s t d m u e' s' t' d' m' r
    unfolding resolve_pkg_call on_option
    in_package p o c l = record {
      step = λ library void rest z. rw (ap (find_package texts (name_bytes texts pkg)) z ∙ sym q ∙ o) ((c.of library void).step rest);
      low = l;
    }

    pub library-held : {at : ℕ} {e' : List ℕ} → found ≡ Some (H.Library at) → LibraryCalls texts n slot pkg name given poisoned (package_at words at) e s t d m u e' s' t' d' m' r
        → HeldCalls texts n slot pkg name given poisoned words held packages e s t d m u e' s' t' d' m' r
    library-held {at} o c = in_package (package_at words at) (ap (held_of words e) o) c.call c.low

    pub extern-held : {at : ℕ} → found ≡ Some (H.Extern at)
        → InGroup texts n slot pkg name given poisoned (group_of texts (name_bytes texts name) (extern_at e at).functions) s t d m u s' t' d' m' r
        → HeldCalls texts n slot pkg name given poisoned words held packages e s t d m u e s' t' d' m' r
    extern-held {at} o c = in_package (extern_at e at) (ap (held_of words e) o) c (record { same = refl })
