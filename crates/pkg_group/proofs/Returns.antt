-- A call of a group, one law for each way out of the code. Assumes nothing.
use Rattle.std.specs.Prelude.{Option}
use Prim.Native.Nat.{ℕ}
use mathlib.Core.Path.{◌≡◌, sym, ap, ◌∙◌}
use mathlib.Core.Bool.{Bool, false}
use mathlib.Core.List.{List, [], ◌∷◌}
use Rattle.tok.specs.Text.{Texts, name_bytes}
use Rattle.err.specs.declared.CallName.TheVariants.{OfPackage}
use Rattle.err.specs.Message.{pkg_name, call_name, undefined_in_package}
use Rattle.err.specs.Report.{Reports}
use Rattle.library.specs.Package.{Signature, Package}
use Rattle.rules.specs.declared.Answer.{Answer}
use Rattle.rules.specs.declared.Answer.TheVariants.{Poison}
use Rattle.rules.specs.Calls.{check_call_args, in_group}
use Rattle.state.specs.declared.Used.{Used}
use Rattle.state.specs.Context.{ctx}
use Rattle.state.specs.Reporting.{told_of, poisons-step}
use Rattle.signatures.specs.Groups.{as_plain}
use Rattle.state.specs.World.{Step, Steps}
use Rattle.call_args.specs.Given.{given_from}
use Rattle.group_select.specs.Selects.{Selects}
use Rattle.pkg_group.specs.declared.Candidate.{Candidate}
use Rattle.pkg_group.specs.declared.Candidates.{Candidates}
use Rattle.pkg_group.specs.declared.Candidates.TheVariants as C
use Rattle.pkg_group.specs.GroupSize.{signature_of, size_found, OfSeveral}
use Rattle.pkg_group.specs.GroupSizeLaws.{size_none, size-one, size_several, plain-of}
use Rattle.pkg_group.specs.Groups.{GroupReady, InGroup}
use Rattle.err.specs.declared.Counts.{Counts}

module _ {texts : Texts} {n slot pkg name : ℕ} {image places : List ℕ} {args count : ℕ} {provided : List ℕ} {fs : List Signature} {found : Candidates}
    {poisoned : Bool} {s t d m : List ℕ} {u : Used} (h : GroupReady image places n args count s provided fs found) where
  pub group-none : {d' m' : List ℕ} {x : Option Counts} {r : Step Answer} → found ≡ C.Nothing
      → Reports (undefined_in_package name (pkg_name (name_bytes texts pkg) (name_bytes texts name))) d m u.told d' m' x → r ≡ told_of n u x Poison
      → InGroup texts n slot pkg name (given_from image args count) poisoned fs s t d m u s t d' m' r
  unfolding in_group
  group-none o p w =
      let e : fs ≡ [] = size_none fs (h.among ∙ ap (size_found) o) in
      record { of = λ library void. record { step = λ rest. rw (e, w) ((poisons-step n {s = s} {t = t} {u = u} p).step rest) } }

  pub group-plain : {c : Candidate} {f : Signature} {s' d' m' : List ℕ} {r : Step Answer} → found ≡ C.Plain c → f ≡ signature_of c false
      → ((library : List Package) (void : ℕ)
      → Steps (check_call_args (ctx texts library void) n slot name (call_name texts (OfPackage pkg name)) (as_plain f) (given_from image args count))
      s t d m u s' t d' m' r)
      → InGroup texts n slot pkg name (given_from image args count) poisoned fs s t d m u s' t d' m' r
  unfolding in_group call_name
  group-plain {c} {f} o i p =
      let e : fs ≡ as_plain f ∷ [] = size-one fs (h.among ∙ ap (size_found) o) ∙ ap (λ g. g ∷ []) (sym (ap as_plain i ∙ plain-of c)) in
      record { of = λ library void. record { step = λ rest. rw e ((p library void).step rest) } }

  pub group_several : {s' d' m' : List ℕ} {r : Step Answer} → found ≡ C.Several
      → Selects texts n slot name (pkg_name (name_bytes texts pkg) (name_bytes texts name)) provided poisoned fs s t d m u s' d' m' r
      → InGroup texts n slot pkg name (given_from image args count) poisoned fs s t d m u s' t d' m' r
  unfolding in_group
  group_several o c =
      let z : OfSeveral fs = size_several fs (h.among ∙ ap (size_found) o) in
      record {
        of = λ library void. record {
          step = λ rest. rw z.are ((c.of _ _ z.are (given_from image args count) h.gathered library void).step rest);
        };
      }
