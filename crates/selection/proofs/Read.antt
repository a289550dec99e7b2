-- The rules of selection only read: each is an answer and the same world. By induction on the list. Assumes nothing.
use Rattle.std.specs.Prelude.{cond, Some, None, Option as Found}
use Prim.Native.Nat.{ℕ}
use mathlib.Core.Path.{◌≡◌, refl}
use mathlib.Core.Bool.{Bool, true, false, ◌&&◌}
use mathlib.Core.Option.{Option, none, some}
use mathlib.Core.List.{List, [], ◌∷◌, map}
use lib.ListN.{get_or}
use Rattle.tok.specs.Step.{ok, return, when, for_each}
use Rattle.ptype.specs.Ty.{Ty, same_ty}
use Rattle.ptype.specs.Words.{ty_of}
use Rattle.library.specs.Package.{Param, Signature}
use Rattle.rules.specs.World.{Ctx, World}
use Rattle.rules.specs.Steps.{ty, tree, ty_tree}
use Rattle.rules.specs.Calls.{Provided, overload_matches, param_trees, provided_trees, position, all_return}
use Rattle.selection.specs.Candidates.{param_types, position_of, all_return_of}

-- what was found, as the rules answer it
abbrev pub answered : Found Signature → Option Signature
answered (Some f) = some f
answered None = none

module _ (c : Ctx) (s : World) where
  abbrev U : ℕ → Ty
  U = ty_of c.texts s.types.words

  pub params_are : (ps : List Param) → param_trees c ps s ≡ ok (param_types U ps) s
  unfolding param_trees for_each tree
  params_are [] = refl
  params_are (p ∷ ps) = rw (params_are ps)

  pub provided-are : (given : List Provided) → provided_trees c given s ≡ ok (map (λ a. U (get_or s.slots a.slot 0)) given) s
  unfolding provided_trees for_each ty_tree ty tree
  provided-are [] = refl
  provided-are (a ∷ rest) = rw (provided-are rest)

  pub candidates-are : (fs : List Signature) → for_each (λ f. param_trees c f.params) fs s ≡ ok (map (λ f. param_types U f.params) fs) s
  unfolding for_each
  candidates-are [] = refl
  candidates-are (f ∷ fs) = rw (params_are f.params, candidates-are fs)

  pub position-is : (provided : List Ty) (fs : List Signature) → position c provided fs s ≡ ok (answered (position_of U provided fs)) s
  unfolding position when
  position-is provided [] = refl
  position-is provided (f ∷ fs) = rw (params_are f.params) (by (position-is provided fs) (overload_matches (param_types U f.params) provided))
    where
      by : position c provided fs s ≡ ok (answered (position_of U provided fs)) s → (q : Bool)
          → when q (return (some f)) (position c provided fs) s ≡ ok (answered (cond q (Some f) (position_of U provided fs))) s
      by h true = refl
      by h false = h

  pub returns-are : (t : Ty) (fs : List Signature) → all_return c t fs s ≡ ok (all_return_of U t fs) s
  unfolding all_return tree when
  returns-are t [] = refl
  returns-are t (f ∷ fs) = by (returns-are t fs) (same_ty (U f.ret) t)
    where
      by : all_return c t fs s ≡ ok (all_return_of U t fs) s → (q : Bool) → when q (all_return c t fs) (return false) s ≡ ok (q && all_return_of U t fs) s
      by h true = h
      by h false = refl
