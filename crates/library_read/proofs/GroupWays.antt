-- Groups and flags as the code asks for them: by the candidates of the group's name. Assumes nothing.
use Prim.Native.Nat.{ℕ}
use mathlib.Core.Path.{◌≡◌, refl, sym, ap, ◌∙◌}
use mathlib.Core.Bool.{Bool, true, false, ◌&&◌, ◌||◌}
use mathlib.Core.List.{List, [], ◌∷◌}
use Rattle.tok.specs.Text.{Texts, name_bytes, same_bytes}
use Rattle.library.specs.declared.Entry.{Entry}
use Rattle.std.specs.Prelude.{Option as Answer, Some, None}
use Rattle.std.specs.List.{list_any}
use Rattle.std.specs.Option.{is_some}
use Rattle.library.specs.Package.{Signature, Function, group_of}
use Rattle.library.specs.Entries.{entries_of}
use Rattle.library.specs.PackageRecords.{any_function, same_group}

-- a group's functions are all that its tests look at
is_met : List Signature → Bool
is_met [] = false
is_met (s ∷ ss) = true

module _ (t : Texts) (group : ℕ) where
  pub slots_in_lem : (fs : List Function) → any_function (λ f. same_group t group f && f.sig.with_slots) fs ≡ list_any (λ s. s.with_slots) (group_of t (name_bytes t group) fs)
  unfolding any_function group_of
  slots_in_lem [] = refl
  slots_in_lem (f ∷ fs) = by (same_bytes (name_bytes t group) (name_bytes t f.name)) (slots_in_lem fs)
    where
      by : (b : Bool) → any_function (λ f. same_group t group f && f.sig.with_slots) fs ≡ list_any (λ s. s.with_slots) (group_of t (name_bytes t group) fs)
          → (b && f.sig.with_slots || any_function (λ f. same_group t group f && f.sig.with_slots) fs)
          ≡ list_any (λ s. s.with_slots) (elim b [ true ↦ f.sig ∷ group_of t (name_bytes t group) fs | false ↦ group_of t (name_bytes t group) fs ])
      by true e = rw e refl
      by false e = e

  met_in_lem : (fs : List Function) → any_function (same_group t group) fs ≡ is_met (group_of t (name_bytes t group) fs)
  unfolding any_function group_of is_met
  met_in_lem [] = refl
  met_in_lem (f ∷ fs) = by (same_bytes (name_bytes t group) (name_bytes t f.name)) (met_in_lem fs)
    where
      by : (b : Bool) → any_function (same_group t group) fs ≡ is_met (group_of t (name_bytes t group) fs)
          → (b || any_function (same_group t group) fs) ≡ is_met (elim b [ true ↦ f.sig ∷ group_of t (name_bytes t group) fs | false ↦ group_of t (name_bytes t group) fs ])
      by true e = refl
      by false e = e

-- what is found of some functions, first or after others, stands for those of the group
module _ (t : Texts) (group : ℕ) (fs : List Function) {name : List ℕ} (en : name ≡ name_bytes t group) (words : List ℕ) (flags : ℕ) where
  abbrev found : Answer Entry → List Signature
  found r = entries_of t name words flags r

  module _ (r : Answer Entry) (h : group_of t name fs ≡ found r) where
    pub met-is : is_some r ≡ any_function (same_group t group) fs
    unfolding is_met
    met-is = sym (met_in_lem t group fs ∙ ap is_met (ap (λ n. group_of t n fs) (sym en) ∙ h) ∙ by r)
      where
        by : (o : Answer Entry) → is_met (found o) ≡ is_some o
        by (Some f) = refl
        by None = refl
