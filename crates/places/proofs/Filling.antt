-- The loop that fills in places: what is left to fill gives the whole. Assumes nothing.
use Prim.Native.Nat.{ℕ, suc, ◌+◌, ◌≤◌, min}
use mathlib.Core.Path.{◌≡◌, refl, sym, ap, ◌∙◌}
use mathlib.Core.List.{List}
use native.Mathlib.Omega.{arith}
use lib.ListN.{length, get_or, set, length-set}
use Rattle.places.specs.Places.{clipped, place_after, place_last, fill, Filled, fill_levels, places_in}

-- `left` records are left, the next of them at `at`; its place goes to index i
pub record Filling (image : List ℕ) (index count first : ℕ) (old : List ℕ) (i left at : ℕ) (new : List ℕ) : Type 0 where
  pub place : i + left ≡ index + count
  pub long : length new ≡ length old
  pub last : place_last image left at ≡ place_last image count first
  pub places : fill image i left at new ≡ fill image index count first old

module _ {image : List ℕ} {index count first : ℕ} {old : List ℕ} where
  pub filling-none : Filling image index count first old index count first old
  filling-none = record { place = refl; long = refl; last = refl; places = refl }

  module _ {i left at : ℕ} {new : List ℕ} (h : Filling image index count first old i left at new) where
    pub filling-more : {at' later : ℕ} {new' : List ℕ} → left ≡ later + 1 → new' ≡ set new i at → at' ≡ place_after image at
        → Filling image index count first old (i + 1) later at' new'
    unfolding place_last fill
    filling-more {later = later} l e e' =
        let s : suc later ≡ left = omega arith in
        record {
          place = omega (arith, h.place);
          long = ap length e ∙ length-set new i at ∙ h.long;
          last = rw e' (ap (λ k. place_last image k at) s ∙ h.last);
          places = rw (e, e') (ap (λ k. fill image i k at new) s ∙ h.places);
        }

    pub filling-all : left ≤ 0 → Filled image index count first old at new
    unfolding place_last fill
    filling-all l =
        let z : left ≡ 0 = omega arith in
        record {
          last = ap (λ k. place_last image k at) (sym z) ∙ h.last;
          places = ap (λ k. fill image i k at new) (sym z) ∙ h.places;
        }

-- the nodes, then the types, and then their levels, counted and begun as the image's head says
pub all-filled : (image : List ℕ) {a b c a' b' c' nodes types first next last : ℕ} {old new new' new'' : List ℕ}
    → a ≡ get_or image 0 0 → a' ≡ a → nodes ≡ min a' 2048
    → b ≡ get_or image 1 0 → b' ≡ b → types ≡ min b' 512
    → c ≡ get_or image 2 0 → c' ≡ c → first ≡ clipped (4 + c')
    → Filled image 0 nodes first old next new → Filled image 2048 types next new last new' → new'' ≡ fill_levels image 0 types new' → new'' ≡ places_in image old
all-filled image ea ea' en eb eb' et ec ec' ef f g l =
    l ∙ rw (g.places, f.last, f.places, et, en, ef, eb', eb, ea', ea, ec', ec)
