-- What holds of every word or name of a list, put together from what holds of each index or part. By induction on the list. Assumes nothing.
use Rattle.std.specs.Prelude.{ℕ, suc, ◌<◌, ◌≡◌, refl, Bool, true, false, ◌&&◌, ◌||◌, cond, List, [], ◌∷◌, length, get_or, leb, eqb}
use Rattle.std.proofs.Common.{arith}
use Rattle.tok.specs.Word.{kind_of}
use Rattle.rules.specs.Promises.{Every}
use Rattle.rules.specs.Names.{word_names}
use Rattle.rules.specs.Walk.{pool_types}
use Rattle.tworuns.specs.Pool.{every_join}

pub every-at : (P : ℕ → Type 0) (ws : List ℕ) → ((i : ℕ) → i < length ws → P (get_or ws i 0)) → Every P ws
unfolding Every
every-at P [] h = tt
every-at P (w ∷ ws) h = (h 0 (omega arith), every-at P ws (λ i l. h (suc i) (omega arith)))

-- a word that carries a name: Foreign, Slot, or a name
abbrev pub carries_name : ℕ → Bool
carries_name w = eqb (kind_of w) 9 || (eqb (kind_of w) 10 || eqb (kind_of w) 12)

abbrev pub is_type : ℕ → Bool
is_type w = leb 1 (kind_of w) && leb (kind_of w) 11

kept_if : (P : ℕ → Type 0) (b : Bool) (w : ℕ) → (b ≡ true → P w) → Every P (cond b (w ∷ []) [])
unfolding Every
kept_if P true w h = (h refl, tt)
kept_if P false w h = tt

pub every-name : (P : ℕ → Type 0) (ws : List ℕ) → Every (λ w. carries_name w ≡ true → P w) ws → Every P (word_names ws)
unfolding Every word_names
every-name P [] h = tt
every-name P (w ∷ ws) h = every_join P (cond (carries_name w) (w ∷ []) []) (word_names ws) (kept_if P (carries_name w) w h.0) (every-name P ws h.1)

first_if : (P : ℕ → Type 0) (b : Bool) (w : ℕ) (ws : List ℕ) → (b ≡ true → P w) → Every P ws → Every P (cond b (w ∷ ws) ws)
unfolding Every
first_if P true w ws h k = (h refl, k)
first_if P false w ws h k = k

pub every-type : (P : ℕ → Type 0) (ws : List ℕ) → Every (λ w. is_type w ≡ true → P w) ws → Every P (pool_types ws)
unfolding Every pool_types
every-type P [] h = tt
every-type P (w ∷ ws) h = first_if P (is_type w) w (pool_types ws) h.0 (every-type P ws h.1)
