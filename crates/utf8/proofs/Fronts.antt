-- What `char_len` returns, a law for each of its arms. By `front`: a character at the front is taken off. Assumes nothing.
use Prim.Native.Nat.{ℕ, ◌<◌, zero-le}
use mathlib.Core.Path.{◌≡◌, ◌∙◌}
use mathlib.Core.Bool.{true, false}
use mathlib.Core.List.{List, [], ◌∷◌}
use native.Mathlib.Omega.{arith}
use native.Mathlib.Nat.{not-suc-le-zero}
use lib.ListN.{length, get_or}
use Rattle.utf8.specs.Rfc3629.{utf8_1, utf8_2, utf8_3, utf8_4, well_formed, one, two, three, four}
use Rattle.utf8.specs.Front.{Front}
use Rattle.utf8.proofs.Laws.Decides.{goes_1, goes_2, goes_3, stops_4, front}

pub front_1 : (t : List ℕ) → 0 < length t → utf8_1 (get_or t 0 0) ≡ true → Front t 1
front_1 [] l h = absurd (not-suc-le-zero l)
front_1 (a ∷ t) l h = record { within = l; well = front (one h) t }

pub front_2 : (t : List ℕ) → 1 < length t → utf8_2 (get_or t 0 0) (get_or t 1 0) ≡ true → Front t 2
front_2 [] l h = absurd (omega arith)
front_2 (a ∷ []) l h = absurd (omega arith)
front_2 (a ∷ b ∷ t) l h = record { within = l; well = front (two h) t }

pub front_3 : (t : List ℕ) → 2 < length t → utf8_3 (get_or t 0 0) (get_or t 1 0) (get_or t 2 0) ≡ true → Front t 3
front_3 [] l h = absurd (omega arith)
front_3 (a ∷ []) l h = absurd (omega arith)
front_3 (a ∷ b ∷ []) l h = absurd (omega arith)
front_3 (a ∷ b ∷ c ∷ t) l h = record { within = l; well = front (three h) t }

pub front_4 : (t : List ℕ) → 3 < length t → utf8_4 (get_or t 0 0) (get_or t 1 0) (get_or t 2 0) (get_or t 3 0) ≡ true → Front t 4
front_4 [] l h = absurd (omega arith)
front_4 (a ∷ []) l h = absurd (omega arith)
front_4 (a ∷ b ∷ []) l h = absurd (omega arith)
front_4 (a ∷ b ∷ c ∷ []) l h = absurd (omega arith)
front_4 (a ∷ b ∷ c ∷ d ∷ t) l h = record { within = l; well = front (four h) t }

no_octets :
    (t : List ℕ) → 0 < length t → utf8_1 (get_or t 0 0) ≡ false → (1 < length t → utf8_2 (get_or t 0 0) (get_or t 1 0) ≡ false) →
    (2 < length t → utf8_3 (get_or t 0 0) (get_or t 1 0) (get_or t 2 0) ≡ false) →
    (3 < length t → utf8_4 (get_or t 0 0) (get_or t 1 0) (get_or t 2 0) (get_or t 3 0) ≡ false) → well_formed t ≡ false
unfolding well_formed
no_octets [] l h1 h2 h3 h4 = absurd (not-suc-le-zero l)
no_octets (a ∷ []) l h1 h2 h3 h4 = goes_1 a [] h1
no_octets (a ∷ b ∷ []) l h1 h2 h3 h4 = goes_1 a (b ∷ []) h1 ∙ goes_2 a b [] (h2 (omega arith))
no_octets (a ∷ b ∷ c ∷ []) l h1 h2 h3 h4 = goes_1 a (b ∷ c ∷ []) h1 ∙ goes_2 a b (c ∷ []) (h2 (omega arith)) ∙ goes_3 a b c [] (h3 (omega arith))
no_octets (a ∷ b ∷ c ∷ d ∷ t) l h1 h2 h3 h4 =
    goes_1 a (b ∷ c ∷ d ∷ t) h1 ∙ goes_2 a b (c ∷ d ∷ t) (h2 (omega arith)) ∙ goes_3 a b c (d ∷ t) (h3 (omega arith)) ∙ stops_4 a b c d t (h4 (omega arith))

pub front_0 :
    (t : List ℕ) → 0 < length t → utf8_1 (get_or t 0 0) ≡ false → (1 < length t → utf8_2 (get_or t 0 0) (get_or t 1 0) ≡ false) →
    (2 < length t → utf8_3 (get_or t 0 0) (get_or t 1 0) (get_or t 2 0) ≡ false) →
    (3 < length t → utf8_4 (get_or t 0 0) (get_or t 1 0) (get_or t 2 0) (get_or t 3 0) ≡ false) → Front t 0
front_0 t l h1 h2 h3 h4 = record { within = zero-le; well = no_octets t l h1 h2 h3 h4 }
