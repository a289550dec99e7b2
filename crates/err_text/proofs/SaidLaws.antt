-- The text of pieces, one by one. Assumes nothing.
use Prim.Native.Nat.{ℕ, suc, ◌+◌, ◌≤◌, ◌<◌}
use mathlib.Core.Path.{◌≡◌, sym, ap, ◌∙◌}
use mathlib.Core.List.{List, [], ◌∷◌, ◌++◌, append-nil, append_assoc}
use native.Mathlib.Numerals.{add-one}
use lib.ListN.{length, drop, drop_of_length-le}
use lib.Seq.{drop-cons}
use Rattle.std.proofs.Common.{slice_index_or}
use Rattle.err_text.specs.declared.Piece.{Piece}
use Rattle.err_text.specs.Pieces.{text_of, said_after, said}

after : (before : List ℕ) (ps : List Piece) → said_after before ps ≡ before ++ said ps
unfolding said said_after
after before [] = sym (append-nil _)
after before (p ∷ ps) = after (before ++ text_of p) ps ∙ append_assoc before (text_of p) (said ps) ∙ ap (λ t. before ++ t) (sym (after (text_of p) ps))

said-first : (p : Piece) (ps : List Piece) → said (p ∷ ps) ≡ text_of p ++ said ps
unfolding said
said-first p ps = after (text_of p) ps

-- i pieces are passed, and p comes next
pub said-turn : (ps : List Piece) {i : ℕ} (p : Piece) → i < length ps → p ≡ slice_index_or ps i p → said (drop i ps) ≡ text_of p ++ said (drop (i + 1) ps)
said-turn ps {i} p h e = ap said (drop-cons ps i p h) ∙ rw (← e, add-one) (said-first p (drop (suc i) ps))

pub said-end : (ps : List Piece) {i : ℕ} → length ps ≤ i → said (drop i ps) ≡ []
unfolding said
said-end ps {i} h = rw (drop_of_length-le ps {i = i} h)
