-- The functions buffer holds the entries of the own functions, in the order in which they were met; and no refusal of the walk has
-- the number 0. An instance of `Keeps`. Assumes nothing.
use Rattle.std.specs.Prelude.{ℕ, false, ◌≡◌, refl, List, [], ◌∷◌, ◌++◌, length}
use Rattle.std.proofs.Common.{arith, ap, length-append}
use Rattle.tok.specs.Step.{refusal}
use Rattle.ptype.specs.Add.{buffer, overwrite, write, append}
use Rattle.ast.specs.Image.{node_count}
use Rattle.library.specs.Package.{Param, Function, function, signature}
use Rattle.refusals.specs.Inputs.{Inputs, Buffers}
use Rattle.rules.specs.World.{World}
use Rattle.rules.specs.Steps.{entry_of}
use Rattle.rules.specs.Walk.{start_of, copy_pool, walk_first}
use Rattle.laws.specs.SlotsOf.{all_among_lem}
use Rattle.laws.specs.Keeps.{Keeps, kept, stopped, StepsKeep, Enters}
use Rattle.laws.specs.RulesKeep.{at-when, at-walk}

-- the words of functions, newest first in the list, in the order in which they were met
unfoldable pub words_of : List Function → List ℕ
words_of [] = []
words_of (f ∷ fs) = words_of fs ++ entry_of f.name f.sig.params f.sig.ret

pub record Holds (before : List ℕ) (s : World) : Type 0 where
  pub functions : s.functions ≡ buffer (write before 0 (words_of s.own)) (length (words_of s.own))

-- words after words: as if they were written at once
write-more : (l f e : List ℕ) → write (overwrite l f) (length f) e ≡ overwrite l (f ++ e)
unfolding write overwrite
write-more [] [] e = refl
write-more [] (y ∷ ys) e = refl
write-more (x ∷ xs) [] e = refl
write-more (x ∷ xs) (y ∷ ys) e = ap (λ (t : List ℕ). y ∷ t) (write-more xs ys e)

write-zero : (l f : List ℕ) → write l 0 f ≡ overwrite l f
unfolding write
write-zero l f = refl

append-more : (l f e : List ℕ) → append (buffer (write l 0 f) (length f)) e ≡ buffer (write l 0 (f ++ e)) (length (f ++ e))
unfolding append
append-more l f e = rw (write-zero l f, write-zero l (f ++ e), write-more l f e, length-append f e)

overwrite-none : (l : List ℕ) → overwrite l [] ≡ l
unfolding overwrite
overwrite-none [] = refl
overwrite-none (x ∷ xs) = refl

abbrev Any : ℕ → Type 0
Any k = Unit {0}

unfoldable pub NotZero : ℕ → Type 0
NotZero k = k ≡ 0 → ⊥

module _ (before : List ℕ) where
  abbrev pub Stays : World → World → Type 0
  Stays s u = Holds before s → Holds before u

  entered : (name : ℕ) (ps : List Param) (ret : ℕ) (s : World) → Holds before s
      → append s.functions (entry_of name ps ret)
      ≡ (let words = words_of (function name (signature ps ret false) ∷ s.own) in buffer (write before 0 words) (length words))
  unfolding words_of
  entered name ps ret s h = rw h.functions (append-more before (words_of s.own) (entry_of name ps ret))

  holds_kept : StepsKeep Stays NotZero Any
  unfolding NotZero
  holds_kept = record {
    same = λ s h. h;
    trans = λ {s} {t} {u} x y h. y (x h);
    slot = λ i w s p h. record { functions = h.functions };
    type = λ texts k new s e deep h. record { functions = h.functions };
    told = λ d s e h. record { functions = h.functions };
    binds = λ l s h. record { functions = h.functions };
    frame = λ {s} {u} x h. record { functions = (x h).functions };
    alone = λ {s} {u} x h. record { functions = (x (record { functions = h.functions })).functions };
    holds = λ p s h. record { functions = h.functions };
    logs = λ l s h. record { functions = h.functions };
    types_full = λ e. omega arith;
    too_deep = λ e. omega arith;
    told_full = λ e. omega arith;
  }

  holds-enters : Enters Stays
  holds-enters = record { enters = λ name ps ret s h. record { functions = entered name ps ret s h } }

  pub walk-holds : (i : Inputs) (k : ℕ) (s : World) → Keeps Stays NotZero s (walk_first i k s)
  unfolding copy_pool NotZero
  walk-holds i k s =
      at-walk holds_kept holds-enters i k s (all_among_lem (λ _. tt) _)
      (at-when holds_kept _ _ _ s (λ _. kept (λ h. record { functions = h.functions })) (λ _. stopped {r = refusal 7 (node_count i.image)} (λ e. omega arith)))

pub start-holds : (i : Inputs) (b : Buffers) → Holds b.functions (start_of i b)
unfolding start_of words_of
start-holds i b = record { functions = rw (write-zero b.functions [], overwrite-none b.functions) }
