-- The three ways out of `begin`, over variables for what the calls gave. By rewriting with the tests. Assumes nothing.
use Prim.Native.Nat.{ℕ, min}
use Rattle.std.specs.Prelude.{Ok, Err}
use mathlib.Core.Path.{◌≡◌, refl, ap, ◌∙◌}
use mathlib.Core.Bool.{Bool, true, false, cond}
use mathlib.Core.List.{List, [], ◌∷◌}
use native.Mathlib.Nat.{zero-add}
use lib.ListN.{length, set, replicate, length-replicate}
use lib.Dec.{leb}
use Rattle.tok.specs.Text.{Texts, texts_of}
use Rattle.tok.specs.Step.{ok, refused, refusal, give, refuse, when}
use Rattle.ptype.specs.Words.{void_word}
use Rattle.ptype.specs.Add.{buffer, write, type_room}
use Rattle.add.specs.Answer.{words_after}
use Rattle.add.specs.Pool.{Copies, all_shallow}
use Rattle.add.specs.Pool as A
use Rattle.add.specs.WriteLaws.{write-append, write-one}
use Rattle.library.specs.Package.{pool_of}
use Rattle.ast.specs.Image.{node_count, slot_count}
use Rattle.refusals.specs.Inputs.{Inputs}
use Rattle.refuse.specs.Answer.{inputs_of, buffers_of}
use Rattle.rules.specs.World.{World, with_types}
use Rattle.rules.specs.Steps.{raised}
use Rattle.rules.specs.Walk.{ctx_of, empty_slots, start_of, copy_pool, measure}
use Rattle.tworuns.specs.Accepted.{library_types}
use Rattle.state.specs.declared.Refusal.TheVariants.{TypesFull, TooDeep}
use Rattle.state.specs.Refused.{refusal_of}
use Rattle.state.specs.Signatures.{entries_end, entries_back, own_in}
use Rattle.state.specs.Store.{env_up, held_from}
use Rattle.state.specs.World.{no_more}
use Rattle.visit.specs.declared.State.{State}
use Rattle.visit.specs.Whole.{lent, whole, visited}
use Rattle.zero.specs.Zero.{zero_first}
use Rattle.start.specs.Begin.{beginning, first_state, with_pool, Starts}
use Rattle.start.specs.Measured.{measure-all}

-- slots emptied: zeros up to V, and then Void
pub slots_emptied : (s : List ℕ) (v : ℕ) {s₁ s₂ : List ℕ} → s₁ ≡ zero_first v s → s₂ ≡ set s₁ v void_word → s₂ ≡ empty_slots v s
unfolding empty_slots zero_first
slots_emptied s v e f = f ∙ rw (e, write-append s 0 (replicate v 0) (void_word ∷ []), length-replicate {A = ℕ} v 0, zero-add, write-one)

-- the pool copied, as `add` has it
pool-copied : (n : ℕ) (pool : List ℕ) (w : World) → copy_pool n pool w ≡ raised w (A.copy_pool n pool w.types)
unfolding copy_pool A.copy_pool raised when
pool-copied n pool w = by (leb (length pool) (type_room w.types))
  where
    by : (q : Bool) → when q (give (tt {0}) (with_types w (buffer (write w.types.words 0 pool) (length pool)))) (refuse (refusal 7 n)) w
        ≡ raised w (when q (give (tt {0}) (buffer (write w.types.words 0 pool) (length pool))) (refuse (refusal 7 n)) w.types)
    by true = refl
    by false = refl

types-after : (pool t : List ℕ) → words_after t (A.copy_pool 0 pool (buffer t 0)) ≡ with_pool pool t
unfolding A.copy_pool with_pool when
types-after pool t = by (leb (length pool) (min (length t) 8192))
  where
    by : (q : Bool) → words_after t (when q (give (tt {0}) (buffer (write t 0 pool) (length pool))) (refuse (refusal 7 0)) (buffer t 0)) ≡ cond q (write t 0 pool) t
    by true = refl
    by false = refl

module _ (image words s t : List ℕ) {n v : ℕ} {s' t' pool : List ℕ} {q : Bool} (hn : n ≡ node_count image) (hv : v ≡ slot_count image) (hs : s' ≡ empty_slots v s)
    (hp : pool ≡ pool_of words) (hc : Copies pool t q t') where
  copies : Copies (pool_of words) t q t'
  copies = rw hp at hc

  slots-are : s' ≡ empty_slots (slot_count image) s
  slots-are = hs ∙ ap (λ k. empty_slots k s) hv

  types_are : t' ≡ with_pool (pool_of words) t
  types_are = copies.words 0 0 ∙ types-after (pool_of words) t

  module _ (script text f d m e : List ℕ) where
    abbrev inputs : Inputs
    inputs = inputs_of script image text words

    abbrev first : World
    first = start_of inputs (buffers_of s f t d m e)

    copied : copy_pool (node_count image) (pool_of words) first ≡ raised first (cond q (ok tt (buffer t' (length (pool_of words)))) (refused (refusal 7 (node_count image))))
    unfolding start_of
    copied = pool-copied (node_count image) (pool_of words) first ∙ ap (raised first) (copies.result (node_count image) 0)

    full : q ≡ false → beginning inputs first ≡ refused (refusal 7 n)
    unfolding beginning raised
    full z = rw (copied, z, hn)

    -- the world once the pool is copied
    abbrev after : World
    after = with_types first (buffer t' (length (pool_of words)))

    measured : q ≡ true → beginning inputs first ≡ measure (ctx_of inputs) (node_count image) (library_types words) after
    unfolding beginning raised
    measured z = rw (copied, z)

    module _ {p : Bool} (hm : (x : Texts) → p ≡ all_shallow x t' (library_types words)) (z : q ≡ true) where
      tested : beginning inputs first ≡ cond p (ok tt after) (refused (refusal 8 (node_count image)))
      unfolding ctx_of
      tested = measured z ∙ measure-all (ctx_of inputs) (node_count image) (library_types words) after ∙ rw (← hm (texts_of script text))

      deep : p ≡ false → beginning inputs first ≡ refused (refusal 8 n)
      deep y = rw (tested, y, hn)

      after_is : after ≡ whole words (first_state (length (pool_of words))) (lent s' f t' d m e no_more)
      unfolding start_of entries_end entries_back own_in env_up held_from
      after_is = rw slots-are

      on : p ≡ true → beginning inputs first ≡ ok tt (whole words (first_state (length (pool_of words))) (lent s' f t' d m e no_more))
      on y = rw (tested, y, after_is)

  pub begin-full : q ≡ false → Starts image words s t s' t' (Err (TypesFull n))
  unfolding visited refusal_of
  begin-full z = record { step = λ script text f d m e. full script text f d m e z; state = tt; slots = slots-are; types = types_are }

  module _ {p : Bool} (hm : (x : Texts) → p ≡ all_shallow x t' (library_types words)) (z : q ≡ true) where
    pub begin-deep : p ≡ false → Starts image words s t s' t' (Err (TooDeep n))
    unfolding visited refusal_of
    begin-deep y = record { step = λ script text f d m e. deep script text f d m e hm z y; state = tt; slots = slots-are; types = types_are }

    pub begin-on : {st : State} → p ≡ true → st ≡ first_state (length pool) → Starts image words s t s' t' (Ok (tt, st))
    unfolding visited
    begin-on {st} y h =
        let g : st ≡ first_state (length (pool_of words)) = h ∙ ap (λ l. first_state (length l)) hp in
        record { step = λ script text f d m e. on script text f d m e hm z y ∙ rw g; state = g; slots = slots-are; types = types_are }
