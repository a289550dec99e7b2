-- The walk: it begins, and its roots are visited; over variables for what the calls gave. By cases. Assumes nothing.
use Rattle.std.specs.Prelude.{ℕ, ◌≡◌, refl, List, length, Ok, Err, ⊤}
use Rattle.std.proofs.Common.{ap, ◌∙◌, arith}
use Rattle.std.proofs.Math.Option.{none}
use Rattle.tok.specs.Step.{ok, next}
use Rattle.tok.specs.Text.{Texts, texts_of}
use Rattle.library.specs.Package.{pool_of}
use Rattle.ast.specs.Image.{node_count, root_count, slot_count}
use Rattle.ast.specs.Node.{first_roots, roots_of}
use Rattle.refusals.specs.Inputs.{Inputs, Buffers}
use Rattle.refusals.specs.Refusals.{refusal_of}
use Rattle.refuse.specs.Answer.{inputs_of, buffers_of}
use Rattle.rules.specs.declared.Answer.{Answer}
use Rattle.rules.specs.declared.Answer.TheVariants.{Known}
use Rattle.rules.specs.Steps.{skip}
use Rattle.rules.specs.Rules.{last}
use Rattle.rules.specs.Walk.{ctx_of, empty_slots, start_of, walk, walk_of}
use Rattle.rules.specs.Visited.{visited_among}
use Rattle.state.specs.declared.Refusal.{Refusal}
use Rattle.state.specs.World.{no_more}
use Rattle.visit.specs.declared.State.{State}
use Rattle.visit.specs.Whole.{Lent, Visit, lent, whole, visited}
use Rattle.visit.specs.Within.{Keeps, goes, Visits}
use Rattle.visit.specs.Free.{FreeRows}
use Rattle.tworuns.specs.Accepted.{fresh_start}
use Rattle.accepts.proofs.Passed.{passed}
use Rattle.accepts.proofs.Fresh.{Fresh}
use Rattle.accepts.proofs.FreshRoots.{roots-fresh}
use Rattle.room_laws.specs.Room.{rooms, rows_all}
use Rattle.places.specs.Places.{places_of}
use Rattle.ready.specs.Ready.{Ready}
use Rattle.ready.specs.Given.{start_state}
use Rattle.ready.proofs.Given.{ready-start}
use Rattle.walking.specs.Visited.{ctx_in, nodes_at, ListVisit, ListVisited}
use Rattle.start.specs.Begin.{beginning, first_state, Starts, walk_begins}
use Rattle.ending.specs.Ended.{within_of, answered_of, EndsWell, WalkEnds}
use Rattle.ending.proofs.Within.{within-numbered, over-answered}

-- the entries lie in the functions buffer where the visits kept within their part of it
ends-well : {room rows : ℕ} {st : State} {b b' : Lent} (v : Visit Answer) → FreeRows rows st b.functions → Keeps room rows st b b' v → EndsWell b'.functions (answered_of v)
unfolding EndsWell
ends-well (Ok (a, st)) g (goes w) = omega (arith, g.after, w.written, w.functions)
ends-well (Err x) g k = within-numbered x

module _ (i : Inputs) (b : Buffers) where
  -- it begins, and then its roots are visited
  walk_is : walk_of i b ≡ next (beginning i (start_of i b)) (λ _ w. next (last (ctx_of i) (Known (slot_count i.image)) (roots_of i.image) w) (λ _. skip))
  unfolding walk_of walk roots_of
  walk_is = walk_begins i (root_count i.image) (start_of i b)

module _ (script image text words s f t d m e : List ℕ) where
  abbrev inputs : Inputs
  inputs = inputs_of script image text words

  abbrev before : Buffers
  before = buffers_of s f t d m e

  module _ {s₁ t₁ : List ℕ} where
    begun : {r : Visit ⊤} → Starts image words s t s₁ t₁ r
        → walk_of inputs before ≡ next (visited words (lent s₁ f t₁ d m e no_more) r) (λ _ w. next (last (ctx_of inputs) (Known (slot_count image)) (roots_of image) w) (λ _. skip))
    begun h = walk_is inputs before ∙ rw (h.step script text f d m e)

    pub walk-refused : {x : Refusal} → Starts image words s t s₁ t₁ (Err x) → WalkEnds inputs before (lent s₁ f t₁ d m e no_more) (Err (within_of x))
    unfolding visited EndsWell
    walk-refused {x} h = record { step = begun h ∙ over-answered words (lent s₁ f t₁ d m e no_more) (Err x); well = within-numbered x }

    module _ {st : State} (h : Starts image words s t s₁ t₁ (Ok (tt, st))) where
      walk-visits : {b' : Lent} {v : Visit Answer} {room rows : ℕ} → FreeRows rows st f
          → Visits (last (ctx_in (texts_of script text) image words) (Known (slot_count image)) (nodes_at image 4 (root_count image))) room rows words st (lent s₁ f t₁ d m e no_more) b' v
          → WalkEnds inputs before b' (answered_of v)
      unfolding visited ctx_of roots_of first_roots
      walk-visits {b' = b'} {v = v} g q = record { step = begun h ∙ ap (λ x. next x (λ _. skip)) q.step ∙ over-answered words b' v; well = ends-well v g q.keeps }

      -- what the visits of the roots ask for
      roots-begun : beginning inputs (start_of inputs before) ≡ ok tt (whole words (start_state (first_state (length (pool_of words))).used) (lent s₁ f t₁ d m e no_more))
      unfolding visited
      roots-begun = h.step script text f d m e ∙ rw h.state

      module _ (accepted : refusal_of inputs before ≡ none) where
        roots-start : Ready (texts_of script text) image (places_of image) words (rooms (roots_of image)) (rows_all (roots_of image)) st (lent s₁ f t₁ d m e no_more)
        unfolding beginning ctx_of
        roots-start = rw h.state (ready-start inputs before accepted (first_state (length (pool_of words))).used (lent s₁ f t₁ d m e no_more) roots-begun refl refl)

        pub walk-roots : {b' : Lent} {v : Visit Answer} {k : ℕ} → k ≡ root_count image → ListVisited (texts_of script text) image words 4 k st (lent s₁ f t₁ d m e no_more) b' v
            → WalkEnds inputs before b' (answered_of v)
        unfolding roots_of first_roots
        walk-roots hk q = walk-visits roots-start.rows (rw hk at q)

        -- no slot has a type yet
        no-types : Fresh (visited_among (nodes_at image 4 (root_count image))) s₁
        unfolding start_of roots_of first_roots
        no-types = let p = passed inputs before accepted in rw h.slots (roots-fresh inputs before p (empty_slots (slot_count image) s) (fresh_start inputs before p.slots).empty)

        pub roots-ready : {places : List ℕ} {n k : ℕ} → places ≡ places_of image → n ≡ node_count image → k ≡ root_count image
            → ListVisit (texts_of script text) image places words n 4 k st (lent s₁ f t₁ d m e no_more)
        unfolding roots_of first_roots
        roots-ready hp hn hk =
            let a = (passed inputs before accepted).image in
            rw (hp, hn, hk) (record { below = omega arith; nodes = a.roots; inside = omega (arith, a.most-roots); ready = roots-start; fresh = no-types })

pub roots-visited : (T : Texts) (image : List ℕ) {words : List ℕ} {st : State} {b b' : Lent} {k : ℕ} {v : Visit Answer} → k ≡ root_count image
    → ListVisited T image words 4 k st b b' v → ListVisited T image words 4 (root_count image) st b b' v
roots-visited T image hk q = rw hk at q

-- the roots' visits, with the places and counts that the code found
module _ {T : Texts} {image words : List ℕ} {st : State} {b : Lent} where
  pub roots-counted : {places : List ℕ} {n k : ℕ} → ListVisit T image (places_of image) words (node_count image) 4 (root_count image) st b
      → places ≡ places_of image → n ≡ node_count image → k ≡ root_count image → ListVisit T image places words n 4 k st b
  roots-counted h hp hn hk = rw (hp, hn, hk) h
