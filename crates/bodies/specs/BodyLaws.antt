-- Node::Fn put together: one law for each way out of the code. Assumes nothing.
use Rattle.std.specs.Prelude.{ℕ, ◌+◌, ◌*◌, ◌≤◌, ◌<◌, ◌^◌, ◌≡◌, refl, Bool, true, false, List, [], length, Option, Some, None, Ok, Err}
use Rattle.std.specs.Result.{IsErrAnd}
use Rattle.std.proofs.Common.{sym, ◌∙◌, arith}
use Rattle.std.proofs.Math.Path.{ap}
use Rattle.tok.specs.Step.{Result, ok, Refusal, next, return, when}
use Rattle.ast.specs.Image.{word_at}
use Rattle.ast.specs.TypeExpr.{type_of, args_from}
use Rattle.ast.specs.Node.{Nodes}
use Rattle.rules.specs.declared.Answer.{Answer}
use Rattle.rules.specs.declared.Answer.TheVariants.{Known, Poison}
use Rattle.rules.specs.World.{Ctx, Local, World, Walk, with_env}
use Rattle.rules.specs.Steps.{framed}
use Rattle.rules.specs.Rules.{block, last}
use Rattle.state.specs.declared.Used.{Used}
use Rattle.state.specs.declared.Refusal.{Refusal as Refused}
use Rattle.state.specs.Signatures.{entries_end}
use Rattle.state.specs.Store.{env_up}
use Rattle.state.specs.World.{More, Step, Steps}
use Rattle.state.specs.Reporting.{passed}
use Rattle.visit.specs.declared.State.{State}
use Rattle.visit.specs.Plain.{with_used, visit_of, steps-visits}
use Rattle.visit.specs.Whole.{Lent, lent, Visit, whole, visited}
use Rattle.visit.specs.Within.{Within, within-from, within-then, Keeps, goes, stops, Visits}
use Rattle.visit.specs.Free.{Free, free-top}
use Rattle.visiting.specs.Then.{visits-most}
use Rattle.visiting.specs.Blocks.{left_of, inner_of, outer_within, outer_names}
use Rattle.walking.specs.Blocks.{block_last}
use Rattle.functions.specs.Defined.{is_new, fn_begin, fn_end, fn_to_body, body_and_end, new_same, fn-begun}
use Rattle.functions.specs.Entering.{FnReady}
use Rattle.bodies.specs.Bodies.{slot_at, name_at, return_at, count_at, args_at, fn_at, begin_at, end_at, to_body_at, after_at, BeginReady, KeepsBegun, Begins}
use Rattle.bodies.specs.Bodies as B

went : {A : Type 0} {a : A} {r w : ℕ} {st st₁ : State} {b b₁ : Lent} → Keeps r w st b b₁ (Ok (a, st₁)) → Within r w st b st₁ b₁
went (goes p) = p

-- ── What the parts ask for ──

module _ {image places : List ℕ} {at : ℕ} {st : State} {functions scratch : List ℕ} (r : BeginReady image places at st functions scratch) where
  -- the names outside are hidden, and no room is taken by that
  inner-free : (u : Used) → Free (2 * count_at image at) (inner_of (with_used st u)) scratch
  inner-free u = record { between = omega (arith, r.free.between); few = r.free.few; ends = r.free.ends; long = r.free.long }

  pub fn-ready : (u : Used) {inner : State} {slot ret count : ℕ} → inner ≡ inner_of (with_used st u) → slot ≡ slot_at image at → ret ≡ word_at image (at + 3) → count ≡ count_at image at
      → FnReady image places inner functions scratch (slot + 1) ret (at + 5) count
  fn-ready u ei es er ec = rw (ei, es, er, ec) (record {
    arguments = record { arguments = r.arguments; free = inner-free u; slots = omega (arith, r.slots) };
    type = r.ret;
    rows = record { after = r.rows.after };
  })

  pub few-names : st.names.base + st.names.depth < 2 ^ 40
  few-names = omega (arith, free-top r.free)

  pub entries-there : entries_end functions 0 0 st.functions ≤ length functions
  entries-there = omega (arith, r.rows.after)

-- ── Before the body ──

module _ (c : Ctx) (image : List ℕ) (at n : ℕ) (words : List ℕ) {st : State} {s f t d m e d₁ m₁ : List ℕ} {o : More} {name : ℕ} (en : name ≡ name_at image at) {r : Step Bool}
    (x : Visits (is_new c n name) 0 0 words st (lent s f t d m e o) (lent s f t d₁ m₁ e o) (visit_of st r)) where
  names : {v : Step Bool} → r ≡ v → Visits (is_new c n (name_at image at)) 0 0 words st (lent s f t d m e o) (lent s f t d₁ m₁ e o) (visit_of st v)
  names er = rw (← er, ← en) x

  pub begins-refused : {y : Refused} {q : Visit (Option ℕ)} → r ≡ Err y → IsErrAnd q (λ z. z ≡ y) → Begins c image at n words st (lent s f t d m e o) (lent s f t d₁ m₁ e o) q
  unfolding fn_to_body visit_of visited
  begins-refused {q = q} er k = rw (passed q k) (record { step = rw (names er).step refl; keeps = B.stops })

  pub begins-met : {new : Bool} {u : Used} → r ≡ Ok (new, u) → new ≡ false → Begins c image at n words st (lent s f t d m e o) (lent s f t d₁ m₁ e o) (Ok (None, with_used st u))
  unfolding fn_to_body visit_of visited when
  begins-met er k = record { step = rw ((names er).step, k) refl; keeps = B.met (went (names er).keeps) }

  module _ {new : Bool} {u : Used} (er : r ≡ Ok (new, u)) (k : new ≡ true) where
    -- a new name has changed nothing
    same : whole words (with_used st u) (lent s f t d₁ m₁ e o) ≡ whole words st (lent s f t d m e o)
    unfolding visit_of visited
    same = new_same c n (name_at image at) (whole words st (lent s f t d m e o)) ((names er).step ∙ rw k refl)

    hidden : whole words (inner_of (with_used st u)) (lent s f t d₁ m₁ e o) ≡ whole words (inner_of st) (lent s f t d m e o)
    unfolding env_up
    hidden = ap (λ w. with_env w []) same

    module _ {inner : State} {slot ret count : ℕ} (ei : inner ≡ inner_of (with_used st u)) (es : slot ≡ slot_at image at) (et : ret ≡ word_at image (at + 3)) (ec : count ≡ count_at image at)
        {b₂ : Lent} {v : Visit ℕ} (y : Visits (fn_begin c n (slot + 1) name (type_of image ret) (args_from image (at + 5) count)) (2 * count) (3 + 2 * count) words inner
        (lent s f t d₁ m₁ e o) b₂ v) where
      part : Visits (begin_at c image at n) (2 * count_at image at) (3 + 2 * count_at image at) words (inner_of (with_used st u)) (lent s f t d₁ m₁ e o) b₂ v
      part = rw (← ei, ← es, ← en, ← et, ← ec) y

      begun : begin_at c image at n (whole words (inner_of st) (lent s f t d m e o)) ≡ visited words b₂ v
      begun = ap (begin_at c image at n) (sym hidden) ∙ part.step

      to_body : to_body_at c image at n (whole words st (lent s f t d m e o)) ≡ next (visited words b₂ v) (λ ret. return (Some ret))
      unfolding fn_to_body visit_of visited when env_up
      to_body = rw ((names er).step, k) (ap (λ w. next (begin_at c image at n (with_env w [])) (λ ret. return (Some ret))) same ∙ ap (λ z. next z (λ ret. return (Some ret))) begun)

      pub begins-stops : {z : Refused} {q : Visit (Option ℕ)} → v ≡ Err z → IsErrAnd q (λ a. a ≡ z) → Begins c image at n words st (lent s f t d m e o) b₂ q
      unfolding visited
      begins-stops {q = q} ev h = rw (passed q h) (record { step = to_body ∙ rw ev refl; keeps = B.stops })

      pub begins-due : {w : ℕ} {st₂ : State} → v ≡ Ok (w, st₂) → Begins c image at n words st (lent s f t d m e o) b₂ (Ok (Some w, st₂))
      unfolding visited
      begins-due {w} {st₂} ev = record {
        step = to_body ∙ rw ev refl;
        keeps = B.due (record { step = begun ∙ ap (visited words b₂) ev; keeps = from_before (rw ev at part.keeps) });
      }
        where
          from_before : Keeps (2 * count_at image at) (3 + 2 * count_at image at) (inner_of (with_used st u)) (lent s f t d₁ m₁ e o) b₂ (Ok (w, st₂))
              → Keeps (2 * count_at image at) (3 + 2 * count_at image at) (inner_of st) (lent s f t d m e o) b₂ (Ok (w, st₂))
          from_before (goes p) = goes (within-from p (omega arith) (omega arith))

-- ── After the body ──

pub ends-visit : (c : Ctx) (image : List ℕ) (at n ret : ℕ) (computed : Answer)
    (inside before : State) {slot name expr : ℕ} {left : State} {s t d m s' d' m' : List ℕ} {step : Step Answer} {v : Visit Answer}
    → slot ≡ slot_at image at → name ≡ name_at image at → expr ≡ word_at image (at + 3) → left ≡ left_of inside before → v ≡ visit_of left step
    → Steps (fn_end c n slot name (type_of image expr) ret computed) s t d m inside.used s' t d' m' step
    → (words f e : List ℕ) (o : More) → Visits (end_at c image at n ret computed) 0 0 words (left_of inside before) (lent s f t d m e o) (lent s' f t d' m' e o) v
ends-visit c image at n ret computed inside before es en ex el ev x words f e o = rw (ev, el, ← es, ← en, ← ex) (steps-visits x words f e o)

-- ── The body ──

keeps-after : {r₁ w₁ r₂ w₂ : ℕ} {st st₁ : State} {b b₁ b₂ : Lent} {v : Visit Answer} → Within r₁ w₁ st b st₁ b₁ → Keeps r₂ w₂ st₁ b₁ b₂ v → Keeps (r₁ + r₂) (w₁ + w₂) st b b₂ v
keeps-after p (goes q) = goes (within-then p q)
keeps-after p stops = stops

-- the body's nodes have answered: the block's frame ends, then the rest follows with the names of before
abbrev ended : Ctx → (image : List ℕ) → (at n ret : ℕ) → (words : List ℕ) → (inner outer : List Local) → (b : Lent) → Visit Answer → Result World Refusal Answer
ended c image at n ret words inner outer b v =
    next (next (visited words b v) (λ a t. ok a (with_env t inner))) (λ computed t. end_at c image at n ret computed (with_env t outer))

-- the rule is its part up to the body, and what follows
fn-follows : (c : Ctx) (image : List ℕ) (at n : ℕ) (words : List ℕ) (st : State) (b : Lent) (body : Walk Answer) {r : Result World Refusal (Option ℕ)} → to_body_at c image at n (whole words st b) ≡ r
    → fn_at c image at n body (whole words st b) ≡ next r (after_at c image at n body (env_up b.scratch st.names.base st.names.depth))
fn-follows c image at n words st b body e =
    fn-begun c n (slot_at image at) (name_at image at) (return_at image at) (args_at image at) body (whole words st b)
    ∙ ap (λ z. next z (after_at c image at n body (env_up b.scratch st.names.base st.names.depth))) e

module _ (c : Ctx) (image : List ℕ) (at n : ℕ) (words : List ℕ) {st : State} {b b₁ : Lent} where
  -- the name was met: the rule is over
  pub fn-met : {st₁ : State} → Begins c image at n words st b b₁ (Ok (None, st₁)) → (body : Walk Answer) → Visits (fn_at c image at n body) 0 0 words st b b₁ (Ok (Poison, st₁))
  unfolding visited body_and_end
  fn-met {st₁} begun body = record { step = fn-follows c image at n words st b body begun.step; keeps = by begun.keeps }
    where
      by : KeepsBegun c image at n words st b b₁ (Ok (None, st₁)) → Keeps 0 0 st b b₁ (Ok (Poison, st₁))
      by (B.met p) = goes p

  -- it was refused
  pub fn-refused : {e : Refused} → Begins c image at n words st b b₁ (Err e) → (body : Walk Answer) (r w : ℕ) → Visits (fn_at c image at n body) r w words st b b₁ (Err e)
  unfolding visited
  fn-refused begun body r w = record { step = fn-follows c image at n words st b body begun.step; keeps = stops }

  module _ {ret : ℕ} {st₁ : State} (begun : Begins c image at n words st b b₁ (Ok (Some ret, st₁))) (xs : Nodes) {rb wb : ℕ} {b₂ : Lent} {v : Visit Answer}
      (body : Visits (last c (Known c.void) xs) rb wb words st₁ b₁ b₂ v) where
    so_far : fn_at c image at n (block c xs) (whole words st b) ≡ ended c image at n ret words (env_up b₁.scratch st₁.names.base st₁.names.depth) (env_up b.scratch st.names.base st.names.depth) b₂ v
    unfolding visited body_and_end framed
    so_far =
        fn-follows c image at n words st b (block c xs) begun.step
        ∙ ap (λ z. next z (λ computed t. end_at c image at n ret computed (with_env t (env_up b.scratch st.names.base st.names.depth))))
        (block_last c xs (whole words st₁ b₁) ∙ ap (λ z. next z (λ a t. ok a (with_env t (env_up b₁.scratch st₁.names.base st₁.names.depth)))) body.step)

    -- a refusal in it ends all
    pub body-stops : {e : Refused} → v ≡ Err e → (r w : ℕ) → Visits (fn_at c image at n (block c xs)) r w words st b b₂ (Err e)
    unfolding visited
    body-stops q r w = record { step = so_far ∙ rw q refl; keeps = stops }

    inside : {a : Answer} {st₂ : State} → KeepsBegun c image at n words st b b₁ (Ok (Some ret, st₁)) → Keeps rb wb st₁ b₁ b₂ (Ok (a, st₂))
        → Within (2 * count_at image at + rb) (3 + 2 * count_at image at + wb) (inner_of st) b st₂ b₂
    inside (B.due x) k = within-then (went x.keeps) (went k)

    pub fn-visited : {computed : Answer} {st₂ : State} {b₃ : Lent} {v₃ : Visit Answer} → v ≡ Ok (computed, st₂) → Visits (end_at c image at n ret computed) 0 0 words (left_of st₂ st) b₂ b₃ v₃
        → Visits (fn_at c image at n (block c xs)) (2 * count_at image at + rb) (3 + 2 * count_at image at + wb) words st b b₃ v₃
    unfolding visited
    fn-visited {computed} q end =
        let p = inside begun.keeps (rw q at body.keeps) in
        visits-most (omega arith) (omega arith) (record {
          step = so_far ∙ rw q (ap (end_at c image at n ret computed) (outer_names st p words) ∙ end.step);
          keeps = keeps-after (outer_within st p) end.keeps;
        })
