-- The returns of writing the package of an Extern. By rewriting. Assumes nothing.
use Rattle.std.specs.Prelude.{Ok, Err}
use Rattle.std.specs.Result.{IsErrAnd}
use Prim.Native.Nat.{ℕ, suc, ◌+◌, ◌-◌, ◌≤◌, ◌<◌, max}
use mathlib.Core.Path.{◌≡◌, refl, sym, ap, ◌∙◌}
use mathlib.Core.List.{List, [], ◌∷◌}
use native.Mathlib.Omega.{arith}
use native.Mathlib.Nat.{add-zero}
use lib.ListN.{get_or, set, length, take}
use lib.Seq.{get_or-set_same, take-take}
use borrow.Author.Tests.{le-ltb}
use Rattle.tok.specs.Text.{Texts}
use Rattle.ptype.specs.Add.{write}
use Rattle.ptype.specs.Words.{void_word}
use Rattle.library.specs.Package.{Package, pkg}
use Rattle.ast.specs.Node.{externs_from}
use Rattle.rules.specs.declared.Answer.{Answer}
use Rattle.rules.specs.declared.Answer.TheVariants.{Known}
use Rattle.rules.specs.Steps.{Done, hold, set_known}
use Rattle.tworuns.specs.Written.{get_d_written}
use Rattle.state.specs.declared.Used.{Used}
use Rattle.state.specs.declared.Refusal.{Refusal}
use Rattle.state.specs.Reporting.{passed}
use Rattle.state.specs.Context.{ctx}
use Rattle.state.specs.Signatures.{entries_from}
use Rattle.state.specs.Store.{extern_at, held_at, held_from}
use Rattle.state.specs.World.{More, Step, stepped, with_answer}
use Rattle.visit.specs.declared.State.{State}
use Rattle.visit.specs.Whole.{Visit, lent, rest_of, visited}
use Rattle.visit.specs.Reach.{held_reach}
use Rattle.visit.specs.Within.{top, Visits, goes, stops}
use Rattle.room_laws.specs.Room.{extern_words}
use Rattle.visit.specs.Free.{held_low}
use Rattle.visit.specs.StoreLaws.{get_d_front, env-front, held-past, reach-past, reach-after}
use Rattle.externs.specs.Framed.{Framed, framed-write, framed-set, framed_then}
use Rattle.extern_package.specs.Packing.{extern_held, extern_rule, FunctionsRoom, ExternReady, WritesFunctions, functions-after, extern-size}

module _ {image places : List ℕ} {st : State} {e : List ℕ} {from end count : ℕ} (h : ExternReady image places st e from end count) where
  pub in_order : from ≤ end
  in_order = functions-after h.functions.functions

  sized : extern_words (externs_from image from count) ≡ 3 + (end - from)
  sized = extern-size count h.functions.functions

  pub room-below : top st + (3 + (end - from)) ≤ st.held
  room-below = omega (arith, sized, h.free.between)

  pub held-most : st.held ≤ 8192
  held-most = held_low h.free

  module _ (name : ℕ) {size start : ℕ} (ez : size ≡ 3 + (end - from)) (es : start ≡ st.held - size) {first : ℕ}
      (ef : first ≡ 8192 + size) {e₁ e₂ : List ℕ} (e1 : e₁ ≡ write e start (first ∷ name ∷ []))
      (e2 : e₂ ≡ set e₁ (start + 2) count) where
    ending : start + (3 + (end - from)) ≡ st.held
    ending = omega (arith, room-below)

    above : top st ≤ start
    above = omega (arith, room-below)

    head : Framed start (start + 2) e e₁
    head = rw e1 (framed-write e start (start + 2) (first ∷ name ∷ []) (omega arith))

    third : Framed (start + 2) (start + 3) e₁ e₂
    third = rw e2 (framed-set e₁ (start + 2) (start + 3) count (omega arith))

    fits : start + 3 ≤ length e
    fits = omega (arith, ending, held-most, h.free.long)

    first_word : get_or e₁ start 0 ≡ first
    first_word = rw e1 (ap (λ j. get_or (write e start (first ∷ name ∷ [])) j 0) (sym (add-zero start)) ∙ get_d_written e start (first ∷ name ∷ []) (omega (arith, fits)) 0 (omega arith))

    second_word : get_or e₁ (start + 1) 0 ≡ name
    second_word = rw e1 (get_d_written e start (first ∷ name ∷ []) (omega (arith, fits)) 1 (omega arith))

    pub functions-room : FunctionsRoom image places e₂ from (start + 3) count
    functions-room = record {
      end = end;
      functions = h.functions;
      room = omega (arith, ending, held-most);
      long = omega (arith, h.free.long, head.long, third.long);
    }

    module _ (n slot : ℕ) {t t' e' : List ℕ} (went : Step Done) (p : WritesFunctions image n from (start + 3) count t st.used e₂ t' e' went) where
      pub package_refused : {x : Refusal} {q : Visit Answer} {s s' : List ℕ} → went ≡ Err x → IsErrAnd q (λ y. y ≡ x) → (T : Texts) (ls : List Package) (v : ℕ) (words f d m : List ℕ) (o : More)
          → Visits (extern_rule (ctx T ls v) n slot name (externs_from image from count)) (extern_words (externs_from image from count)) 0 words st (lent s f t d m e o) (lent s' f t' d m e' o) q
      unfolding extern_rule with_answer stepped visited
      package_refused {q = q} {s = s} eg k T ls v words f d m o = rw (passed q k) (record {
        step = rw ((p.steps T ls v s d m).step (rest_of words st (lent s f t d m e o)), eg) refl;
        keeps = stops;
      })

      body : Framed (start + 3) (start + 3 + (end - from)) e₂ e'
      body = p.frame end h.functions.functions

      whole-frame : Framed start st.held e e'
      whole-frame = framed_then (omega arith) (omega (arith, ending)) head (framed_then {c = start + 3} {d = st.held} (omega arith) (omega (arith, ending)) third (rw ends at body))
        where
          ends : start + 3 + (end - from) ≡ st.held
          ends = omega (arith, ending)

      kept : (j : ℕ) → j < start + 3 → get_or e' j 0 ≡ get_or e₂ j 0
      kept j l = get_d_front (start + 3) e₂ e' body.front j l

      kept-two : (j : ℕ) → j < start + 2 → get_or e' j 0 ≡ get_or e₁ j 0
      kept-two j l = kept j (omega arith) ∙ get_d_front (start + 2) e₁ e₂ third.front j l

      size-there : get_or e' start 0 ≡ 8192 + (3 + (end - from))
      size-there = kept-two start (omega arith) ∙ first_word ∙ ef ∙ ap (λ x. 8192 + x) ez

      name-there : get_or e' (start + 1) 0 ≡ name
      name-there = kept-two (start + 1) (omega arith) ∙ second_word

      count-there : get_or e' (start + 2) 0 ≡ count
      count-there = kept (start + 2) (omega arith) ∙ rw e2 (get_or-set_same e₁ (start + 2) count 0 (omega (arith, fits, head.long)))

      held-extern : (words : List ℕ) → held_from words e' start (st.packages + 1) ≡ pkg name (entries_from e' 0 (start + 3) count) ∷ held_from words e st.held st.packages
      unfolding held_from held_at extern_at
      held-extern words =
          let a : st.packages + 1 ≡ suc st.packages = omega arith in
          let b : start + 1 + 1 ≡ start + 2 = omega arith in
          let c : start + 1 + 2 ≡ start + 3 = omega arith in
          let d : start + (8192 + (3 + (end - from)) - 8192) ≡ st.held = omega (arith, ending) in
          rw (a, size-there, le-ltb (8192 + (3 + (end - from))) 8192 (omega arith), b, c, name-there, count-there, d)
          (ap (λ ps. pkg name (entries_from e' 0 (start + 3) count) ∷ ps) (held-past e e' whole-frame.back words st.held st.packages (omega arith)))

      -- its entries end where the packages held begin
      reach-extern : {done : Done} {after : Used} → went ≡ Ok (done, after) → held_reach e' start (st.packages + 1) ≡ held_reach e st.held st.packages
      unfolding held_reach
      reach-extern eg =
          let a : st.packages + 1 ≡ suc st.packages = omega arith in
          let d : start + (8192 + (3 + (end - from)) - 8192) ≡ st.held = omega (arith, ending) in
          rw (a, size-there, le-ltb (8192 + (3 + (end - from))) 8192 (omega arith), d, count-there, p.ends eg end h.functions.functions)
          (ap (max (start + 3 + (end - from))) (reach-past e e' whole-frame.back st.held st.packages (omega arith)) ∙ omega (arith, reach-after e st.packages st.held, ending))

      front : take (top st) e' ≡ take (top st) e
      front = sym (take-take (top st) start e' above) ∙ ap (take (top st)) whole-frame.front ∙ take-take (top st) start e above

      pub package_done : {done : Done} {after : Used} {s s' : List ℕ} → went ≡ Ok (done, after) → s' ≡ set s slot void_word → (T : Texts) (ls : List Package) (v : ℕ) (words f d m : List ℕ) (o : More)
          → Visits (extern_rule (ctx T ls v) n slot name (externs_from image from count)) (extern_words (externs_from image from count)) 0 words st
          (lent s f t d m e o) (lent s' f t' d m e' o) (Ok (Known slot, extern_held st after start))
      unfolding extern_rule with_answer stepped visited hold set_known
      package_done {after = after} {s = s} eg eq T ls v words f d m o = record {
        step = rw ((p.steps T ls v s d m).step (rest_of words st (lent s f t d m e o)), eg, eq, held-extern words, env-front (top st) e e' front st.names.base st.names.depth (omega arith)) refl;
        keeps = goes (record {
          base = refl;
          deeper = omega arith;
          taken = omega (arith, ending, sized);
          written = omega arith;
          names = front;
          held = reach-extern eg;
          packages = omega (arith, ending);
          scratch = whole-frame.long;
          functions = refl;
        });
      }
