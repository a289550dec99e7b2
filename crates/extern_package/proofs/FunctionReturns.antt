-- The turns and returns of writing the functions of an Extern. By rewriting. Assumes nothing.
use Rattle.std.specs.Prelude.{Ok, Err}
use Rattle.std.specs.Result.{IsErrAnd}
use Prim.Native.Nat.{ℕ, zero, suc, ◌+◌, ◌*◌, ◌-◌, ◌≤◌, ◌<◌}
use mathlib.Core.Path.{◌≡◌, refl, sym, ap, ◌∙◌}
use mathlib.Core.List.{List, [], ◌∷◌, ◌++◌, append_assoc}
use native.Mathlib.Omega.{arith}
use lib.ListN.{get_or}
use Rattle.tok.specs.Text.{Texts}
use Rattle.tok.specs.Step.{ok, for_each}
use Rattle.library.specs.Package.{Package}
use Rattle.ast.specs.Image.{word_at}
use Rattle.ast.specs.Node.{externs_from}
use Rattle.image_laws.specs.RecordWords.{FunctionsWords, no_functions, function_words}
use Rattle.image_laws.proofs.Accepted.{counts_in}
use Rattle.rules.specs.Steps.{Done}
use Rattle.rules.specs.Rules.{extern_fn}
use Rattle.state.specs.declared.Used.{Used}
use Rattle.state.specs.declared.Refusal.{Refusal}
use Rattle.state.specs.Reporting.{passed}
use Rattle.state.specs.Context.{ctx}
use Rattle.state.specs.Signatures.{entry_at, entry_end, entries_from, entries_end}
use Rattle.state.specs.World.{Step, Steps, stepped, with_answer, world}
use Rattle.visit.specs.StoreLaws.{get_d_front, entry-end, ends-front, entries-front, ends_last}
use Rattle.externs.specs.Framed.{Framed, framed-same, framed_then, framed_wide, each-ok, each-stops, one_ok, one-stops}
use Rattle.externs.specs.Entries.{FunctionRoom, function_in, EntersExtern}
use Rattle.extern_package.specs.Packing.{Functions, FunctionsRoom, WritesFunctions, functions-after, functions-first, functions-over, first-room}

-- functions end at one place
functions-same : {text text' image : List ℕ} {end end' at k : ℕ} → FunctionsWords (counts_in text image) image end at k → FunctionsWords (counts_in text' image) image end' at k → end ≡ end'
functions-same (no_functions e) (no_functions e') = sym e ∙ e'
functions-same (function_words a b c rest) (function_words a' b' c' rest') = functions-same rest rest'

entries-last : (l : List ℕ) (at k : ℕ) → entries_from l 0 at (suc k) ≡ entries_from l 0 at k ++ (entry_at l 0 (entries_end l 0 at k) ∷ [])
unfolding entries_from entries_end
entries-last l at zero = refl
entries-last l at (suc k) = ap (λ fs. entry_at l 0 at ∷ fs) (entries-last l (entry_end l 0 at) k)

-- k functions are written: the next stands at word `place` of the image, its entry at word `to` of scratch
pub record Packing (image places : List ℕ) (n from at count end k : ℕ) (t₀ : List ℕ) (u₀ : Used) (e₀ t : List ℕ) (u : Used) (e : List ℕ) (place to : ℕ) : Type 0 where
  pub left : Functions image places place end (count - k)
  pub split : (j : ℕ) → externs_from image from (k + j) ≡ externs_from image from k ++ externs_from image place j
  pub steps : (T : Texts) (ls : List Package) (v : ℕ) (s d m : List ℕ)
      → Steps (for_each (λ f. extern_fn (ctx T ls v) n f) (externs_from image from k)) s t₀ d m u₀ s t d m (Ok (entries_from e 0 at k, u))
  pub ends : entries_end e 0 at k ≡ to
  pub places-alike : to + from ≡ at + place
  pub after : from ≤ place
  pub frame : Framed at to e₀ e
  pub most : k ≤ count

module _ {image places : List ℕ} (n from at count : ℕ) (t : List ℕ) (u : Used) {e : List ℕ} (h : FunctionsRoom image places e from at count) where
  pub packing_begin : Packing image places n from at count h.end 0 t u e t u e from at
  unfolding for_each externs_from entries_from entries_end stepped
  packing_begin = record {
    left = let z : count - 0 ≡ count = omega arith in rw z h.functions;
    split = λ j. let z : 0 + j ≡ j = omega arith in rw z refl;
    steps = λ T ls v s d m. record { step = λ rest. refl };
    ends = refl;
    places-alike = refl;
    after = omega arith;
    frame = framed-same at at e;
    most = omega arith;
  }

module _ {image places : List ℕ} {n from at count k : ℕ} {t₀ : List ℕ} {u₀ : Used} {e₀ : List ℕ} (h : FunctionsRoom image places e₀ from at count)
    {t : List ℕ} {u : Used} {e : List ℕ} {place to : ℕ} (i : Packing image places n from at count h.end k t₀ u₀ e₀ t u e place to) where
  room-left : to + (h.end - place) ≤ 8192
  room-left = omega (arith, i.places-alike, h.room, i.after, functions-after i.left.functions)

  pub packing_over : count ≤ k → WritesFunctions image n from at count t₀ u₀ e₀ t e (Ok (tt, u))
  unfolding with_answer
  packing_over l =
      let z : count ≡ k = omega (arith, i.most) in
      record {
        steps = λ T ls v s d m. rw z (i.steps T ls v s d m);
        frame = λ end f. let y = functions-same f h.functions.functions in framed_wide (omega (arith, i.places-alike, functions-after i.left.functions, i.after)) i.frame;
        ends = λ o end f.
            let y = functions-same f h.functions.functions in
            let none : Functions image places place h.end 0 = let w : count - k ≡ 0 = omega arith in rw w at i.left in
            rw z (i.ends ∙ omega (arith, i.places-alike, functions-over none.functions, i.after));
      }

  module _ (l : k < count) where
    next : count - k ≡ suc (count - (k + 1))
    next = omega arith

    here : Functions image places place h.end (suc (count - (k + 1)))
    here = rw next at i.left

    pub function-room : FunctionRoom image places e place to
    function-room = first-room here room-left (omega (arith, h.long, i.frame.long))

    ahead : place + 3 + 2 * word_at image (place + 2) ≤ h.end
    ahead = functions-after (functions-first here.functions)

    pub size_low : place + 3 + 2 * word_at image (place + 2) ≤ 8192
    size_low = omega (arith, ahead, here.low)

    pub to_low : to + 3 + 2 * word_at image (place + 2) ≤ 8192
    to_low = omega (arith, ahead, room-left)

    module _ {t' e' : List ℕ} {r : Step Done} (p : EntersExtern image n place to t u e t' e' r) where
      pub packing_stops : {x : Refusal} {q : Step Done} → r ≡ Err x → IsErrAnd q (λ y. y ≡ x) → WritesFunctions image n from at count t₀ u₀ e₀ t' e' q
      unfolding with_answer stepped externs_from
      packing_stops {x} {q} er h' = rw (passed q h') (record {
        steps = λ T ls v s d m. record {
          step = λ rest.
              let z : count ≡ k + suc (count - (k + 1)) = omega arith in
              ap (λ c. for_each (λ f. extern_fn (ctx T ls v) n f) (externs_from image from c) (world rest s t₀ d m u₀)) z
              ∙ ap (λ xs. for_each (λ f. extern_fn (ctx T ls v) n f) xs (world rest s t₀ d m u₀)) (i.split (suc (count - (k + 1))))
              ∙ each-stops (λ f. extern_fn (ctx T ls v) n f) _ (externs_from image from k) (world rest s t₀ d m u₀) ((i.steps T ls v s d m).step rest)
              (one-stops (λ f. extern_fn (ctx T ls v) n f) (function_in image place) _ ((p.steps T ls v s d m).step rest ∙ rw er refl));
        };
        frame = λ end f. let y = functions-same f h.functions.functions in
            framed_wide (omega (arith, i.places-alike, ahead, i.after))
            (framed_then {a = at} {b = to} {c = to} {d = to + 3 + 2 * word_at image (place + 2)} (omega (arith, i.places-alike, i.after)) (omega arith) i.frame p.frame);
        ends = λ o end f. let no : ◌≡◌ {A = ℕ} 0 1 = cc in absurd (omega arith);
      })

      pub packing_more : {done : Done} {u' : Used} {size w : ℕ} → r ≡ Ok (done, u') → w ≡ get_or image (place + 2) 0 → size ≡ 3 + 2 * w
          → Packing image places n from at count h.end (k + 1) t₀ u₀ e₀ t' u' e' (place + size) (to + size)
      unfolding with_answer stepped externs_from
      packing_more {done} {u'} {size} er ew es =
          let c₀ : ℕ = get_or image (place + 2) 0 in
          let z : size ≡ 3 + 2 * c₀ = es ∙ ap (λ j. 3 + 2 * j) ew in
          let a : place + size ≡ place + 3 + 2 * c₀ = omega arith in
          let b : to + size ≡ to + 3 + 2 * c₀ = omega arith in
          let old : (j : ℕ) → j < to → get_or e' j 0 ≡ get_or e j 0 = λ j q. get_d_front to e e' p.frame.front j q in
          let same : entries_end e' 0 at k ≡ to = ends-front e e' old at k (omega (arith, i.ends)) ∙ i.ends in
          let s₁ : k + 1 ≡ suc k = omega arith in
          rw (a, b) (record {
            left = record { readable = here.readable; functions = functions-first here.functions; low = here.low };
            split = λ j.
                let y : k + 1 + j ≡ k + suc j = omega arith in
                ap (externs_from image from) y ∙ i.split (suc j) ∙ sym (append_assoc (externs_from image from k) (function_in image place ∷ []) (externs_from image (place + 3 + 2 * c₀) j))
                ∙ ap (λ xs. xs ++ externs_from image (place + 3 + 2 * c₀) j) (sym (i.split 1));
            steps = λ T ls v s d m. record {
              step = λ rest.
                  ap (λ xs. for_each (λ f. extern_fn (ctx T ls v) n f) xs (world rest s t₀ d m u₀)) (i.split 1)
                  ∙ each-ok (λ f. extern_fn (ctx T ls v) n f) _ (externs_from image from k) (world rest s t₀ d m u₀) ((i.steps T ls v s d m).step rest)
                  (one_ok (λ f. extern_fn (ctx T ls v) n f) (function_in image place) [] ((p.steps T ls v s d m).step rest ∙ rw er refl))
                  ∙ ap (λ fs. ok fs (world rest s t' d m u'))
                  (sym (ap (entries_from e' 0 at) s₁ ∙ entries-last e' at k ∙ ap (λ fs. fs ++ (entry_at e' 0 (entries_end e' 0 at k) ∷ [])) (entries-front e e' old at k (omega (arith, i.ends)))
                  ∙ ap (λ x. entries_from e 0 at k ++ (entry_at e' 0 x ∷ [])) same));
            };
            ends = ap (entries_end e' 0 at) s₁ ∙ ends_last e' at k ∙ ap (entry_end e' 0) same ∙ entry-end e' to ∙ ap (λ x. to + 3 + 2 * x) p.count;
            places-alike = omega (arith, i.places-alike);
            after = omega (arith, i.after);
            frame = framed_then (omega (arith, i.places-alike, i.after)) (omega arith) i.frame p.frame;
            most = omega arith;
          })
