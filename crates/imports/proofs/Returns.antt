-- Each return of the functions, from what the callees answered. By rewriting. Assumes nothing.
use Rattle.std.specs.Prelude.{ℕ, suc, ◌+◌, ◌-◌, ◌≤◌, ◌<◌, ◌≡◌, refl, List, [], ◌∷◌, get_or, set, Option as Found, Some, None, Ok, Err}
use Rattle.std.proofs.Common.{true, false, true≢false, ◌≢◌, sym, ap, ◌∙◌, arith}
use Rattle.std.proofs.Math.Option.{none, some}
use Rattle.std.specs.Result.{IsErrAnd}
use Rattle.tok.specs.Text.{Texts, name_bytes}
use Rattle.tok.specs.Step.{Result, ok, refused, Refusal as Refused, next, return, for_each, ◌>>=◌}
use Rattle.err.specs.declared.Counts.{Counts}
use Rattle.err.specs.Message.{no_import, empty_import}
use Rattle.err.specs.Report.{Reports}
use Rattle.ptype.specs.Words.{void_word}
use Rattle.library.specs.Package.{Package, packages_of, find_package}
use Rattle.library.specs.PackagesRead.{package_at}
use Rattle.library.specs.Access.{found_in}
use Rattle.ast.specs.Node.{words_from}
use Rattle.rules.specs.World.{Ctx, World, Walk}
use Rattle.rules.specs.declared.Answer.{Answer}
use Rattle.rules.specs.Steps.{Done, skip, on_option, hold, set_known}
use Rattle.rules.specs.Rules.{import_one, import_all}
use Rattle.state.specs.declared.Refusal.{Refusal}
use Rattle.state.specs.Refused.{refusal_of}
use Rattle.state.specs.Context.{ctx}
use Rattle.state.specs.Reporting.{told_of, reports_step, passed}
use Rattle.state.specs.Store.{held_from}
use Rattle.state.specs.World.{More, no_more, Step, Steps}
use Rattle.scope.specs.declared.Held.{Held}
use Rattle.std.specs.Option.{is_some}
use Rattle.scope.specs.Found.{held_of}
use Rattle.visit.specs.declared.State.{State}
use Rattle.visit.specs.Whole.{Lent, Visit, lent, whole, visited}
use Rattle.visit.specs.Within.{Within, within_same, within-then, within-most, Keeps, goes, stops, Visits}
use Rattle.visit.specs.Plain.{visit_of, steps-visits}
use Rattle.visit.specs.Free.{free-less, free-then}
use Rattle.visiting.specs.Then.{visits-stop, visits-then, visits-most}
use Rattle.imports.specs.Holding.{one_held, CanHold, CanHoldAll, import_rule, found-low, held_one, names-kept, within_held}

-- ── One path ──

-- what `import_one` promises of an answer
abbrev OneImported : Texts → (words : List ℕ) → (n path : ℕ) → State → (d m e d' m' e' : List ℕ) → Visit Done → Type 0
OneImported T words n path st d m e d' m' e' r =
    (v : ℕ) (s f t : List ℕ) (o : More) → Visits (import_one (ctx T (packages_of words) v) n path) 1 0 words st (lent s f t d m e o) (lent s f t d' m' e' o) r

module _ (T : Texts) (words : List ℕ) (n path : ℕ) {st : State} {e : List ℕ} (h : CanHold T words st e) where
  already : {p : Package} → some p ≡ find_package T (name_bytes T path) (held_from words e st.held st.packages)
      → (d m : List ℕ) → OneImported T words n path st d m e d m e (Ok (tt, st))
  unfolding import_one on_option visited
  already is d m v s f t o = record { step = rw (← is) refl; keeps = goes (within-most (within_same st (lent s f t d m e o)) (omega arith) (omega arith)) }

  pub import_held : (held : Found Held) → held_of words e held ≡ find_package T (name_bytes T path) (held_from words e st.held st.packages) → is_some held ≡ true
      → (d m : List ℕ) → OneImported T words n path st d m e d m e (Ok (tt, st))
  import_held (Some h) is k = already is
  import_held None is k = absurd (true≢false (sym k))

  empty : (held : Found Held) → is_some held ≡ false → held ≡ None
  empty (Some h) e = absurd (true≢false e)
  empty None e = refl

  -- none is held
  module _ (held : Found Held) (is : held_of words e held ≡ find_package T (name_bytes T path) (held_from words e st.held st.packages)) (eo : is_some held ≡ false)
      {b : List ℕ} (eb : b ≡ name_bytes T path) (found : Found ℕ) (eg : find_package T b (packages_of words) ≡ found_in words found) where
    unheld : find_package T (name_bytes T path) (held_from words e st.held st.packages) ≡ none
    unheld = sym is ∙ ap (λ x. held_of words e x) (empty held eo)

    looked : find_package T (name_bytes T path) (packages_of words) ≡ found_in words found
    looked = rw (← eb) eg

    module _ {at : ℕ} (ef : found ≡ Some at) where
      found-at : find_package T (name_bytes T path) (packages_of words) ≡ some (package_at words at)
      found-at = looked ∙ ap (λ x. found_in words x) ef

      pub place-low : at < 8192
      place-low = found-low h.fine (name_bytes T path) at found-at

      pub import_found_lem : {e' : List ℕ} {st' : State} → e' ≡ set e (st.held - 1) at → st' ≡ one_held st
          → (d m : List ℕ) → OneImported T words n path st d m e d m e' (Ok (tt, st'))
      unfolding import_one on_option hold visited
      import_found_lem ee et d m v s f t o = rw (et, ee) (record {
        step = rw (unheld, found-at, held_one h.free at place-low words, names-kept h.free at place-low) refl;
        keeps = goes (within_held h.free at place-low s f t d m o);
      })

    pub import_none : {d m d' m' : List ℕ} {q : Found Counts} {r : Step Done} {x : Visit Done} → found ≡ None → Reports (no_import path (name_bytes T path)) d m st.used.told d' m' q
        → r ≡ told_of n st.used q tt → x ≡ visit_of st r
        → OneImported T words n path st d m e d' m' e x
    unfolding import_one on_option
    import_none ef p er ex v s f t o =
        let told = steps-visits (reports_step n p) words f e o in
        let none-there : find_package T (name_bytes T path) (packages_of words) ≡ none = looked ∙ ap (λ x. found_in words x) ef in
        rw (ex, er) (visits-most (omega arith) (omega arith) (record { step = rw (unheld, none-there) told.step; keeps = told.keeps }))

-- ── All paths ──

unfoldable pub each : Ctx → (n : ℕ) → List ℕ → Walk Done
each c n ps = do
  _ ← for_each (λ path. import_one c n path) ps
  skip

-- the answers of a list of steps are not looked at
dropped : (r : Result World Refused (List Done)) → next (next r (λ bs. return (tt ∷ bs))) (λ _. skip) ≡ next r (λ _. skip)
dropped (ok bs w) = refl
dropped (refused x) = refl

each_next : (c : Ctx) (n path : ℕ) (ps : List ℕ) (w w' : World) → import_one c n path w ≡ ok tt w' → each c n (path ∷ ps) w ≡ each c n ps w'
unfolding each for_each
each_next c n path ps w w' e = rw e (dropped (for_each (λ path. import_one c n path) ps w'))

each-stops : (c : Ctx) (n path : ℕ) (ps : List ℕ) (w : World) (x : Refused) → import_one c n path w ≡ refused x → each c n (path ∷ ps) w ≡ refused x
unfolding each for_each
each-stops c n path ps w x e = rw e refl

-- at least one path
whole-rule : (image : List ℕ) (n token at count : ℕ) → count ≢ 0 → (cx : Ctx) (w : World) → import_all cx n token (words_from image at count) w ≡ each cx n (words_from image at count) w
unfolding import_all words_from each
whole-rule image n token at count z cx w =
    let s : count ≡ suc (count - 1) = omega arith in
    rw s refl

kept : {r : ℕ} {st st' : State} {b b' : Lent} → Keeps {A = Done} r 0 st b b' (Ok (tt, st')) → Within r 0 st b st' b'
kept (goes w) = w

-- what `import_all` promises of an answer
abbrev AllImported : Texts → (words image : List ℕ) → (n token at count : ℕ) → State → (d m e d' m' e' : List ℕ) → Visit Done → Type 0
AllImported T words image n token at count st d m e d' m' e' r =
    (v : ℕ) (s f t : List ℕ) (o : More) →
    Visits (import_all (ctx T (packages_of words) v) n token (words_from image at count)) count 0 words st (lent s f t d m e o) (lent s f t d' m' e' o) r

-- k of `count` paths are done
pub record Importing (T : Texts) (words image : List ℕ) (n at count : ℕ) (st₀ : State) (d₀ m₀ e₀ : List ℕ) (k : ℕ) (st : State) (d m e : List ℕ) : Type 0 where
  pub same : (v : ℕ) (s f t : List ℕ) (o : More) → each (ctx T (packages_of words) v) n (words_from image at count) (whole words st₀ (lent s f t d₀ m₀ e₀ o))
      ≡ each (ctx T (packages_of words) v) n (words_from image (at + k) (count - k)) (whole words st (lent s f t d m e o))
  pub within : (s f t : List ℕ) (o : More) → Within k 0 st₀ (lent s f t d₀ m₀ e₀ o) st (lent s f t d m e o)
  pub most : k ≤ count

module _ {T : Texts} {words : List ℕ} (image : List ℕ) (n token at count : ℕ) {st₀ : State} {d₀ m₀ e₀ : List ℕ} (c : CanHoldAll T words st₀ e₀ at count) where
  pub import_begin : Importing T words image n at count st₀ d₀ m₀ e₀ 0 st₀ d₀ m₀ e₀
  import_begin = record {
    same = λ v s f t o. let z : at + 0 ≡ at = omega arith in let y : count - 0 ≡ count = omega arith in rw (z, y) refl;
    within = λ s f t o. within_same st₀ (lent s f t d₀ m₀ e₀ o);
    most = omega arith;
  }

  pub import_empty : {d' m' : List ℕ} {q : Found Counts} {r : Step Done} {x : Visit Done} → count ≡ 0 → Reports (empty_import token) d₀ m₀ st₀.used.told d' m' q
      → r ≡ told_of n st₀.used q tt → x ≡ visit_of st₀ r → AllImported T words image n token at count st₀ d₀ m₀ e₀ d' m' e₀ x
  unfolding import_all words_from
  import_empty z p er ex v s f t o = rw (z, ex, er) (steps-visits (reports_step n p) words f e₀ o)

  module _ {k : ℕ} {st : State} {d m e : List ℕ} (i : Importing T words image n at count st₀ d₀ m₀ e₀ k st d m e) where
    pub import_room : k < count → CanHold T words st e
    import_room l = record {
      fine = c.fine;
      free = free-less (free-then {r₁ = k} {r₂ = count - k} (free-less c.free (omega (arith, i.most))) (i.within [] [] [] no_more)) (omega arith);
    }

    pub import_over : count ≤ k → count ≢ 0 → AllImported T words image n token at count st₀ d₀ m₀ e₀ d m e (Ok (tt, st))
    unfolding words_from each for_each visited
    import_over l z v s f t o =
        let y : count - k ≡ 0 = omega arith in
        let over = ap (λ j. each (ctx T (packages_of words) v) n (words_from image (at + k) j) (whole words st (lent s f t d m e o))) y in
        record {
          step = whole-rule image n token at count z (ctx T (packages_of words) v) _ ∙ i.same v s f t o ∙ over;
          keeps = goes (within-most (i.within s f t o) i.most (omega arith));
        }

    module _ {path : ℕ} {d' m' e' : List ℕ} {r : Visit Done} (l : k < count) (ep : path ≡ get_or image (at + k) 0)
        (p : OneImported T words n path st d m e d' m' e' r) where
      first : words_from image (at + k) (count - k) ≡ path ∷ words_from image (at + (k + 1)) (count - (k + 1))
      unfolding words_from
      first =
          let s : count - k ≡ suc (count - (k + 1)) = omega arith in
          let z : at + k + 1 ≡ at + (k + 1) = omega arith in
          rw (s, z, ep) refl

      pub import_stops : {x : Refusal} {q : Visit Done} → r ≡ Err x → IsErrAnd q (λ y. y ≡ x) → count ≢ 0 → AllImported T words image n token at count st₀ d₀ m₀ e₀ d' m' e' q
      unfolding visited
      import_stops {x} {q} er eq z v s f t o = rw (passed q eq) (record {
        step =
            whole-rule image n token at count z (ctx T (packages_of words) v) _ ∙ i.same v s f t o ∙ rw first
            (each-stops (ctx T (packages_of words) v) n path _ _ (refusal_of x) ((p v s f t o).step ∙ rw er refl));
        keeps = stops;
      })

      pub import_more : {st' : State} → r ≡ Ok (tt, st') → Importing T words image n at count st₀ d₀ m₀ e₀ (k + 1) st' d' m' e'
      unfolding visited
      import_more er = record {
        same = λ v s f t o. i.same v s f t o ∙ rw first (each_next (ctx T (packages_of words) v) n path _ _ _ ((p v s f t o).step ∙ rw er refl));
        within = λ s f t o. within-then (i.within s f t o) (kept (rw er at (p 0 s f t o).keeps));
        most = omega arith;
      }

-- ── The node ──

module _ (T : Texts) (words image : List ℕ) (n slot token at count : ℕ) {st : State} {d m e d' m' e' : List ℕ} {r : Visit Done}
    (p : AllImported T words image n token at count st d m e d' m' e' r) where
  pub node-stops : {x : Refusal} {q : Visit Answer} {s : List ℕ} → r ≡ Err x → IsErrAnd q (λ y. y ≡ x)
      → (v : ℕ) (f t : List ℕ) (o : More)
      → Visits (import_rule (ctx T (packages_of words) v) n slot token (words_from image at count)) count 0 words st (lent s f t d m e o) (lent s f t d' m' e' o) q
  unfolding import_rule
  node-stops {q = q} {s = s} er eq v f t o = rw (passed q eq) (visits-stop _ (rw er at (p v s f t o)) count 0)

  pub node_done : {st' : State} {s s' : List ℕ} {w : Step Answer} {q : Visit Answer} → r ≡ Ok (tt, st')
      → ((t d m : List ℕ) → Steps (set_known slot void_word) s t d m st'.used s' t d m w) → q ≡ visit_of st' w
      → (v : ℕ) (f t : List ℕ) (o : More)
      → Visits (import_rule (ctx T (packages_of words) v) n slot token (words_from image at count)) count 0 words st (lent s f t d m e o) (lent s' f t d' m' e' o) q
  unfolding import_rule
  node_done {s = s} er known eq v f t o = rw eq (visits-most (omega arith) (omega arith) (visits-then _ (rw er at (p v s f t o)) (steps-visits (known t d' m') words f e' o)))
