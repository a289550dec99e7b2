-- Each return of the functions, from what the callees answered. By rewriting. Assumes nothing.
use Rattle.std.specs.Prelude.{ℕ, ◌+◌, ◌*◌, ◌<◌, ◌≤◌, ◌≡◌, List, [], ◌∷◌, ◌++◌, get_or, length, Result as Answered, Ok, Err}
use Rattle.std.specs.Result.{IsErrAnd}
use Rattle.std.proofs.Math.Path.{refl, ap}
use Rattle.std.proofs.Common.{sym, ◌∙◌, arith}
use Rattle.tok.specs.Word.{payload_of}
use Rattle.tok.specs.Text.{Texts}
use Rattle.tok.specs.Step.{Step as Stepping, Refusal as Refused, next}
use Rattle.ptype.specs.Add.{Buffer, buffer, write, add_record}
use Rattle.places.specs.NodesAt.{NodeReady, part-ready}
use Rattle.spans.specs.Ready.{ValuesReady}
use Rattle.add.specs.declared.AddError.{AddError}
use Rattle.add.specs.declared.Arena.{Arena}
use Rattle.add.specs.Answer.{Added, buffer_of, answer_of, result_of, Allocates}
use Rattle.add.specs.AllocLaws.{allocates_then}
use Rattle.add.specs.Parts.{opened, paired, measured, record_from}
use Rattle.add.specs.PartsLaws.{record_parts_lem}
use Rattle.add.specs.WriteLaws.{write_nil, write-append, length-write}
use Rattle.rules.specs.declared.Answer.{Answer}
use Rattle.rules.specs.Steps.{set_known, on_types}
use Rattle.state.specs.declared.Refusal.{Refusal}
use Rattle.state.specs.declared.Used.{Used}
use Rattle.state.specs.Adding.{added_of, added-step}
use Rattle.state.specs.Reporting.{on-ok}
use Rattle.state.specs.World.{More, Step, Steps}
use Rattle.visit.specs.declared.State.{State}
use Rattle.visit.specs.Whole.{Visit, lent}
use Rattle.visit.specs.Within.{Visits}
use Rattle.visit.specs.Plain.{visit_of, steps-visits}
use Rattle.visiting.specs.Then.{visits-stop, passed_on}
use Rattle.fields.specs.Read.{node_value, pairs_read, read_length, read_more}
use Rattle.fields.specs.Parts.{record_of}

-- ── Pairs read from slots ──

module _ (image slots : List ℕ) (at to : ℕ) (t : List ℕ) where
  -- i pairs are set
  pub record Paired (i : ℕ) (t' : List ℕ) : Type 0 where
    pub so : t' ≡ write t to (pairs_read image slots at i)

  pub none-set : Paired 0 t
  unfolding pairs_read
  none-set = record { so = sym (write_nil t to) }

  pub one_set : {i name number ty : ℕ} {t' t'' : List ℕ} → Paired i t' → name ≡ get_or image (at + 2 * i) 0 → number ≡ get_or image (at + 2 * i + 1) 0 → ty ≡ node_value image slots number
      → t'' ≡ write t' (to + 2 * i) (name ∷ ty ∷ []) → Paired (i + 1) t''
  one_set {i} {name} {number} {ty} {t'} {t''} h en em et e = record {
    so =
        e ∙ ap (λ l. write l (to + 2 * i) (name ∷ ty ∷ [])) h.so
        ∙ ap (λ k. write (write t to (pairs_read image slots at i)) (to + k) (name ∷ ty ∷ [])) (sym (read_length image slots at i))
        ∙ sym (write-append t to (pairs_read image slots at i) (name ∷ ty ∷ []))
        ∙ ap (λ ps. write t to (pairs_read image slots at i ++ ps)) last
        ∙ ap (write t to) (sym (read_more image slots at i));
  }
    where
      last : name ∷ ty ∷ [] ≡ get_or image (at + 2 * i) 0 ∷ node_value image slots (get_or image (at + 2 * i + 1) 0) ∷ []
      last = rw (et, en, em) refl

  pub all_set : {i count : ℕ} {t' : List ℕ} → Paired i t' → i ≤ count → count ≤ i → t' ≡ write t to (pairs_read image slots at count)
  all_set {i} {count} h l k = let e : i ≡ count = omega arith in h.so ∙ ap (λ j. write t to (pairs_read image slots at j)) e

-- the node of a value
pub value-ready : {image places : List ℕ} {n at count i number : ℕ} → ValuesReady image places n at count → i < count → number ≡ get_or image (at + 2 * i + 1) 0 → NodeReady image places number
value-ready h l e = (part-ready h.ready (h.values.each _ l).value e).ready

-- ── A Record added: opened, its pairs set, and measured ──

module _ (count : ℕ) (image slots : List ℕ) (at : ℕ) where
  abbrev pairs : List ℕ
  pairs = pairs_read image slots at count

  abbrev set : (n : ℕ) → Stepping Buffer Refused ℕ
  set n = λ b. next (opened n count b) (paired 0 pairs)

  parts-are : (a : Arena) (T : Texts) (n : ℕ) → add_record T n pairs (buffer_of a) ≡ next (set n (buffer_of a)) (measured T n)
  unfolding record_from
  parts-are a T n = record_parts_lem T n pairs count (read_length image slots at count) (buffer_of a)

  module _ {a a₁ : Arena} where
    pub record-refused : {e : AddError} → Allocates (λ T n. opened n count) a (Err e) a₁ → Allocates (λ T n. add_record T n pairs) a (Err e) a₁
    record-refused g = record { lent = g.lent; keeps = g.keeps; result = λ T n. parts-are a T n ∙ rw (g.result T n) }

    module _ {w q : ℕ} {a₂ : Arena} (g : Allocates (λ T n. opened n count) a (Ok w) a₁) (eq : q ≡ payload_of w)
        (el : a₂.words.ghost_name ≡ a₁.words.ghost_name) (eu : a₂.used ≡ a₁.used) (h : a₂.words.now ≡ write a₁.words.now (q + 1) pairs) where
      set-is : Allocates (λ T n. set n) a (Ok w) a₂
      unfolding paired
      set-is =
          let place : payload_of w + 1 + 2 * 0 ≡ payload_of w + 1 = omega arith in
          record {
            lent = el ∙ g.lent;
            keeps = ap length h ∙ length-write a₁.words.now (q + 1) pairs ∙ g.keeps;
            result = λ T n. rw (g.result T n, h, eu, eq, place);
          }

      pub record-closed : {y : Answered ℕ AddError} → ((T : Texts) (n : ℕ) → measured T n w (buffer_of a₂) ≡ result_of n (answer_of y a₂.used) a₂.words.now)
          → Allocates (λ T n. add_record T n pairs) a y a₂
      record-closed c = allocates_then (λ T n. measured T n) (parts-are a) set-is (record { lent = refl; keeps = refl; result = c })

-- ── Node::Record once its values are visited ──

module _ (n slot : ℕ) (pairs : List ℕ) (st : State) {t t' : List ℕ} (added : Added)
    (p : (T : Texts) (n : ℕ) → add_record T n pairs (buffer t st.used.types) ≡ result_of n added t') where
  of_type : (T : Texts) (s d m : List ℕ) → Steps (on_types (add_record T n pairs)) s t d m st.used s t' d m (added_of n st.used added)
  of_type T s d m = added-step n (add_record T n pairs) added (p T n)

  pub made-refused : {x : Refusal} {s : List ℕ} {v : Visit Answer} → added_of n st.used added ≡ Err x → IsErrAnd v (λ y. y ≡ x)
      → (T : Texts) (words f d m e : List ℕ) (o : More) → Visits (record_of T n slot pairs) 0 0 words st (lent s f t d m e o) (lent s f t' d m e o) v
  unfolding record_of visit_of
  made-refused {x} {s} h k T words f d m e o = passed_on k (visits-stop (set_known slot) (rw h at (steps-visits {st = st} (of_type T s d m) words f e o)) 0 0)

  pub made-set : {word own : ℕ} {u : Used} {s s' : List ℕ} {r : Step Answer} {v : Visit Answer} → added_of n st.used added ≡ Ok (word, u) → own ≡ slot
      → ((t d m : List ℕ) → Steps (set_known own word) s t d m u s' t d m r) → v ≡ visit_of st r
      → (T : Texts) (words f d m e : List ℕ) (o : More) → Visits (record_of T n slot pairs) 0 0 words st (lent s f t d m e o) (lent s' f t' d m e o) v
  unfolding record_of
  made-set {own = own} {s = s} h es q ev T words f d m e o = rw (← es, ev) (steps-visits (on-ok (set_known own) (of_type T s d m) h (q t' d m)) words f e o)
