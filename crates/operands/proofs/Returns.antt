-- Each return of the functions, from what the callees answered. By rewriting. Assumes nothing.
use Rattle.std.specs.Prelude.{ℕ, ◌+◌, ◌≡◌, List, get_or, Ok}
use Rattle.std.proofs.Math.Decide.{ℕ_discrete}
use Rattle.tok.specs.Text.{Texts}
use Rattle.library.specs.Package.{Package}
use Rattle.ast.specs.Image.{record_kind}
use Rattle.ast.specs.TypeExpr.{type_of}
use Rattle.rules.specs.declared.Answer.{Answer}
use Rattle.rules.specs.declared.Answer.TheVariants.{Known, Poison}
use Rattle.rules.specs.World.{Walk}
use Rattle.rules.specs.Steps.{type_from_expr}
use Rattle.rules.specs.Operators.{fuse, unary, cast}
use Rattle.rules.specs.Rules.{field}
use Rattle.state.specs.Context.{ctx}
use Rattle.state.specs.World.{More, Step, Steps}
use Rattle.visit.specs.declared.State.{State}
use Rattle.visit.specs.Whole.{Lent, Visit, lent}
use Rattle.visit.specs.Within.{Visits}
use Rattle.visit.specs.Plain.{visit_of, steps-visits}
use Rattle.visiting.specs.Then.{visits-known, visits-poison}
use Rattle.names.specs.Bound.{Bindable, let_end}
use Rattle.operands.specs.Ends.{one_end, one_room, bin_end, cast_type, cast_end}
use Rattle.operands.specs.Parts.{by-unary, by_let, by_field}
use Rattle.operands.specs.Ready.{OneReady}

-- ── Bin ──

module _ (T : Texts) (image : List ℕ) (n at : ℕ) (st : State) (left right : Answer) where
  pub bin-left : left ≡ Poison → (ls : List Package) (v : ℕ) (words s f t d m e : List ℕ) (o : More)
      → Visits (bin_end (ctx T ls v) image n at left right) 0 0 words st (lent s f t d m e o) (lent s f t d m e o) (Ok (Poison, st))
  unfolding bin_end
  bin-left el ls v words s f t d m e o = visits-poison _ words st (lent s f t d m e o) el

  pub bin-right : {i : ℕ} → left ≡ Known i → right ≡ Poison → (ls : List Package) (v : ℕ) (words s f t d m e : List ℕ) (o : More)
      → Visits (bin_end (ctx T ls v) image n at left right) 0 0 words st (lent s f t d m e o) (lent s f t d m e o) (Ok (Poison, st))
  unfolding bin_end
  bin-right el er ls v words s f t d m e o = visits-known _ el (visits-poison _ words st (lent s f t d m e o) er)

  pub bin_fused : {i j slot token op : ℕ} {s t d m s' d' m' : List ℕ} {r : Step Answer} {x : Visit Answer} → left ≡ Known i → right ≡ Known j
      → slot ≡ get_or image (at + 1) 0 → token ≡ get_or image (at + 2) 0 → op ≡ get_or image (at + 3) 0
      → ((ls : List Package) (v : ℕ) → Steps (fuse (ctx T ls v) n slot token op i j) s t d m st.used s' t d' m' r) → x ≡ visit_of st r
      → (ls : List Package) (v : ℕ) (words f e : List ℕ) (o : More) → Visits (bin_end (ctx T ls v) image n at left right) 0 0 words st (lent s f t d m e o) (lent s' f t d' m' e o) x
  unfolding bin_end
  bin_fused el er es et eo p ex ls v words f e o = rw ex (visits-known _ el (visits-known _ er (steps-visits (rw (es, et, eo) at (p ls v)) words f e o)))

-- ── Cast ──

module _ (T : Texts) (image : List ℕ) (n at : ℕ) (st : State) (to : ℕ) (answer : Answer) where
  pub cast-poisoned : answer ≡ Poison → (ls : List Package) (v : ℕ) (words s f t d m e : List ℕ) (o : More)
      → Visits (cast_end (ctx T ls v) image n at to answer) 0 0 words st (lent s f t d m e o) (lent s f t d m e o) (Ok (Poison, st))
  unfolding cast_end
  cast-poisoned ea ls v words s f t d m e o = visits-poison _ words st (lent s f t d m e o) ea

  pub cast-done : {i slot token : ℕ} {s t d m s' d' m' : List ℕ} {r : Step Answer} {x : Visit Answer} → answer ≡ Known i → slot ≡ get_or image (at + 1) 0 → token ≡ get_or image (at + 2) 0
      → ((ls : List Package) (v : ℕ) → Steps (cast (ctx T ls v) n slot token i to) s t d m st.used s' t d' m' r) → x ≡ visit_of st r
      → (ls : List Package) (v : ℕ) (words f e : List ℕ) (o : More) → Visits (cast_end (ctx T ls v) image n at to answer) 0 0 words st (lent s f t d m e o) (lent s' f t d' m' e o) x
  unfolding cast_end
  cast-done ea es et p ex ls v words f e o = rw ex (visits-known _ ea (steps-visits (rw (es, et) at (p ls v)) words f e o))

module _ (image : List ℕ) (n at : ℕ) (st : State) {expr : ℕ} (ee : expr ≡ get_or image (at + 4) 0) where
  pub cast-typed : {t t' : List ℕ} {r : Step ℕ} {x : Visit ℕ}
      → ((T : Texts) (ls : List Package) (v : ℕ) (s d m : List ℕ) → Steps (type_from_expr (ctx T ls v) n (type_of image expr)) s t d m st.used s t' d m r) → x ≡ visit_of st r
      → (T : Texts) (ls : List Package) (v : ℕ) (words s f d m e : List ℕ) (o : More) → Visits (cast_type (ctx T ls v) image n at) 0 0 words st (lent s f t d m e o) (lent s f t' d m e o) x
  unfolding cast_type
  cast-typed p ex T ls v words s f d m e o = rw (ex, ← ee) (steps-visits (p T ls v s d m) words f e o)

-- ── One operand ──

-- the same rule, in the same room
visits_as : {rule rule' : Walk Answer} {r r' : ℕ} {words : List ℕ} {st : State} {b b' : Lent} {x : Visit Answer} → rule ≡ rule' → r ≡ r' → Visits rule' r' 0 words st b b' x
    → Visits rule r 0 words st b b' x
visits_as e f p = rw (e, f) p

module _ (T : Texts) (image : List ℕ) (n at : ℕ) (st : State) (answer : Answer) where
  pub one_let : {slot name : ℕ} {s t d m e s' d' m' e' : List ℕ} {x : Visit Answer} → record_kind image at ≡ 4 → slot ≡ get_or image (at + 1) 0 → name ≡ get_or image (at + 2) 0
      → ((words f t : List ℕ) (o : More) → Visits (let_end n slot name answer) 2 0 words st (lent s f t d m e o) (lent s' f t d' m' e' o) x)
      → (ls : List Package) (v : ℕ) (words f : List ℕ) (o : More) → Visits (one_end (ctx T ls v) image n at answer) (one_room image at) 0 words st (lent s f t d m e o) (lent s' f t d' m' e' o) x
  unfolding one_end one_room
  one_let {t = t} q es en p ls v words f o = visits_as (by_let _ _ _ q) (by_let 0 2 0 q) (rw (es, en) at (p words f t o))

  pub one-unary : {i slot token op : ℕ} {s t d m s' d' m' : List ℕ} {r : Step Answer} {x : Visit Answer} → record_kind image at ≡ 3 → answer ≡ Known i
      → slot ≡ get_or image (at + 1) 0 → token ≡ get_or image (at + 2) 0 → op ≡ get_or image (at + 3) 0
      → ((ls : List Package) (v : ℕ) → Steps (unary (ctx T ls v) n slot token op i) s t d m st.used s' t d' m' r) → x ≡ visit_of st r
      → (e : List ℕ) (ls : List Package) (v : ℕ) (words f : List ℕ) (o : More)
      → Visits (one_end (ctx T ls v) image n at answer) (one_room image at) 0 words st (lent s f t d m e o) (lent s' f t d' m' e o) x
  unfolding one_end one_room
  one-unary q ea es et eo p ex e ls v words f o =
      visits_as (by-unary _ _ _ q) (by-unary 0 2 0 q) (rw ex (visits-known _ ea (steps-visits (rw (es, et, eo) at (p ls v)) words f e o)))

  pub one_field : {i slot name : ℕ} {s t d m s' d' m' : List ℕ} {r : Step Answer} {x : Visit Answer} → (record_kind image at ≡ 3 → ⊥) → (record_kind image at ≡ 4 → ⊥) → answer ≡ Known i
      → slot ≡ get_or image (at + 1) 0 → name ≡ get_or image (at + 3) 0
      → ((ls : List Package) (v : ℕ) → Steps (field (ctx T ls v) n slot name i) s t d m st.used s' t d' m' r) → x ≡ visit_of st r
      → (e : List ℕ) (ls : List Package) (v : ℕ) (words f : List ℕ) (o : More)
      → Visits (one_end (ctx T ls v) image n at answer) (one_room image at) 0 words st (lent s f t d m e o) (lent s' f t d' m' e o) x
  unfolding one_end one_room
  one_field a b ea es en p ex e ls v words f o =
      visits_as (by_field _ _ _ a b) (by_field 0 2 0 a b) (rw ex (visits-known _ ea (steps-visits (rw (es, en) at (p ls v)) words f e o)))

  pub one-poisoned : (record_kind image at ≡ 4 → ⊥) → answer ≡ Poison → (ls : List Package) (v : ℕ) (words s f t d m e : List ℕ) (o : More)
      → Visits (one_end (ctx T ls v) image n at answer) (one_room image at) 0 words st (lent s f t d m e o) (lent s f t d m e o) (Ok (Poison, st))
  unfolding one_end one_room
  one-poisoned b ea ls v words s f t d m e o =
      elim (ℕ_discrete (record_kind image at) 3) [
        | yes q ↦ visits_as (by-unary _ _ _ q) (by-unary 0 2 0 q) (visits-poison _ words st (lent s f t d m e o) ea)
        | no a ↦ visits_as (by_field _ _ _ a b) (by_field 0 2 0 a b) (visits-poison _ words st (lent s f t d m e o) ea)
      ]

-- a Let's name can be bound
pub let_binds : {image : List ℕ} {at : ℕ} {st : State} {e : List ℕ} {name : ℕ} → OneReady image at st e → record_kind image at ≡ 4 → name ≡ get_or image (at + 2) 0 → Bindable st e name
let_binds r q en = rw en (r.binds q)
