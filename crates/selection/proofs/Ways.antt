-- Selection as the code has it, one law for each way out. Assumes nothing.
use Rattle.std.specs.Prelude.{Ok, Some, None}
use Prim.Native.Nat.{ℕ, suc, ◌+◌, ◌≤◌, ◌<◌}
use mathlib.Core.Path.{◌≡◌, refl, sym, ap, ◌∙◌}
use mathlib.Core.Bool.{Bool, true, false, ◌&&◌}
use mathlib.Core.List.{List, [], ◌∷◌, map}
use native.Mathlib.Omega.{arith}
use native.Mathlib.Numerals.{add-one}
use lib.ListN.{length, get_or, drop, drop_of_length-le, length-map}
use lib.Seq.{drop-cons}
use Rattle.tok.specs.Text.{Texts}
use Rattle.tok.specs.Step.{when}
use Rattle.ptype.specs.Ty.{Ty, same_ty}
use Rattle.ptype.specs.Words.{ty_of}
use Rattle.library.specs.Package.{Param, param, Signature}
use Rattle.rules.specs.declared.Answer.{Answer}
use Rattle.rules.specs.declared.Answer.TheVariants.{Poison}
use Rattle.rules.specs.Steps.{tree, set_known}
use Rattle.rules.specs.Calls.{overload_matches, common_return}
use Rattle.state.specs.declared.Used.{Used}
use Rattle.state.specs.Context.{ctx}
use Rattle.state.specs.World.{world, Step, stepped, Steps}
use Rattle.selection.specs.Candidates.{param_types, position_of, all_return_of, CommonReturn}
use Rattle.selection.proofs.Read.{returns-are}

-- ── Whether one candidate fits ──

lengths_differ : (ts us : List Ty) → (length ts ≡ length us → ⊥) → overload_matches ts us ≡ false
unfolding overload_matches
lengths_differ [] [] n = absurd (n refl)
lengths_differ [] (u ∷ us) n = refl
lengths_differ (t ∷ ts) [] n = refl
lengths_differ (t ∷ ts) (u ∷ us) n = by (lengths_differ ts us (λ e. n (ap suc e))) (same_ty t u)
  where
    by : overload_matches ts us ≡ false → (q : Bool) → (q && overload_matches ts us) ≡ false
    by h true = h
    by h false = refl

-- the first i types are equal
pub record Alike (U : ℕ → Ty) (ps : List Param) (provided : List ℕ) (i : ℕ) : Type 0 where
  pub long : length ps ≡ length provided
  pub so : overload_matches (param_types U ps) (map U provided) ≡ overload_matches (param_types U (drop i ps)) (map U (drop i provided))

module _ (U : ℕ → Ty) (ps : List Param) (provided : List ℕ) where
  pub count-differs : (length ps ≡ length provided → ⊥) → false ≡ overload_matches (param_types U ps) (map U provided)
  count-differs d = sym (lengths_differ (param_types U ps) (map U provided) (λ z. d (sym (length-map ps (λ p. U p.type)) ∙ z ∙ length-map provided U)))

  module _ {i : ℕ} (a : Alike U ps provided i) where
    module _ (l : i < length provided) {w v : ℕ} {q : Bool} (ew : w ≡ (get_or ps i (param 0 0)).type) (ev : v ≡ get_or provided i 0) (eq : q ≡ same_ty (U w) (U v)) where
      split : overload_matches (param_types U ps) (map U provided) ≡ (q && overload_matches (param_types U (drop (suc i) ps)) (map U (drop (suc i) provided)))
      unfolding overload_matches
      split =
          let k : i < length ps = omega (arith, a.long) in
          a.so ∙ rw (drop-cons ps i (param 0 0) k, drop-cons provided i 0 l, eq, ew, ev) refl

      pub alike-more : q ≡ true → Alike U ps provided (i + 1)
      alike-more y = record { long = a.long; so = split ∙ rw (y, add-one) refl }

      pub alike-not : q ≡ false → false ≡ overload_matches (param_types U ps) (map U provided)
      alike-not n = sym (split ∙ rw n refl)

    pub alike_all : length provided ≤ i → true ≡ overload_matches (param_types U ps) (map U provided)
    unfolding overload_matches
    alike_all l =
        let k : length ps ≤ i = omega (arith, a.long) in
        sym (a.so ∙ rw (drop_of_length-le ps {i = i} k, drop_of_length-le provided {i = i} l) refl)

-- ── What is found ──

module _ (U : ℕ → Ty) (provided : List ℕ) (fs left : List Signature) (inv : position_of U (map U provided) fs ≡ position_of U (map U provided) left) where
  pub none-fits : left ≡ [] → None ≡ position_of U (map U provided) fs
  none-fits e = sym (inv ∙ rw e refl)

  module _ {x : Signature} {rest : List Signature} (steps : left ≡ x ∷ rest) where
    pub passed : false ≡ overload_matches (param_types U x.params) (map U provided) → position_of U (map U provided) fs ≡ position_of U (map U provided) rest
    passed n = inv ∙ rw (steps, ← n) refl

    pub taken : true ≡ overload_matches (param_types U x.params) (map U provided) → Some x ≡ position_of U (map U provided) fs
    taken y = sym (inv ∙ rw (steps, ← y) refl)

-- ── The common return type ──

module _ (texts : Texts) (slot : ℕ) (s t : List ℕ) (u : Used) {fs : List Signature} where
  module _ {first : Signature} {rest : List Signature} (e : fs ≡ first ∷ rest) {q : Bool}
      (eq : q ≡ all_return_of (ty_of texts t) (ty_of texts t first.ret) rest) where
    pub common_known : {s' : List ℕ} {r : Step Answer} → q ≡ true → ((t d m : List ℕ) → Steps (set_known slot first.ret) s t d m u s' t d m r)
        → CommonReturn texts slot fs s t u s' r
    unfolding common_return tree when
    common_known y k = record {
      of = λ f others p library void d m.
          let a : first ≡ f = cc in
          let b : rest ≡ others = cc in
          record { step = λ w. rw (← a, ← b, returns-are (ctx texts library void) (world w s t d m u) (ty_of texts t first.ret) rest, ← eq, y) ((k t d m).step w) };
    }

    pub common_poison : q ≡ false → CommonReturn texts slot fs s t u s (Ok (Poison, u))
    unfolding common_return tree when stepped
    common_poison n = record {
      of = λ f others p library void d m.
          let a : first ≡ f = cc in
          let b : rest ≡ others = cc in
          record { step = λ w. rw (← a, ← b, returns-are (ctx texts library void) (world w s t d m u) (ty_of texts t first.ret) rest, ← eq, n) refl };
    }
