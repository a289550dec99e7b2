-- One more package of the library held. Laws of it. Assumes nothing.
use Rattle.std.specs.Prelude.{ℕ, ◌+◌, ◌-◌, ◌≤◌, ◌<◌, ◌≡◌, refl, Bool, true, false, List, [], ◌∷◌, length, get_or, set, eqb, ltb}
use Rattle.std.proofs.Common.{ap, ◌∙◌, arith, length-set, eqb-true, ltb-true, ltb-false}
use Rattle.std.proofs.Math.Bool.{and-eq-true_iff}
use Rattle.std.proofs.Math.Option.{some, none-ne-some}
use Rattle.std.proofs.Math.ListN.{get_or-eq_default}
use Rattle.std.proofs.lemmas.List.{take-set-le}
use Rattle.tok.specs.Word.{kind_of}
use Rattle.tok.specs.Text.{Texts, name_bytes, same_bytes}
use Rattle.tok.specs.Step.{◌>>◌}
use Rattle.tok.specs.Name.{good_name}
use Rattle.library.specs.Each.{Each}
use Rattle.library.specs.Pool.{Pool}
use Rattle.library.specs.Package.{Package, packages_of, find_package}
use Rattle.library.specs.PackagesRead.{package_at, PackageFine}
use Rattle.library.specs.Accepted.{LibraryFine}
use Rattle.ptype.specs.Words.{void_word}
use Rattle.ast.specs.Node.{Import}
use Rattle.rules.specs.declared.Answer.{Answer}
use Rattle.rules.specs.World.{Ctx, World, Walk}
use Rattle.rules.specs.Steps.{set_known}
use Rattle.rules.specs.Rules.{import_all, node}
use Rattle.state.specs.Store.{env_up, held_from, held_end}
use Rattle.state.specs.World.{More}
use Rattle.visit.specs.declared.State.{State}
use Rattle.visit.specs.Whole.{lent}
use Rattle.visit.specs.Reach.{held_reach}
use Rattle.visit.specs.Within.{top, Within}
use Rattle.visit.specs.Free.{Free, held_low}
use Rattle.visit.specs.StoreLaws.{env-front, held_more, reach-more, reach-end}

-- the state with one more package of the library held
abbrev pub one_held : State → State
one_held st = record { used = st.used; names = st.names; held = st.held - 1; packages = st.packages + 1; functions = st.functions }

-- there is room for a package's word, and the library is accepted
pub record CanHold (T : Texts) (words : List ℕ) (st : State) (scratch : List ℕ) : Type 0 where
  pub fine : LibraryFine T words
  pub free : Free 1 st scratch

-- the same for `count` packages, whose names stand in the image from word `at` on
pub record CanHoldAll (T : Texts) (words : List ℕ) (st : State) (scratch : List ℕ) (at count : ℕ) : Type 0 where
  pub fine : LibraryFine T words
  pub free : Free count st scratch
  pub room : at + count ≤ 8192

-- Node::Import
unfoldable pub import_rule : Ctx → (n slot token : ℕ) → List ℕ → Walk Answer
import_rule c n slot token paths = do
  import_all c n token paths
  set_known slot void_word

pub import_rule_lem : (c : Ctx) (n slot token : ℕ) (paths : List ℕ) (w : World) → node c (Import n slot token paths) w ≡ import_rule c n slot token paths w
unfolding node import_rule
import_rule_lem c n slot token paths w = refl

-- ── A package that is found stands in the library ──

found-named : (T : Texts) (p : Pool) (name : List ℕ) (ps : List Package) (q : Package) → Each (PackageFine p) ps → find_package T name ps ≡ some q → kind_of q.name ≡ 12
unfolding find_package Each good_name
found-named T p name [] q f e = absurd (none-ne-some q e)
found-named T p name (x ∷ ps) q f e = by (same_bytes name (name_bytes T x.name)) (λ z. found-named T p name ps q f.1 z) e
  where
    by : (b : Bool) → (find_package T name ps ≡ some q → kind_of q.name ≡ 12) → elim b [ true ↦ some x | false ↦ find_package T name ps ] ≡ some q → kind_of q.name ≡ 12
    by true rest e =
        let h : x ≡ q = cc e in
        rw (← h) (eqb-true (kind_of x.name) 12 ((and-eq-true_iff (eqb (kind_of x.name) 12) _).0 f.0.name).0)
    by false rest e = rest e

module _ {T : Texts} {words : List ℕ} (fine : LibraryFine T words) where
  pub found-low : (name : List ℕ) (at : ℕ) → find_package T name (packages_of words) ≡ some (package_at words at) → at < 8192
  found-low name at e = by (ltb at (length words)) refl
    where
      by : (b : Bool) → ltb at (length words) ≡ b → at < 8192
      by true h = omega (arith, ltb-true at (length words) h, fine.small)
      by false h =
          let z : get_or words at 0 ≡ 0 = get_or-eq_default words 0 (ltb-false at (length words) h) in
          let k : kind_of (get_or words at 0) ≡ 12 = found-named T _ name (packages_of words) (package_at words at) fine.packages e in
          absurd (omega arith)

-- ── A word before the first package held ──

module _ {st : State} {e : List ℕ} (free : Free 1 st e) where
  pub held-near : held_end e st.held st.packages ≤ 16384
  held-near = omega (arith, reach-end e st.packages st.held, free.ends)

  pub some-room : 0 < st.held
  some-room = omega (arith, free.between)

  pub few-packages : st.packages ≤ 8192
  few-packages = omega (arith, free.few)

  below : st.held - 1 < length e
  below = omega (arith, held_low free, free.long, free.between)

  back : st.held - 1 + 1 ≡ st.held
  back = omega (arith, free.between)

  module _ (w : ℕ) (low : w < 8192) where
    pub held_one : (library : List ℕ) → held_from library (set e (st.held - 1) w) (st.held - 1) (st.packages + 1) ≡ package_at library w ∷ held_from library e st.held st.packages
    held_one library = held_more library e (st.held - 1) st.packages w low below ∙ ap (λ i. package_at library w ∷ held_from library e i st.packages) back

    -- the names in scope stay
    pub names-kept : env_up (set e (st.held - 1) w) st.names.base st.names.depth ≡ env_up e st.names.base st.names.depth
    names-kept = env-front (top st) e (set e (st.held - 1) w) (take-set-le (top st) e (st.held - 1) w (omega (arith, free.between))) st.names.base st.names.depth (omega arith)

    pub within_held : (s f t d m : List ℕ) (o : More) → Within 1 0 st (lent s f t d m e o) (one_held st) (lent s f t d m (set e (st.held - 1) w) o)
    within_held s f t d m o = record {
      base = refl;
      deeper = omega arith;
      taken = omega (arith, free.between);
      written = omega arith;
      names = take-set-le (top st) e (st.held - 1) w (omega (arith, free.between));
      held = reach-more e e (st.held - 1) st.packages w low below ∙ ap (λ i. held_reach e i st.packages) back;
      packages = omega (arith, free.between);
      scratch = length-set e (st.held - 1) w;
      functions = refl;
    }
