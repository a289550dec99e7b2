-- The arguments of a function that is defined: what the functions that bind them ask for and say. Laws of it. Assumes nothing.
use Prim.Native.Nat.{ℕ, zero, suc, ◌+◌, ◌*◌, ◌≤◌, ◌<◌}
use Rattle.std.specs.Prelude.{◌≡◌, eqb, Ok, Err}
use Rattle.std.proofs.Math.Path.{refl}
use Rattle.std.proofs.Common.{ap}
use Rattle.std.proofs.Math.Bool.{and-eq-true_iff}
use Rattle.std.proofs.Math.Option.{some}
use mathlib.Core.List.{List, [], ◌∷◌, ◌++◌}
use native.Mathlib.Omega.{arith}
use Rattle.std.proofs.Math.ListN.{length}
use borrow.Author.Tests.{eqb-true}
use Rattle.tok.specs.Word.{kind_of}
use Rattle.tok.specs.Name.{good_name}
use Rattle.tok.specs.Step.{Result, ok, refused, Refusal, next, return}
use Rattle.ast.specs.Image.{word_at, type_count}
use Rattle.ast.specs.TypeExpr.{Arg, args_from}
use Rattle.image_laws.specs.Many.{Each}
use Rattle.image_laws.specs.RecordWords.{Pair}
use Rattle.library.specs.Package.{Param, param, params_from}
use Rattle.places.specs.Readable.{Readable}
use Rattle.type_expr.specs.Ready.{TypeReady}
use Rattle.rules.specs.World.{Ctx, World, Walk}
use Rattle.rules.specs.Steps.{Done, set_known, env_insert, type_from_expr}
use Rattle.rules.specs.Rules.{fn_arguments}
use Rattle.state.specs.declared.Refusal.{Refusal as Refused}
use Rattle.state.specs.World.{with_answer}
use Rattle.visit.specs.declared.State.{State}
use Rattle.visit.specs.Whole.{Lent, Visit}
use Rattle.visit.specs.Within.{top, Visits}
use Rattle.visit.specs.Free.{Free}

-- ── What is asked for ──

-- k names and types in an accepted image, from word `at` on
pub record Arguments (image places : List ℕ) (at k : ℕ) : Type 0 where
  pub readable : Readable image places
  pub pairs : Each (Pair readable.text (type_count image) image) 2 at k
  pub room : at + 2 * k ≤ 8192

-- one of them, and room for its name
pub record ArgumentReady (image places : List ℕ) (st : State) (scratch : List ℕ) (at : ℕ) : Type 0 where
  pub type : TypeReady image places (word_at image (at + 1))
  pub kind : kind_of (word_at image at) ≡ 12
  pub free : Free 2 st scratch
  pub low : at + 2 ≤ 8192

-- all of them, with their slots
pub record ArgumentsReady (image places : List ℕ) (st : State) (scratch : List ℕ) (slot at k : ℕ) : Type 0 where
  pub arguments : Arguments image places at k
  pub free : Free (2 * k) st scratch
  pub slots : slot + k ≤ 4096

module _ {image places : List ℕ} {at k : ℕ} (a : Arguments image places at k) (i : ℕ) (h : i < k) where
  pub argument-type : TypeReady image places (word_at image (at + 2 * i + 1))
  argument-type = record { readable = a.readable; below = (a.pairs.each i h).value.under }

  pub argument-kind : kind_of (word_at image (at + 2 * i)) ≡ 12
  unfolding good_name
  argument-kind = eqb-true (kind_of (word_at image (at + 2 * i))) 12 ((and-eq-true_iff (eqb (kind_of (word_at image (at + 2 * i))) 12) _).0 (a.pairs.each i h).name.good).0

-- ── What is said ──

-- as many names more
pub data Deeper (k : ℕ) (st : State) : Visit Done → Type 0 where
  deeper : {d : Done} {st' : State} → st'.names.depth ≡ st.names.depth + k → Deeper k st (Ok (d, st'))
  stops : {e : Refused} → Deeper k st (Err e)

-- k arguments were bound: their parameters are the pairs written after the names in scope
pub record Argues (rule : Walk (List Param)) (k : ℕ) (library : List ℕ) (st : State) (b b' : Lent) (r : Visit Done) : Type 0 where
  pub visits : Visits rule (2 * k) 0 library st b b' (with_answer (λ _. params_from b'.scratch (top st) k) r)
  pub names : Deeper k st r

-- ── The rule in parts ──

pub length-args : (image : List ℕ) (at k : ℕ) → length (args_from image at k) ≡ k
unfolding args_from
length-args image at zero = refl
length-args image at (suc k) = ap suc (length-args image (at + 2) k)

pub args-split : (image : List ℕ) (at j k : ℕ) → args_from image at (j + k) ≡ args_from image at j ++ args_from image (at + 2 * j) k
unfolding args_from
args-split image at zero k =
    let z : 0 + k ≡ k = omega arith in
    let y : at + 2 * 0 ≡ at = omega arith in
    rw (z, y) refl
args-split image at (suc j) k =
    let z : suc j + k ≡ suc (j + k) = omega arith in
    let y : at + 2 + 2 * j ≡ at + 2 * suc j = omega arith in
    rw (z, args-split image (at + 2) j k, y) refl

pub params-split : (l : List ℕ) (at j k : ℕ) → params_from l at (j + k) ≡ params_from l at j ++ params_from l (at + 2 * j) k
unfolding params_from
params-split l at zero k =
    let z : 0 + k ≡ k = omega arith in
    let y : at + 2 * 0 ≡ at = omega arith in
    rw (z, y) refl
params-split l at (suc j) k =
    let z : suc j + k ≡ suc (j + k) = omega arith in
    let y : at + 2 + 2 * j ≡ at + 2 * suc j = omega arith in
    rw (z, params-split l (at + 2) j k, y) refl

-- the arguments after xs, whose parameters were ps
unfoldable pub others : Ctx → (n slot : ℕ) → (ys : List Arg) → (ps : List Param) → Walk (List Param)
others c n slot ys ps = λ w. next (fn_arguments c n slot ys w) (λ qs. return (ps ++ qs))

same : (r : Result World Refusal (List Param)) → r ≡ next r (λ qs. return ([] ++ qs))
same (ok qs w) = refl
same (refused x) = refl

module _ (c : Ctx) (n : ℕ) (ys : List Arg) where
  consed : (p : Param) (slot : ℕ) (r : Result World Refusal (List Param))
      → next (next r (λ ps. others c n slot ys ps)) (λ ps. return (p ∷ ps)) ≡ next (next r (λ ps. return (p ∷ ps))) (λ ps. others c n slot ys ps)
  unfolding others
  consed p slot (refused x) = refl
  consed p slot (ok ps w) = inner (fn_arguments c n slot ys w)
    where
      inner : (r : Result World Refusal (List Param)) → next (next r (λ qs. return (ps ++ qs))) (λ ps. return (p ∷ ps)) ≡ next r (λ qs. return ((p ∷ ps) ++ qs))
      inner (ok qs w) = refl
      inner (refused x) = refl

  typed : (a : Arg) (xs : List Arg) (slot : ℕ)
      → ((w : World) → fn_arguments c n (slot + 1) (xs ++ ys) w ≡ next (fn_arguments c n (slot + 1) xs w) (λ ps. others c n (slot + 1 + length xs) ys ps))
      → (r : Result World Refusal ℕ)
      → next r (λ t. λ w. next (set_known slot t w) (λ _. λ w. next (env_insert a.name (some t) w) (λ _. λ w. next (fn_arguments c n (slot + 1) (xs ++ ys) w) (λ ps. return (param a.name t ∷ ps)))))
      ≡ next (next r (λ t. λ w. next (set_known slot t w) (λ _. λ w. next (env_insert a.name (some t) w) (λ _. λ w. next (fn_arguments c n (slot + 1) xs w) (λ ps. return (param a.name t ∷ ps))))))
      (λ ps. others c n (slot + 1 + length xs) ys ps)
  unfolding set_known env_insert
  typed a xs slot ih (refused x) = refl
  typed a xs slot ih (ok t w) = rw ih (consed (param a.name t) (slot + 1 + length xs) (fn_arguments c n (slot + 1) xs _))

  pub args-append : (xs : List Arg) (slot : ℕ) (w : World) → fn_arguments c n slot (xs ++ ys) w ≡ next (fn_arguments c n slot xs w) (λ ps. others c n (slot + length xs) ys ps)
  unfolding fn_arguments others
  args-append [] slot w =
      let z : slot + 0 ≡ slot = omega arith in
      rw z (same (fn_arguments c n slot ys w))
  args-append (a ∷ xs) slot w =
      let z : slot + 1 + length xs ≡ slot + suc (length xs) = omega arith in
      rw (← z) (typed a xs slot (λ w'. args-append xs (slot + 1) w') (type_from_expr c n a.type w))
