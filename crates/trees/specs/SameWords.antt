-- Lists in records, of two images that have the same words at two places: what is read from them is the same. Assumes nothing.
use Prim.Native.Nat.{ℕ, zero, suc, ◌+◌, ◌*◌, ◌-◌, ◌≤◌, ◌<◌}
use Rattle.std.specs.Prelude.{◌≡◌, List}
use Rattle.std.proofs.Math.Path.{refl}
use Rattle.std.proofs.Common.{mul-zero, mul-suc, add-zero}
use native.Mathlib.Omega.{arith}
use Rattle.ast.specs.Image.{word_at}
use Rattle.ast.specs.TypeExpr.{TypeExpr, type_of, type_fields_from, args_from}
use Rattle.ast.specs.Node.{Node, value, nodes_from, cases_from, cases_end, values_from, words_from, externs_from}
use Rattle.ast.specs.Outline.{Counts}
use Rattle.image_laws.specs.Many.{Each}
use Rattle.image_laws.specs.RecordWords.{Named, Under, Pair, CasesWords, default_words, case_words, FunctionsWords, no_functions, function_words}

-- ── What holds at k places ──

module _ (P : ℕ → Type 0) {step at k : ℕ} (e : Each P step at (suc k)) where
  pub each_first : P at
  each_first = let z : at + step * 0 ≡ at = rw mul-zero (omega arith) in rw z at (e.each 0 (omega arith))

  pub each-rest : Each P step (at + step) k
  each-rest = record {
    each = λ i h. let z : at + step * suc i ≡ at + step + step * i = rw mul-suc (omega arith) in rw z at (e.each (suc i) (omega arith));
  }

-- the functions of an Extern, and the cases of a Match with its default, end at `end`
pub cases-within : {c : Counts} {image : List ℕ} {n end at k : ℕ} → CasesWords c image n end at k → at + 1 ≤ end
cases-within (default_words t l b) = l
cases-within (case_words t q body others) = let l = cases-within others in omega arith

pub functions-within : {c : Counts} {image : List ℕ} {end at k : ℕ} → FunctionsWords c image end at k → at ≤ end
functions-within (no_functions e) = omega arith
functions-within (function_words m y args others) = let l = functions-within others in omega arith

-- the default's token stands after the cases
pub cases-low : (image : List ℕ) (k at : ℕ) → at ≤ cases_end image at k
unfolding cases_end
cases-low image zero at = omega arith
cases-low image (suc k) at = let l = cases-low image k (at + 3 + word_at image (at + 2)) in omega arith

pub cases_end_lem : {c : Counts} {image : List ℕ} {n end at k : ℕ} → CasesWords c image n end at k → cases_end image at k + 1 ≤ end
unfolding cases_end
cases_end_lem (default_words t l b) = l
cases_end_lem (case_words t q body others) = cases_end_lem others

-- the default's token and body
pub cases-token : {c : Counts} {image : List ℕ} {n end at k : ℕ} → CasesWords c image n end at k → Named c.text image (cases_end image at k)
unfolding cases_end
cases-token (default_words t l b) = t
cases-token (case_words t q body others) = cases-token others

pub cases_default : {c : Counts} {image : List ℕ} {n end at k : ℕ} → CasesWords c image n end at k → Each (Under n image) 1 (cases_end image at k + 1) (end - (cases_end image at k + 1))
unfolding cases_end
cases_default (default_words t l b) = b
cases_default (case_words t q body others) = cases_default others

-- ── The same words at two places ──

-- `long` words from `at` on in one image are those from `at'` on in the other
pub record SameWords (image image' : List ℕ) (at at' long : ℕ) : Type 0 where
  pub same : (i : ℕ) → i < long → word_at image' (at' + i) ≡ word_at image (at + i)

-- every function that reads a node, or a type, by its number, below a bound
pub record Agree {A : Type 0} (n : ℕ) (go go' : ℕ → A) : Type 0 where
  pub agree : (p : ℕ) → p < n → go' p ≡ go p

-- an image has its own words
pub same_self : (image : List ℕ) (at long : ℕ) → SameWords image image at at long
same_self image at long = record { same = λ i h. refl }

module _ {image image' : List ℕ} {at at' long : ℕ} (s : SameWords image image' at at' long) where
  pub same_first : 0 < long → word_at image' at' ≡ word_at image at
  same_first h = rw (add-zero at, add-zero at') at (s.same 0 h)

  -- some of them
  pub same_from : (d k : ℕ) → d + k ≤ long → SameWords image image' (at + d) (at' + d) k
  same_from d k h = record {
    same = λ i l.
        let e : at + d + i ≡ at + (d + i) = omega arith in
        let e' : at' + d + i ≡ at' + (d + i) = omega arith in
        rw (e, e') (s.same (d + i) (omega arith));
  }

module _ (image image' : List ℕ) where
  -- the words after the first
  rest : {at at' k : ℕ} → SameWords image image' at at' (suc k) → SameWords image image' (at + 1) (at' + 1) k
  rest {k = k} s = same_from s 1 k (omega arith)

  pub words_same : (k at at' : ℕ) → SameWords image image' at at' k → words_from image' at' k ≡ words_from image at k
  unfolding words_from
  words_same zero at at' s = refl
  words_same (suc k) at at' s = rw (same_first s (omega arith), words_same k (at + 1) (at' + 1) (rest s))

  -- ── Types ──

  module _ {bound : ℕ} {go go' : ℕ → TypeExpr} (a : Agree bound go go') {text : List ℕ} where
    pub fields-same : (k at at' : ℕ) → SameWords image image' at at' (2 * k) → Each (Pair text bound image) 2 at k → type_fields_from go' image' at' k ≡ type_fields_from go image at k
    unfolding type_fields_from
    fields-same zero at at' s e = refl
    fields-same (suc k) at at' s e =
        rw (
          same_first s (omega arith),
          s.same 1 (omega arith),
          a.agree (word_at image (at + 1)) (each_first (Pair text bound image) e).value.under,
          fields-same k (at + 2) (at' + 2) (same_from s 2 (2 * k) (omega arith)) (each-rest (Pair text bound image) e),
        )

  module _ {types : ℕ} (a : Agree types (type_of image) (type_of image')) where
    pub args-same : {text : List ℕ} (k at at' : ℕ) → SameWords image image' at at' (2 * k) → Each (Pair text types image) 2 at k → args_from image' at' k ≡ args_from image at k
    unfolding args_from
    args-same zero at at' s e = refl
    args-same {text} (suc k) at at' s e =
        rw (
          same_first s (omega arith),
          s.same 1 (omega arith),
          a.agree (word_at image (at + 1)) (each_first (Pair text types image) e).value.under,
          args-same k (at + 2) (at' + 2) (same_from s 2 (2 * k) (omega arith)) (each-rest (Pair text types image) e),
        )

  -- the functions of an Extern
  pub externs_same : {c : Counts} {end at k : ℕ} (a : Agree c.types (type_of image) (type_of image')) (at' : ℕ) → SameWords image image' at at' (end - at)
      → FunctionsWords c image end at k → externs_from image' at' k ≡ externs_from image at k
  unfolding externs_from
  externs_same a at' s (no_functions e) = refl
  externs_same {c} {end} a at' s (function_words {at = at} {k = k} m y args others) =
      let b : ℕ = word_at image (at + 2) in
      let l = functions-within others in
      rw (
        same_first s (omega arith),
        s.same 1 (omega arith),
        s.same 2 (omega arith),
        a.agree (word_at image (at + 1)) y.under,
        args-same a b (at + 3) (at' + 3) (same_from s 3 (2 * b) (omega arith)) args,
        externs_same a (at' + 3 + 2 * b)
            (let e : at + 3 + 2 * b ≡ at + (3 + 2 * b) = omega arith in
            let e' : at' + 3 + 2 * b ≡ at' + (3 + 2 * b) = omega arith in
            rw (e, e') (same_from s (3 + 2 * b) (end - (at + (3 + 2 * b))) (omega arith)))
            others,
      )

  -- ── Nodes ──

  -- the words after a case whose body has b nodes
  after : {end at at' : ℕ} → SameWords image image' at at' (end - at) → (b : ℕ) → at + 3 + b ≤ end → SameWords image image' (at + 3 + b) (at' + 3 + b) (end - (at + 3 + b))
  after {end} {at} {at'} s b l =
      let e : at + 3 + b ≡ at + (3 + b) = omega arith in
      let e' : at' + 3 + b ≡ at' + (3 + b) = omega arith in
      rw (e, e') (same_from s (3 + b) (end - (at + (3 + b))) (omega arith))

  module _ {n : ℕ} {go go' : ℕ → Node} (a : Agree n go go') where
    pub nodes-same : (k at at' : ℕ) → SameWords image image' at at' k → Each (Under n image) 1 at k → nodes_from go' image' at' k ≡ nodes_from go image at k
    unfolding nodes_from
    nodes-same zero at at' s e = refl
    nodes-same (suc k) at at' s e =
        rw (same_first s (omega arith), a.agree (word_at image at) (each_first (Under n image) e).under, nodes-same k (at + 1) (at' + 1) (rest s) (each-rest (Under n image) e))

    pub values_same : {text : List ℕ} (k at at' : ℕ) → SameWords image image' at at' (2 * k) → Each (Pair text n image) 2 at k → values_from go' image' at' k ≡ values_from go image at k
    unfolding values_from
    values_same zero at at' s e = refl
    values_same {text} (suc k) at at' s e =
        rw (
          same_first s (omega arith),
          s.same 1 (omega arith),
          a.agree (word_at image (at + 1)) (each_first (Pair text n image) e).value.under,
          values_same k (at + 2) (at' + 2) (same_from s 2 (2 * k) (omega arith)) (each-rest (Pair text n image) e),
        )

    -- the cases of a Match
    pub cases_same : {c : Counts} {end at k : ℕ} (at' : ℕ) → SameWords image image' at at' (end - at) → CasesWords c image n end at k → cases_from go' image' at' k ≡ cases_from go image at k
    unfolding cases_from
    cases_same at' s (default_words t l b) = refl
    cases_same {end = end} at' s (case_words {at = at} {k = k} t q body others) =
        let b : ℕ = word_at image (at + 2) in
        let l = cases-within others in
        rw (
          same_first s (omega arith),
          s.same 1 (omega arith),
          s.same 2 (omega arith),
          a.agree (word_at image (at + 1)) q.under,
          nodes-same b (at + 3) (at' + 3) (same_from s 3 b (omega arith)) body,
          cases_same (at' + 3 + b) (after s b (omega arith)) others,
        )

  -- where they end, counted from where they begin
  pub end_same : {c : Counts} {n end at k : ℕ} (at' : ℕ) → SameWords image image' at at' (end - at) → CasesWords c image n end at k → cases_end image' at' k + at ≡ cases_end image at k + at'
  unfolding cases_end
  end_same at' s (default_words t l b) = omega arith
  end_same {end = end} at' s (case_words {at = at} {k = k} t q body others) =
      let b : ℕ = word_at image (at + 2) in
      let l = cases-within others in
      let h = end_same (at' + 3 + b) (after s b (omega arith)) others in
      rw (s.same 2 (omega arith)) (omega arith)
