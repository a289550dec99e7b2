-- The spans of the lists in a record, k items from word `at` on. Definitions, and the first item of each.
use Rattle.std.specs.Prelude.{ℕ, suc, ◌+◌, ◌*◌, ◌≡◌, List, ◌∷◌, ◌++◌}
use Rattle.std.proofs.Math.Path.{refl}
use Rattle.tok.specs.declared.Span.{Span}
use Rattle.tok.specs.Span.{token_span}
use Rattle.ast.specs.Image.{word_at}
use Rattle.ast.specs.TypeExpr.{type_of, args_from}
use Rattle.ast.specs.Node.{tree_of, nodes_from, cases_from, values_from, words_from, externs_from}
use Rattle.ast.specs.Span.{type_span, token_spans, arg_spans, extern_spans, span_of, spans_of, case_spans, value_spans}

module _ (image : List ℕ) where
  abbrev pub spans_at : (at k : ℕ) → List Span
  spans_at at k = spans_of (nodes_from (tree_of image) image at k)

  abbrev pub value_spans_at : (at k : ℕ) → List Span
  value_spans_at at k = value_spans (values_from (tree_of image) image at k)

  abbrev pub case_spans_at : (at k : ℕ) → List Span
  case_spans_at at k = case_spans (cases_from (tree_of image) image at k)

  abbrev pub token_spans_at : (at k : ℕ) → List Span
  token_spans_at at k = token_spans (words_from image at k)

  abbrev pub arg_spans_at : (at k : ℕ) → List Span
  arg_spans_at at k = arg_spans (args_from image at k)

  abbrev pub extern_spans_at : (at k : ℕ) → List Span
  extern_spans_at at k = extern_spans (externs_from image at k)

  -- ── The first item, and the others ──

  pub spans_first : (at k : ℕ) → spans_at at (suc k) ≡ span_of (tree_of image (word_at image at)) ∷ spans_at (at + 1) k
  unfolding nodes_from spans_of
  spans_first at k = refl

  pub values-first : (at k : ℕ) → value_spans_at at (suc k) ≡ token_span (word_at image at) ∷ span_of (tree_of image (word_at image (at + 1))) ∷ value_spans_at (at + 2) k
  unfolding values_from value_spans
  values-first at k = refl

  pub cases-first : (at k : ℕ) → case_spans_at at (suc k)
      ≡ token_span (word_at image at) ∷ span_of (tree_of image (word_at image (at + 1))) ∷ (spans_at (at + 3) (word_at image (at + 2)) ++ case_spans_at (at + 3 + word_at image (at + 2)) k)
  unfolding cases_from case_spans
  cases-first at k = refl

  pub tokens_first : (at k : ℕ) → token_spans_at at (suc k) ≡ token_span (word_at image at) ∷ token_spans_at (at + 1) k
  unfolding words_from token_spans
  tokens_first at k = refl

  pub args-first : (at k : ℕ) → arg_spans_at at (suc k) ≡ token_span (word_at image at) ∷ type_span (type_of image (word_at image (at + 1))) ∷ arg_spans_at (at + 2) k
  unfolding args_from arg_spans
  args-first at k = refl

  pub externs_first : (at k : ℕ) → extern_spans_at at (suc k)
      ≡ token_span (word_at image at) ∷
      (arg_spans_at (at + 3) (word_at image (at + 2)) ++ (type_span (type_of image (word_at image (at + 1))) ∷ extern_spans_at (at + 3 + 2 * word_at image (at + 2)) k))
  unfolding externs_from extern_spans
  externs_first at k = refl
