-- The loops that cover lists: what is left to cover gives the whole. One record for each loop's invariant, and a law for each turn and
-- for its end. Assumes nothing.
use Prim.Native.Nat.{ℕ, suc, ◌+◌, ◌*◌, ◌-◌, ◌≤◌, ◌<◌}
use mathlib.Core.Path.{◌≡◌, refl, sym, ap, ◌∙◌}
use mathlib.Core.List.{List, ◌∷◌, ◌++◌}
use native.Mathlib.Omega.{arith}
use lib.ListN.{get_or}
use Rattle.tok.specs.declared.Span.{Span}
use Rattle.tok.specs.Span.{token_span, cover}
use Rattle.ast.specs.TypeExpr.{type_of, args_from}
use Rattle.ast.specs.Node.{tree_of, nodes_from, cases_from, cases_end, values_from, words_from, externs_from}
use Rattle.ast.specs.Span.{type_span, token_spans, arg_spans, extern_spans, span_of, spans_of, case_spans, value_spans}
use Rattle.spans.specs.Covers.{cover_from, cover-append}
use Rattle.spans.specs.Lists.{spans_at, value_spans_at, case_spans_at, token_spans_at, arg_spans_at, extern_spans_at, spans_first, values-first, cases-first, tokens_first, args-first, externs_first}
use Rattle.spans.specs.Ready.{NodesReady, ValuesReady, CasesReady, ArgsReady, ExternsReady, nodes-rest, values-rest, args-rest, case-rest, extern-rest}

-- how many are left of k where i are done
module _ {k i : ℕ} where
  pub some-left : i < k → 0 < k - i
  some-left h = omega arith

  pub none-left : k ≤ i → k - i ≤ 0
  none-left h = omega arith

pub one-less : (k i : ℕ) → k - (i + 1) ≡ k - i - 1
one-less k i = omega arith

-- all k from word `at` on
pub whole-left : (at k : ℕ) → at + k - at ≡ k
whole-left at k = omega arith

-- pairs from word `at` on
pub first-pair : (at : ℕ) → at + 2 * 0 ≡ at
first-pair at = omega arith

pub next-pair : (at i : ℕ) → at + 2 * (i + 1) ≡ at + 2 * i + 2
next-pair at i = omega arith

less : {k : ℕ} → 0 < k → k ≡ suc (k - 1)
less l = omega arith

none : {k : ℕ} → k ≤ 0 → k ≡ 0
none l = omega arith

-- a list that begins with a span
one_more : (s : Span) {x : Span} {xs ys : List Span} → xs ≡ x ∷ ys → cover_from s xs ≡ cover_from (cover s x) ys
unfolding cover_from
one_more s e = ap (cover_from s) e

-- or with some
some_more : (s : Span) (xs ys : List Span) {zs : List Span} → zs ≡ xs ++ ys → cover_from s zs ≡ cover_from (cover_from s xs) ys
some_more s xs ys e = ap (cover_from s) e ∙ cover-append s xs ys

-- ── Tokens ──

pub record TokensLeft (image : List ℕ) (span : Span) (at k : ℕ) (covered : Span) (i left : ℕ) : Type 0 where
  pub room : i + left ≤ 8192
  pub rest : cover_from covered (token_spans_at image i left) ≡ cover_from span (token_spans_at image at k)

module _ {image : List ℕ} {span : Span} {at k : ℕ} where
  pub tokens_all : at + k ≤ 8192 → TokensLeft image span at k span at k
  tokens_all h = record { room = h; rest = refl }

  module _ {covered : Span} {i left : ℕ} (h : TokensLeft image span at k covered i left) where
    pub tokens_less : {w : ℕ} {x covered' : Span} → 0 < left → w ≡ get_or image i 0 → x ≡ token_span w → covered' ≡ cover covered x → TokensLeft image span at k covered' (i + 1) (left - 1)
    tokens_less l ew ex ec = record {
      room = omega (arith, h.room);
      rest =
          rw (ec, ex, ew) (sym (ap (λ m. cover_from covered (token_spans_at image i m)) (less l) ∙ one_more covered (tokens_first image i (left - 1)))) ∙ h.rest;
    }

    pub tokens_done : left ≤ 0 → covered ≡ cover_from span (token_spans_at image at k)
    unfolding cover_from words_from token_spans
    tokens_done l = ap (λ m. cover_from covered (token_spans_at image i m)) (sym (none l)) ∙ h.rest

-- ── Arguments ──

pub record ArgsLeft (image places : List ℕ) (span : Span) (at k : ℕ) (covered : Span) (i left : ℕ) : Type 0 where
  pub ready : ArgsReady image places i left
  pub rest : cover_from covered (arg_spans_at image i left) ≡ cover_from span (arg_spans_at image at k)

module _ {image places : List ℕ} {span : Span} {at k : ℕ} where
  pub args-all : ArgsReady image places at k → ArgsLeft image places span at k span at k
  args-all h = record { ready = h; rest = refl }

  module _ {covered : Span} {i left : ℕ} (h : ArgsLeft image places span at k covered i left) where
    pub args-less : {w v : ℕ} {x y named covered' : Span} → 0 < left → w ≡ get_or image i 0 → x ≡ token_span w → named ≡ cover covered x → v ≡ get_or image (i + 1) 0
        → y ≡ type_span (type_of image v) → covered' ≡ cover named y → ArgsLeft image places span at k covered' (i + 2) (left - 1)
    args-less l ew ex en ev ey ec = record {
      ready = args-rest l h.ready;
      rest =
          rw (ec, en, ex, ew, ey, ev)
          (sym (ap (λ m. cover_from covered (arg_spans_at image i m)) (less l) ∙ (one_more covered (args-first image i (left - 1)) ∙ one_more _ refl)))
          ∙ h.rest;
    }

    pub args-done : left ≤ 0 → covered ≡ cover_from span (arg_spans_at image at k)
    unfolding cover_from args_from arg_spans
    args-done l = ap (λ m. cover_from covered (arg_spans_at image i m)) (sym (none l)) ∙ h.rest

-- ── Functions of an Extern ──

pub record ExternsLeft (image places : List ℕ) (span : Span) (at k : ℕ) (covered : Span) (i left : ℕ) : Type 0 where
  pub ready : ExternsReady image places i left
  pub rest : cover_from covered (extern_spans_at image i left) ≡ cover_from span (extern_spans_at image at k)

module _ {image places : List ℕ} {span : Span} {at k : ℕ} where
  pub externs_all : ExternsReady image places at k → ExternsLeft image places span at k span at k
  externs_all h = record { ready = h; rest = refl }

  module _ {covered : Span} {i left : ℕ} (h : ExternsLeft image places span at k covered i left) where
    pub externs_less : {w v m : ℕ} {x y named args covered' : Span} → 0 < left → m ≡ get_or image (i + 2) 0 → w ≡ get_or image i 0 → x ≡ token_span w → named ≡ cover covered x
        → args ≡ cover_from named (arg_spans_at image (i + 3) m) → v ≡ get_or image (i + 1) 0 → y ≡ type_span (type_of image v) → covered' ≡ cover args y
        → ExternsLeft image places span at k covered' (i + 3 + 2 * m) (left - 1)
    externs_less l em ew ex en ea ev ey ec = record {
      ready = extern-rest l h.ready em;
      rest =
          rw (ec, ea, en, ex, ew, ey, ev, em)
          (sym (ap (λ m. cover_from covered (extern_spans_at image i m)) (less l)
          ∙ (one_more covered (externs_first image i (left - 1)) ∙ (some_more _ _ _ refl ∙ one_more _ refl))))
          ∙ h.rest;
    }

    pub externs_done : left ≤ 0 → covered ≡ cover_from span (extern_spans_at image at k)
    unfolding cover_from externs_from extern_spans
    externs_done l = ap (λ m. cover_from covered (extern_spans_at image i m)) (sym (none l)) ∙ h.rest

-- ── Nodes ──

pub record NodesLeft (image places : List ℕ) (owner : ℕ) (span : Span) (at k : ℕ) (covered : Span) (i left : ℕ) : Type 0 where
  pub ready : NodesReady image places owner i left
  pub rest : cover_from covered (spans_at image i left) ≡ cover_from span (spans_at image at k)

module _ {image places : List ℕ} {owner : ℕ} {span : Span} {at k : ℕ} where
  pub nodes-all : NodesReady image places owner at k → NodesLeft image places owner span at k span at k
  nodes-all h = record { ready = h; rest = refl }

  module _ {covered : Span} {i left : ℕ} (h : NodesLeft image places owner span at k covered i left) where
    pub nodes-less : {w : ℕ} {x covered' : Span} → 0 < left → w ≡ get_or image i 0 → x ≡ span_of (tree_of image w) → covered' ≡ cover covered x
        → NodesLeft image places owner span at k covered' (i + 1) (left - 1)
    nodes-less l ew ex ec = record {
      ready = nodes-rest l h.ready;
      rest = rw (ec, ex, ew) (sym (ap (λ m. cover_from covered (spans_at image i m)) (less l) ∙ one_more covered (spans_first image i (left - 1)))) ∙ h.rest;
    }

    pub nodes-done : left ≤ 0 → covered ≡ cover_from span (spans_at image at k)
    unfolding cover_from nodes_from spans_of
    nodes-done l = ap (λ m. cover_from covered (spans_at image i m)) (sym (none l)) ∙ h.rest

-- ── Fields of a Record ──

pub record ValuesLeft (image places : List ℕ) (owner : ℕ) (span : Span) (at k : ℕ) (covered : Span) (i left : ℕ) : Type 0 where
  pub ready : ValuesReady image places owner i left
  pub rest : cover_from covered (value_spans_at image i left) ≡ cover_from span (value_spans_at image at k)

module _ {image places : List ℕ} {owner : ℕ} {span : Span} {at k : ℕ} where
  pub values-all : ValuesReady image places owner at k → ValuesLeft image places owner span at k span at k
  values-all h = record { ready = h; rest = refl }

  module _ {covered : Span} {i left : ℕ} (h : ValuesLeft image places owner span at k covered i left) where
    pub values-less : {w v : ℕ} {x y named covered' : Span} → 0 < left → w ≡ get_or image i 0 → x ≡ token_span w → named ≡ cover covered x → v ≡ get_or image (i + 1) 0
        → y ≡ span_of (tree_of image v) → covered' ≡ cover named y → ValuesLeft image places owner span at k covered' (i + 2) (left - 1)
    values-less l ew ex en ev ey ec = record {
      ready = values-rest l h.ready;
      rest =
          rw (ec, en, ex, ew, ey, ev)
          (sym (ap (λ m. cover_from covered (value_spans_at image i m)) (less l) ∙ (one_more covered (values-first image i (left - 1)) ∙ one_more _ refl)))
          ∙ h.rest;
    }

    pub values-done : left ≤ 0 → covered ≡ cover_from span (value_spans_at image at k)
    unfolding cover_from values_from value_spans
    values-done l = ap (λ m. cover_from covered (value_spans_at image i m)) (sym (none l)) ∙ h.rest

-- ── Cases of a Match ──

pub record CasesLeft (image places : List ℕ) (owner : ℕ) (span : Span) (at k : ℕ) (covered : Span) (i left : ℕ) : Type 0 where
  pub ready : CasesReady image places owner i left
  pub rest : cover_from covered (case_spans_at image i left) ≡ cover_from span (case_spans_at image at k)

module _ {image places : List ℕ} {owner : ℕ} {span : Span} {at k : ℕ} where
  pub cases-all : CasesReady image places owner at k → CasesLeft image places owner span at k span at k
  cases-all h = record { ready = h; rest = refl }

  module _ {covered : Span} {i left : ℕ} (h : CasesLeft image places owner span at k covered i left) where
    pub cases-less : {w v m : ℕ} {x y begun tested covered' : Span} → 0 < left → m ≡ get_or image (i + 2) 0 → w ≡ get_or image i 0 → x ≡ token_span w → begun ≡ cover covered x
        → v ≡ get_or image (i + 1) 0 → y ≡ span_of (tree_of image v) → tested ≡ cover begun y → covered' ≡ cover_from tested (spans_at image (i + 3) m)
        → CasesLeft image places owner span at k covered' (i + 3 + m) (left - 1)
    cases-less l em ew ex eb ev ey et ec = record {
      ready = case-rest l h.ready em;
      rest =
          rw (ec, et, eb, ex, ew, ey, ev, em)
          (sym (ap (λ m. cover_from covered (case_spans_at image i m)) (less l)
          ∙ (one_more covered (cases-first image i (left - 1)) ∙ (one_more _ refl ∙ some_more _ _ _ refl))))
          ∙ h.rest;
    }

    pub cases_done : left ≤ 0 → covered ≡ cover_from span (case_spans_at image at k)
    unfolding cover_from cases_from case_spans
    cases_done l = ap (λ m. cover_from covered (case_spans_at image i m)) (sym (none l)) ∙ h.rest

-- ── The word after the cases ──

pub record EndLeft (image places : List ℕ) (owner at k i left : ℕ) : Type 0 where
  pub ready : CasesReady image places owner i left
  pub rest : cases_end image i left ≡ cases_end image at k

module _ {image places : List ℕ} {owner at k : ℕ} where
  pub end-all : CasesReady image places owner at k → EndLeft image places owner at k at k
  end-all h = record { ready = h; rest = refl }

  module _ {i left : ℕ} (h : EndLeft image places owner at k i left) where
    pub end-less : {m : ℕ} → 0 < left → m ≡ get_or image (i + 2) 0 → EndLeft image places owner at k (i + 3 + m) (left - 1)
    unfolding cases_end
    end-less l em = record { ready = case-rest l h.ready em; rest = rw em (sym (ap (cases_end image i) (less l))) ∙ h.rest }

    pub end-done : left ≤ 0 → i ≡ cases_end image at k
    unfolding cases_end
    end-done l = ap (cases_end image i) (sym (none l)) ∙ h.rest
