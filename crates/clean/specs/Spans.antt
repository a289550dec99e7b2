-- "Words are 32 bits": of the span of a token or of a node, a diagnostic's record loses nothing. A start has 16 bits and a length 8, so that no
-- part ends past 65,790, and a cover of parts ends where one of them does. By induction on the tree. Assumes nothing.
use Rattle.std.specs.Prelude.{ℕ, ◌+◌, ◌<◌, ◌≤◌, ◌≡◌, List, [], ◌∷◌, ◌++◌}
use Rattle.std.proofs.Common.{arith}
use Rattle.tok.specs.declared.Span.{Span}
use Rattle.tok.specs.Span.{token_span, least_start, greatest_end, cover_spans}
use Rattle.ast.specs.TypeExpr.{Arg, type_token}
use Rattle.ast.specs.Node.{Node, Nodes, Cases, Values, ExternFn}
use Rattle.ast.specs.Node.{Atom, Ident, Bin, Unary, Let, Fn, Match, Call, Field, Cast, Import, Extern, Record, Array, Absent, done, then, no_case, case, no_value, value}
use Rattle.ast.specs.Span.{token_spans, arg_spans, extern_spans, span_of, spans_of, case_spans, value_spans}
use Rattle.err.specs.Report.{as_word}
use Rattle.onerun.specs.Claim.{All, end, and}

pub record Small (s : Span) : Type 0 where
  pub start : s.start < 65536
  pub ends : s.start + s.len ≤ 65790

-- a word holds it whole
pub small-start : (s : Span) → Small s → as_word s.start ≡ s.start
small-start s h = omega (arith, h.start)

pub small-length : (s : Span) → Small s → as_word s.len ≡ s.len
small-length s h = omega (arith, h.ends)

-- ── Tokens and covers ──

pub token-small : (w : ℕ) → Small (token_span w)
token-small w = record { start = omega arith; ends = omega arith }

least-small : (s : Span) (others : List Span) → Small s → All Small others → least_start s others < 65536
unfolding least_start
least-small s [] h end = h.start
least-small s (t ∷ ts) h (and k ks) = omega (arith, h.start, least-small t ts k ks)

greatest_small : (s : Span) (others : List Span) → Small s → All Small others → greatest_end s others ≤ 65790
unfolding greatest_end
greatest_small s [] h end = omega (arith, h.ends)
greatest_small s (t ∷ ts) h (and k ks) = omega (arith, h.ends, greatest_small t ts k ks)

cover-small : (s : Span) (others : List Span) → Small s → All Small others → Small (cover_spans s others)
unfolding cover_spans
cover-small s others h k =
    let l = least-small s others h k in
    let g = greatest_small s others h k in
    record { start = l; ends = omega arith }

-- ── Nodes ──

all_both : {xs ys : List Span} → All Small xs → All Small ys → All Small (xs ++ ys)
all_both end h = h
all_both (and x xs) h = and x (all_both xs h)

tokens_small : (ws : List ℕ) → All Small (token_spans ws)
unfolding token_spans
tokens_small [] = end
tokens_small (w ∷ ws) = and (token-small w) (tokens_small ws)

args-small : (xs : List Arg) → All Small (arg_spans xs)
unfolding arg_spans
args-small [] = end
args-small (a ∷ xs) = and (token-small a.name) (and (token-small (type_token a.type)) (args-small xs))

externs_small : (fs : List ExternFn) → All Small (extern_spans fs)
unfolding extern_spans
externs_small [] = end
externs_small (f ∷ fs) = and (token-small f.name) (all_both (args-small f.args) (and (token-small (type_token f.ret)) (externs_small fs)))

mutual
  unfolding span_of

  pub span_small : (x : Node) → Small (span_of x)
  span_small (Atom n slot token k) = token-small token
  span_small (Ident n slot name) = token-small name
  span_small (Bin n slot token op l r) = cover-small _ _ (span_small l) (and (token-small token) (and (span_small r) end))
  span_small (Unary n slot token op r) = cover-small _ _ (token-small token) (and (span_small r) end)
  span_small (Let n slot name r) = cover-small _ _ (token-small name) (and (span_small r) end)
  span_small (Fn n slot name ret args body) = cover-small _ _ (token-small name) (spans_small body)
  span_small (Match n slot cs token d) = cover-small _ _ (token-small token) (all_both (cases-small cs) (spans_small d))
  span_small (Call n slot target args) = cover-small _ _ (span_small target) (spans_small args)
  span_small (Field n slot target name) = cover-small _ _ (span_small target) (and (token-small name) end)
  span_small (Cast n slot token l t) = cover-small _ _ (span_small l) (and (token-small token) (and (token-small (type_token t)) end))
  span_small (Import n slot token paths) = cover-small _ _ (token-small token) (tokens_small paths)
  span_small (Extern n slot token name fs) = cover-small _ _ (token-small token) (and (token-small name) (externs_small fs))
  span_small (Record n slot token fs) = cover-small _ _ (token-small token) (values-small fs)
  span_small (Array n slot token ms) = cover-small _ _ (token-small token) (spans_small ms)
  span_small (Absent n) = token-small 0

  spans_small : (xs : Nodes) → All Small (spans_of xs)
  spans_small done = end
  spans_small (then x xs) = and (span_small x) (spans_small xs)

  cases-small : (cs : Cases) → All Small (case_spans cs)
  cases-small no_case = end
  cases-small (case token x body cs) = and (token-small token) (and (span_small x) (all_both (spans_small body) (cases-small cs)))

  values-small : (vs : Values) → All Small (value_spans vs)
  values-small no_value = end
  values-small (value name x vs) = and (token-small name) (and (span_small x) (values-small vs))
