-- Several spans covered one after the other, as the code does it; that is `cover_spans`. Assumes nothing.
use Rattle.std.specs.Prelude.{ℕ, ◌+◌, ◌-◌, ◌^◌, ◌≤◌, ◌≡◌, refl, List, [], ◌∷◌, ◌++◌}
use Rattle.std.proofs.Common.{sym, ap, ◌∙◌, arith}
use Rattle.tok.specs.declared.Span.{Span}
use Rattle.tok.specs.Span.{token_span, end_of, cover, least_start, greatest_end, cover_spans}
use Rattle.tok.proofs.SpanLaws.{cover_spans-more, cover_spans-two}
use Rattle.ast.specs.Node.{Node, Atom, Ident, Bin, Unary, Let, Fn, Match, Call, Field, Cast, Import, Extern, Record, Array, Absent}
use Rattle.ast.specs.Span.{span_of}

-- a span, and others covered besides
unfoldable pub cover_from : Span → List Span → Span
cover_from s [] = s
cover_from s (t ∷ ts) = cover_from (cover s t) ts

pub cover-append : (s : Span) (xs ys : List Span) → cover_from s (xs ++ ys) ≡ cover_from (cover_from s xs) ys
unfolding cover_from
cover-append s [] ys = refl
cover-append s (x ∷ xs) ys = cover-append (cover s x) xs ys

-- a span that ends within 64 bits
pub record Whole (s : Span) : Type 0 where
  pub whole : s.start + s.len ≤ 2 ^ 64 - 1

pub token-whole : (w : ℕ) → Whole (token_span w)
token-whole w = record { whole = omega arith }

cover-whole : (s t : Span) → Whole s → Whole (cover s t)
unfolding cover
cover-whole s t h = record { whole = omega (arith, h.whole) }

from-whole : (s : Span) (ts : List Span) → Whole s → Whole (cover_from s ts)
unfolding cover_from
from-whole s [] h = h
from-whole s (t ∷ ts) h = from-whole (cover s t) ts (cover-whole s t h)

-- THE LAW
pub cover-from : (s : Span) (ts : List Span) → Whole s → cover_from s ts ≡ cover_spans s ts
unfolding cover_from cover_spans least_start greatest_end
cover-from s [] h =
    let e : s.len ≡ end_of s - s.start = omega (arith, h.whole) in
    ap (λ l. record { start = s.start; len = l }) e
cover-from s (t ∷ ts) h = cover-from (cover s t) ts (cover-whole s t h) ∙ sym (cover_spans-more s t ts)

covered_whole : (s : Span) (ts : List Span) → Whole s → Whole (cover_spans s ts)
covered_whole s ts h = rw (← cover-from s ts h) (from-whole s ts h)

pub cover-three : (a b c : Span) → cover_spans a (b ∷ c ∷ []) ≡ cover (cover a b) c
cover-three a b c = cover_spans-more a b (c ∷ []) ∙ cover_spans-two (cover a b) c

-- every node's span ends so
pub span-whole : (x : Node) → Whole (span_of x)
unfolding span_of
span-whole (Atom n slot token k) = token-whole token
span-whole (Ident n slot name) = token-whole name
span-whole (Bin n slot token op l r) = covered_whole (span_of l) _ (span-whole l)
span-whole (Unary n slot token op r) = covered_whole (token_span token) _ (token-whole token)
span-whole (Let n slot name r) = covered_whole (token_span name) _ (token-whole name)
span-whole (Fn n slot name ret args body) = covered_whole (token_span name) _ (token-whole name)
span-whole (Match n slot cs token d) = covered_whole (token_span token) _ (token-whole token)
span-whole (Call n slot target args) = covered_whole (span_of target) _ (span-whole target)
span-whole (Field n slot target name) = covered_whole (span_of target) _ (span-whole target)
span-whole (Cast n slot token l t) = covered_whole (span_of l) _ (span-whole l)
span-whole (Import n slot token paths) = covered_whole (token_span token) _ (token-whole token)
span-whole (Extern n slot token name fs) = covered_whole (token_span token) _ (token-whole token)
span-whole (Record n slot token fs) = covered_whole (token_span token) _ (token-whole token)
span-whole (Array n slot token ms) = covered_whole (token_span token) _ (token-whole token)
span-whole (Absent n) = token-whole 0
