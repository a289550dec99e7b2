-- Spans (diagnostic.rs: `Span`, `Span::from_token`; ast.rs: `Ast::cover_spans`). Definitions.
use Rattle.std.specs.Prelude.{ℕ, ◌+◌, ◌-◌, ◌^◌, min, max, List, [], ◌∷◌}
use Rattle.tok.specs.declared.Span.{Span}
use Rattle.tok.specs.Word.{name_start, name_length}

-- Span::from_token. "A string token leaves out its quotes": where the Rust steps over the quote, the word starts past it.
abbrev pub token_span : (word : ℕ) → Span
token_span w = record { start = name_start w; len = name_length w }

-- where a span ends: `span.start.saturating_add(span.len)`, the numbers being of 64 bits
abbrev pub end_of : Span → ℕ
end_of s = min (s.start + s.len) (2 ^ 64 - 1)

-- from a start to an end: `Span::new(start, end.saturating_sub(start))`
abbrev pub up_to : (start end : ℕ) → Span
up_to start end = record { start = start; len = end - start }

-- "`cover_spans` decides a span of several parts": from the least start to the greatest end, whatever the parts' order
-- and whether or not they meet. Of two parts:
unfoldable pub cover : Span → Span → Span
cover a b = up_to (min a.start b.start) (max (end_of a) (end_of b))

-- Of a first part and others (the Rust asks for no cover of no parts):
unfoldable pub least_start : Span → List Span → ℕ
least_start s [] = s.start
least_start s (t ∷ ts) = min s.start (least_start t ts)

unfoldable pub greatest_end : Span → List Span → ℕ
greatest_end s [] = end_of s
greatest_end s (t ∷ ts) = max (end_of s) (greatest_end t ts)

unfoldable pub cover_spans : Span → List Span → Span
cover_spans s others = up_to (least_start s others) (greatest_end s others)
