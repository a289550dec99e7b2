-- Laws of spans: `cover` is the least span that covers both, several parts are covered two at a time, and a token's span is
-- where its bytes stand. By the order of least and greatest numbers. Assumes nothing.
use mathlib.Core.Path.{◌≡◌, refl}
use mathlib.Core.List.{List, [], ◌∷◌}
use Prim.Native.Nat.{ℕ, ◌+◌, ◌≤◌, min, max}
use native.Mathlib.Nat.{min-le_left, min-le_right, le-max_left, le-max_right, le-min, max-le, min_comm, max_comm}
use native.Mathlib.Omega.{arith}
use lib.ListN.{take, drop}
use Rattle.tok.specs.declared.Span.{Span}
use Rattle.tok.specs.Word.{name_start, name_length}
use Rattle.tok.specs.Token.{token_bytes}
use Rattle.tok.specs.Span.{token_span, end_of, up_to, cover, least_start, greatest_end, cover_spans}

-- a begins no later than b, and ends no earlier
pub record Covers (a b : Span) : Type 0 where
  pub begins : a.start ≤ b.start
  pub ends : end_of b ≤ end_of a

module _ (a b : Span) where
  by-ends : cover a b ≡ up_to (min a.start b.start) (max (end_of a) (end_of b))
  unfolding cover
  by-ends = refl

  pub start-cover : (cover a b).start ≡ min a.start b.start
  unfolding cover
  start-cover = refl

  pub end_of-cover : end_of (cover a b) ≡ max (end_of a) (end_of b)
  unfolding cover
  end_of-cover = omega arith

  -- The cover covers both,
  pub covers_left : Covers (cover a b) a
  covers_left = record { begins = rw start-cover (min-le_left _ _); ends = rw end_of-cover (le-max_left _ _) }

  pub covers_right : Covers (cover a b) b
  covers_right = record { begins = rw start-cover (min-le_right _ _); ends = rw end_of-cover (le-max_right _ _) }

  -- and every span that covers both covers it.
  pub cover-least : (c : Span) → Covers c a → Covers c b → Covers c (cover a b)
  cover-least c p q =
      record { begins = rw start-cover (le-min p.begins q.begins); ends = rw end_of-cover (max-le p.ends q.ends) }

  pub cover_comm : cover a b ≡ cover b a
  unfolding cover
  cover_comm = cc (min_comm a.start b.start, max_comm (end_of a) (end_of b))

min_assoc : (a b c : ℕ) → min a (min b c) ≡ min (min a b) c
min_assoc a b c = omega arith

max_assoc : (a b c : ℕ) → max a (max b c) ≡ max (max a b) c
max_assoc a b c = omega arith

pub cover_assoc : (a b c : Span) → cover (cover a b) c ≡ cover a (cover b c)
cover_assoc a b c =
    cc (
      by-ends (cover a b) c,
      by-ends a (cover b c),
      start-cover a b,
      start-cover b c,
      end_of-cover a b,
      end_of-cover b c,
      min_assoc a.start b.start c.start,
      max_assoc (end_of a) (end_of b) (end_of c),
    )

-- Several parts are covered two at a time.
pub cover_spans-two : (a b : Span) → cover_spans a (b ∷ []) ≡ cover a b
unfolding cover cover_spans least_start greatest_end
cover_spans-two a b = refl

pub cover_spans-more : (a b : Span) (others : List Span) → cover_spans a (b ∷ others) ≡ cover_spans (cover a b) others
unfolding cover_spans least_start greatest_end
cover_spans-more a b [] = cc (start-cover a b, end_of-cover a b)
cover_spans-more a b (c ∷ others) =
    cc (
      start-cover a b,
      end_of-cover a b,
      min_assoc a.start b.start (least_start c others),
      max_assoc (end_of a) (end_of b) (greatest_end c others),
    )

-- The bytes under a token's span are the token's, and the span ends with them.
pub bytes-token_span : (script : List ℕ) (w : ℕ) → take (token_span w).len (drop (token_span w).start script) ≡ token_bytes script w
unfolding token_bytes
bytes-token_span script w = refl

pub end_of-token_span : (w : ℕ) → end_of (token_span w) ≡ name_start w + name_length w
end_of-token_span w = omega arith
