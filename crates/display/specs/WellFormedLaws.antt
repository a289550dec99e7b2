-- What the writers write is well-formed UTF-8 whenever the names in it are: each text as a piece of the strings of RFC 3629, to be put together
-- by `_then_` and made a test by `well-of` of crate `utf8`. Assumes nothing.
use Rattle.std.specs.Prelude.{ℕ, zero, suc, ◌+◌, ◌/◌, ◌%◌, ◌<◌, ◌≡◌, refl, Bool, true, false, ◌&&◌, List, [], ◌∷◌, ◌++◌, map, get_or, ltb}
use Rattle.std.proofs.Common.{arith, ltb-true, le-leb}
use Rattle.facts.specs.Tests.{both}
use Rattle.utf8.specs.Rfc3629.{utf8_1, Octets, none, well_formed}
use Rattle.utf8.specs.Properties.{ascii}
use Rattle.utf8.proofs.Laws.{ascii_octets, octets_of, well-of, ◌then◌}
use Rattle.tok.specs.Text.{text}
use Rattle.ptype.specs.Ty.{Ty, Fields, plain, wrap, rec, named, no_field, field}
use Rattle.ptype.specs.Show.{plain_names, openings, closings, gap, show, show_fields, digits, decimal}
use Rattle.display.specs.NamesWellFormed.{names_well_formed, fields_well_formed, all_well_formed}
use Rattle.display.specs.Joined.{each_after, joined, sig}
use Rattle.display.specs.Signature.{show_signature}

-- ---- fixed wording
-- every piece of a table is ASCII
unfoldable all_ascii : List (List ℕ) → Bool
all_ascii [] = true
all_ascii (s ∷ ss) = ascii s && all_ascii ss

pick : (ss : List (List ℕ)) (k : ℕ) → all_ascii ss ≡ true → Octets (get_or ss k [])
unfolding all_ascii
pick [] k e = none
pick (s ∷ ss) zero e = ascii_octets s (both (ascii s) (all_ascii ss) e).0
pick (s ∷ ss) (suc k) e = pick ss k (both (ascii s) (all_ascii ss) e).1

plain_octets : (k : ℕ) → Octets (get_or plain_names k [])
unfolding all_ascii plain_names text
plain_octets k = pick plain_names k refl

around_octets : (k : ℕ) {s : List ℕ} → Octets s → Octets (get_or openings k [] ++ s ++ get_or closings k [])
unfolding all_ascii openings closings text
around_octets k o = pick openings k refl then o then pick closings k refl

gap_octets : (fs : Fields) → Octets (gap fs)
unfolding gap text
gap_octets no_field = none
gap_octets (field n t fs) = ascii_octets (text " ") refl

-- ---- types
mutual
  unfolding names_well_formed show text

  pub show_octets : (t : Ty) → names_well_formed t ≡ true → Octets (show t)
  show_octets (plain k) e = plain_octets k
  show_octets (wrap k t) e = around_octets k (show_octets t e)
  show_octets (rec fs) e = around_octets 8 (fields_octets fs e)
  show_octets (named k n) e = around_octets k (octets_of n e)

  pub fields_octets : (fs : Fields) → fields_well_formed fs ≡ true → Octets (show_fields fs)
  fields_octets no_field e = none
  fields_octets (field n t fs) e =
      let p = both (well_formed n) (names_well_formed t && fields_well_formed fs) e in
      let q = both (names_well_formed t) (fields_well_formed fs) p.1 in
      octets_of n p.0 then ascii_octets (text ": ") refl then show_octets t q.0 then (gap_octets fs then fields_octets fs q.1)

-- `Display` of a type whose names are well formed is well formed.
pub show-well : (t : Ty) → names_well_formed t ≡ true → well_formed (show t) ≡ true
show-well t e = well-of (show_octets t e)

-- ---- signatures
pub signature_octets : (args : Fields) (ret : Ty) → fields_well_formed args ≡ true → names_well_formed ret ≡ true → Octets (show_signature args ret)
unfolding show_signature text
signature_octets args ret e f = ascii_octets (text "(") refl then fields_octets args e then ascii_octets (text ") -> ") refl then show_octets ret f

-- ---- numbers
ascii_append : (s t : List ℕ) → ascii s ≡ true → ascii t ≡ true → ascii (s ++ t) ≡ true
ascii_append [] t e f = f
ascii_append (a ∷ s) t e f = let p = both (utf8_1 a) (ascii s) e in rw (p.0, ascii_append s t p.1 f)

digit_ascii : (d : ℕ) → d < 10 → ascii ((48 + d) ∷ []) ≡ true
digit_ascii d h = rw (le-leb 0 (48 + d) (omega arith), le-leb (48 + d) 0x7F (omega arith))

digits-ascii : (most n : ℕ) → ascii (digits most n) ≡ true
unfolding digits
digits-ascii zero n = refl
digits-ascii (suc k) n = go (ltb n 10) refl (digits-ascii k (n / 10))
  where
    go : (b : Bool) → ltb n 10 ≡ b → ascii (digits k (n / 10)) ≡ true → ascii (digits (suc k) n) ≡ true
    go true e more = rw (e, digits) (digit_ascii n (ltb-true n 10 e))
    go false e more = rw (e, digits) (ascii_append (digits k (n / 10)) ((48 + n % 10) ∷ []) more (digit_ascii (n % 10) (omega arith)))

-- A number in decimal is ASCII.
pub decimal-ascii : (n : ℕ) → ascii (decimal n) ≡ true
unfolding decimal
decimal-ascii n = digits-ascii 10 n

pub decimal_octets : (n : ℕ) → Octets (decimal n)
decimal_octets n = ascii_octets (decimal n) (decimal-ascii n)

-- ---- joined pieces
-- each piece is well formed
pub data Each : List (List ℕ) → Type 0 where
  no_piece : Each []
  piece : {p : List ℕ} {ps : List (List ℕ)} → Octets p → Each ps → Each (p ∷ ps)

module _ {sep : List ℕ} (o : Octets sep) where
  after_octets : {ps : List (List ℕ)} → Each ps → Octets (each_after sep ps)
  unfolding each_after
  after_octets no_piece = none
  after_octets (piece p ps) = o then p then after_octets ps

  pub joined_octets : {ps : List (List ℕ)} → Each ps → Octets (joined sep ps)
  unfolding joined
  joined_octets no_piece = none
  joined_octets (piece p ps) = p then after_octets ps

types_octets : (ts : List Ty) → all_well_formed ts ≡ true → Each (map show ts)
unfolding all_well_formed
types_octets [] e = no_piece
types_octets (t ∷ ts) e = let p = both (names_well_formed t) (all_well_formed ts) e in piece (show_octets t p.0) (types_octets ts p.1)

pub sig_octets : (ts : List Ty) → all_well_formed ts ≡ true → Octets (sig ts)
unfolding sig text
sig_octets ts e = joined_octets (ascii_octets (text ", ") refl) (types_octets ts e)
