-- Laws of names and tokens: the bytes of an accepted word are well formed by RFC 3629, as many as it says, and the same in
-- longer texts. By taking the tests apart into the facts that they decide, `Good`. Assumes nothing.
use mathlib.Core.Path.{◌≡◌, refl, ap, ◌∙◌}
use mathlib.Core.List.{List, ◌++◌}
use mathlib.Core.Bool.{Bool, true, false, ◌&&◌, and-eq-true_iff, cond}
use Prim.Native.Nat.{ℕ, ◌+◌, ◌≤◌}
use native.Mathlib.Omega.{arith}
use lib.Dec.{eqb}
use lib.ListN.{length, length-append}
use borrow.Author.Tests.{eqb-true, eq-eqb, ne_eqb, leb-true, le-leb}
use Rattle.utf8.specs.Rfc3629.{well_formed}
use Rattle.tok.specs.Word.{kind_of, payload_of, word_of, name_length, name_start, name_bit, name_rest, name_word}
use Rattle.tok.specs.Text.{Texts, texts_of, longer, text_by, bytes_in, name_bytes}
use Rattle.tok.specs.Token.{token_bytes}
use Rattle.tok.specs.Name.{lies_in, reads_well, good_payload, good_name, in_script}
use Rattle.tok.proofs.WordLaws.{kind_of-word_of, payload_of_lt, name_length-payload, name_start-payload, name_bit-payload, name_rest-payload}
use Rattle.tok.proofs.TextLaws.{length-bytes_in, bytes_in-longer}

-- What is asked of a name payload, fact by fact.
pub record Good (bit : ℕ) (text : List ℕ) (w : ℕ) : Type 0 where
  pub rest : name_rest w ≡ 0
  pub home : name_bit w ≡ bit
  pub lies : name_start w + name_length w ≤ length text
  pub reads : well_formed (bytes_in text w) ≡ true

module _ (bit : ℕ) (text : List ℕ) (w : ℕ) where
  -- `good_payload` answers true where all of it holds, and nowhere else.
  pub good_payload-true : good_payload bit text w ≡ true → Good bit text w
  unfolding good_payload lies_in reads_well
  good_payload-true e =
      let h = (and-eq-true_iff (eqb (name_rest w) 0 && eqb (name_bit w) bit && lies_in text w) (reads_well text w)).0 e in
      let k = (and-eq-true_iff (eqb (name_rest w) 0 && eqb (name_bit w) bit) (lies_in text w)).0 h.0 in
      let l = (and-eq-true_iff (eqb (name_rest w) 0) (eqb (name_bit w) bit)).0 k.0 in
      record { rest = eqb-true _ _ l.0; home = eqb-true _ _ l.1; lies = leb-true _ _ k.1; reads = h.1 }

  -- Where the other tests hold, the last decides.
  pub good_payload-reads : name_rest w ≡ 0 → name_bit w ≡ bit → name_start w + name_length w ≤ length text
      → good_payload bit text w ≡ well_formed (bytes_in text w)
  unfolding good_payload lies_in reads_well
  good_payload-reads rest home lies = rw (eq-eqb _ _ rest, eq-eqb _ _ home, le-leb _ _ lies)

  pub good-good_payload : Good bit text w → good_payload bit text w ≡ true
  good-good_payload g = good_payload-reads g.rest g.home g.lies ∙ g.reads

  pub bad_good_payload : (Good bit text w → ⊥) → good_payload bit text w ≡ false
  bad_good_payload bad = go (good_payload bit text w) refl
    where
      go : (b : Bool) → good_payload bit text w ≡ b → b ≡ false
      go true e = absurd (bad (good_payload-true e))
      go false e = refl

  -- `good_name` asks for kind 12 besides.
  pub good_name_12 : kind_of w ≡ 12 → good_name bit text w ≡ good_payload bit text w
  unfolding good_name
  good_name_12 e = rw (eq-eqb _ _ e)

  pub good_name-other : (kind_of w ≡ 12 → ⊥) → good_name bit text w ≡ false
  unfolding good_name
  good_name-other d = rw (ne_eqb _ _ d)

  pub good_name-kind : good_name bit text w ≡ true → kind_of w ≡ 12
  unfolding good_name
  good_name-kind e = eqb-true _ _ ((and-eq-true_iff (eqb (kind_of w) 12) (good_payload bit text w)).0 e).0

  pub good_name-payload : good_name bit text w ≡ true → good_payload bit text w ≡ true
  unfolding good_name
  good_name-payload e = ((and-eq-true_iff (eqb (kind_of w) 12) (good_payload bit text w)).0 e).1

module _ (bit : ℕ) (text : List ℕ) (w : ℕ) (more : List ℕ) where
  -- What is accepted in a text is accepted in a longer one.
  pub good_payload-longer : good_payload bit text w ≡ true → good_payload bit (text ++ more) w ≡ true
  good_payload-longer e =
      let g = good_payload-true bit text w e in
      good_payload-reads bit (text ++ more) w g.rest g.home (simp length-append (omega (arith, g.lies)))
      ∙ ap well_formed (bytes_in-longer text w g.lies more)
      ∙ g.reads

  pub good_name-longer : good_name bit text w ≡ true → good_name bit (text ++ more) w ≡ true
  good_name-longer e =
      good_name_12 bit (text ++ more) w (good_name-kind bit text w e) ∙ good_payload-longer (good_name-payload bit text w e)

-- A payload is accepted alike under every kind, and a Foreign's or Slot's as the name word of it is.
pub good_payload-payload : (bit : ℕ) (text : List ℕ) (k w : ℕ)
    → good_payload bit text (word_of k (payload_of w)) ≡ good_payload bit text w
unfolding good_payload lies_in reads_well
good_payload-payload bit text k w =
    rw (name_rest-payload k w, name_bit-payload k w, name_start-payload k w, name_length-payload k w)

pub good_name-name_word : (bit : ℕ) (text : List ℕ) (w : ℕ) → good_name bit text (name_word w) ≡ good_payload bit text w
good_name-name_word bit text w =
    good_name_12 bit text (name_word w) (kind_of-word_of 12 (payload_of w) (payload_of_lt w)) ∙ good_payload-payload bit text 12 w

-- A name's bytes go by its payload alone: a Foreign or Slot word has the name that it carries.
pub name_bytes-payload : (t : Texts) (k w : ℕ) → name_bytes t (word_of k (payload_of w)) ≡ name_bytes t w
unfolding name_bytes
name_bytes-payload t k w = rw (name_length-payload k w, name_start-payload k w, name_bit-payload k w)

-- They come from the text that bit 24 says; a token's from the script text.
pub name_bytes-library : (t : Texts) (w : ℕ) → name_bit w ≡ 1 → name_bytes t w ≡ bytes_in t.library w
unfolding name_bytes
name_bytes-library t w e = rw (eq-eqb _ _ e)

pub name_bytes-script : (t : Texts) (w : ℕ) → (name_bit w ≡ 1 → ⊥) → name_bytes t w ≡ bytes_in t.script w
unfolding name_bytes
name_bytes-script t w d = rw (ne_eqb _ _ d)

pub name_bytes-token : (t : Texts) (w : ℕ) → name_bit w ≡ in_script → name_bytes t w ≡ token_bytes t.script w
unfolding token_bytes
name_bytes-token t w e = name_bytes-script t w (omega arith)

text_by-longer : (t : Texts) (s l : List ℕ) (bit : ℕ) → text_by (longer t s l) bit ≡ text_by t bit ++ text_by (texts_of s l) bit
text_by-longer t s l bit = go (eqb bit 1)
  where
    go : (b : Bool) → cond b (t.library ++ l) (t.script ++ s) ≡ cond b t.library t.script ++ cond b l s
    go true = refl
    go false = refl

-- A name that is accepted in its text: the script text for the bit of an image, the library text for that of a library.
module _ (t : Texts) (bit w : ℕ) (accepted : good_payload bit (text_by t bit) w ≡ true) where
  good : Good bit (text_by t bit) w
  good = good_payload-true bit (text_by t bit) w accepted

  name_bytes-home : name_bytes t w ≡ bytes_in (text_by t bit) w
  unfolding name_bytes
  name_bytes-home = rw good.home

  -- Its bytes are well formed by RFC 3629.
  pub name_bytes-well_formed : well_formed (name_bytes t w) ≡ true
  name_bytes-well_formed = rw name_bytes-home good.reads

  -- There are as many as its word says: it is not cut short.
  pub length-name_bytes : length (name_bytes t w) ≡ name_length w
  length-name_bytes = rw name_bytes-home (length-bytes_in (text_by t bit) w good.lies)

  -- They do not change when the texts are lengthened at their ends.
  pub name_bytes-longer : (s l : List ℕ) → name_bytes (longer t s l) w ≡ name_bytes t w
  unfolding name_bytes
  name_bytes-longer s l =
      rw (good.home, text_by-longer t s l bit) (bytes_in-longer (text_by t bit) w good.lies (text_by (texts_of s l) bit))

-- The same of a token that is accepted in the script text.
module _ (script : List ℕ) (w : ℕ) (accepted : good_name in_script script w ≡ true) where
  good-token : Good in_script script w
  good-token = good_payload-true in_script script w (good_name-payload in_script script w accepted)

  pub token_bytes-well_formed : well_formed (token_bytes script w) ≡ true
  unfolding token_bytes
  token_bytes-well_formed = good-token.reads

  pub length-token_bytes : length (token_bytes script w) ≡ name_length w
  unfolding token_bytes
  length-token_bytes = length-bytes_in script w good-token.lies

  pub token_bytes-longer : (more : List ℕ) → token_bytes (script ++ more) w ≡ token_bytes script w
  unfolding token_bytes
  token_bytes-longer more = bytes_in-longer script w good-token.lies more
