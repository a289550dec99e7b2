-- What the functions that cover lists ask for holds of the lists of a node's record, which begins at `at` with the word h, of kind k, and
-- is `long` words long. Assumes nothing.
use Prim.Native.Nat.{ℕ, ◌+◌, ◌*◌, ◌-◌, ◌/◌, ◌≤◌}
use mathlib.Core.Path.{◌≡◌, refl, sym}
use mathlib.Core.List.{List}
use native.Mathlib.Omega.{arith}
use lib.ListN.{get_or}
use Rattle.tok.specs.Word.{kind_of, payload_of}
use Rattle.ast.specs.Image.{record_length}
use Rattle.ast.specs.Node.{cases_end}
use Rattle.image_laws.specs.Many.{Each}
use Rattle.image_laws.specs.RecordWords.{Under, MatchWords, CasesWords}
use Rattle.trees.specs.SameWords.{cases_end_lem, cases_default}
use Rattle.places.specs.NodesAt.{NodeReady, PartReady, part-ready, counts_of, record_room, length-there, words-fn, words-match, words-call, words_import, words-extern, words_record, words-array}
use Rattle.spans.specs.Ready.{NodesReady, ValuesReady, CasesReady, ExternsReady, MatchReady}

module _ {image places : List ℕ} {n at : ℕ} (r : NodeReady image places n) (e : at ≡ get_or places n 0)
    {h k long : ℕ} (eh : h ≡ get_or image at 0) (ek : k ≡ kind_of h) (el : long ≡ payload_of h) where
  same : record_length image at ≡ long
  same = sym (length-there r e eh ek el)

  -- the record stands in the image
  pub room : at + long ≤ 8192
  room = rw same at (record_room r e)

  -- Fn: the body follows the arguments
  module _ {m : ℕ} (q : k ≡ 5) (em : m ≡ get_or image (at + 4) 0) where
    pub fn-long : 5 + 2 * m ≤ long
    fn-long = rw (em, ← same) (words-fn r e eh ek q).long

    pub fn-ready : NodesReady image places n (at + (5 + 2 * m)) (long - (5 + 2 * m))
    fn-ready =
        let z : at + 5 + 2 * m ≡ at + (5 + 2 * m) = omega arith in
        let b : Each (Under n image) 1 (at + 5 + 2 * m) (long - (5 + 2 * m)) = rw (em, ← same) (words-fn r e eh ek q).body in
        record { ready = r; nodes = rw z at b; room = omega (arith, fn-long, room) }

  -- Match
  pub match-ready : k ≡ 6 → MatchReady image places n at
  match-ready q = record { ready = r; place = e; kind = rw (← eh, ← ek) q }

  -- Call: the target, then the arguments
  pub call-target : {i : ℕ} → k ≡ 7 → i ≡ get_or image (at + 2) 0 → PartReady image places n i
  call-target q ei = part-ready r (words-call r e eh ek q).target ei

  pub call_long : k ≡ 7 → 3 ≤ long
  call_long q = rw (← same) (words-call r e eh ek q).long

  pub call-ready : k ≡ 7 → NodesReady image places n (at + 3) (long - 3)
  call-ready q = record { ready = r; nodes = rw (← same) (words-call r e eh ek q).args; room = omega (arith, call_long q, room) }

  -- Import
  pub import_long : k ≡ 10 → 3 ≤ long
  import_long q = rw (← same) (words_import r e eh ek q).long

  -- Extern
  pub extern-ready : {m : ℕ} → k ≡ 11 → m ≡ get_or image (at + 4) 0 → ExternsReady image places (at + 5) m
  extern-ready q em = record {
    readable = r.readable;
    end = at + record_length image at;
    functions = rw em (words-extern r e eh ek q).functions;
    room = record_room r e;
  }

  -- Record: pairs
  pub record_long : k ≡ 12 → 3 ≤ long
  record_long q = let w = (words_record r e eh ek q).long in rw (← same) (omega arith)

  pub record_ready : k ≡ 12 → ValuesReady image places n (at + 3) ((long - 3) / 2)
  record_ready q =
      let w : 3 + 2 * ((long - 3) / 2) ≡ long = rw (← same) (words_record r e eh ek q).long in
      record { ready = r; values = rw (← same) (words_record r e eh ek q).values; room = omega (arith, room) }

  -- Array: members
  pub array_long : k ≡ 13 → 3 ≤ long
  array_long q = rw (← same) (words-array r e eh ek q).long

  pub array-ready : k ≡ 13 → NodesReady image places n (at + 3) (long - 3)
  array-ready q = record { ready = r; nodes = rw (← same) (words-array r e eh ek q).members; room = omega (arith, array_long q, room) }

-- The cases of a Match, whose record is `long` words long, and its default, whose token is word d.
module _ {image places : List ℕ} {n at : ℕ} (r : MatchReady image places n at) where
  words : MatchWords (counts_of r.ready) image n at
  words = words-match r.ready r.place refl refl r.kind

  pub match-long : at + 4 ≤ 8192
  match-long = omega (arith, words.long, record_room r.ready r.place)

  module _ {m : ℕ} (em : m ≡ get_or image (at + 2) 0) where
    cases : CasesWords (counts_of r.ready) image n (at + record_length image at) (at + 3) m
    cases = rw em words.cases

    pub cases-ready : CasesReady image places n (at + 3) m
    cases-ready = record { ready = r.ready; end = at + record_length image at; cases = cases; room = record_room r.ready r.place }

    module _ {d long : ℕ} (ed : d ≡ cases_end image (at + 3) m) (el : long ≡ record_length image at) where
      pub match-room : at + long ≤ 8192
      match-room = rw el (record_room r.ready r.place)

      pub default_end : d + 1 ≤ at + long
      default_end = rw (ed, el) (cases_end_lem cases)

      pub default_ready : NodesReady image places n (d + 1) (at + long - (d + 1))
      default_ready = record { ready = r.ready; nodes = rw (ed, el) (cases_default cases); room = omega (arith, default_end, match-room) }
