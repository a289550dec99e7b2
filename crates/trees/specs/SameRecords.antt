-- Node records of two images that have the same words: the same tree is read from them, kind by kind. Assumes nothing.
use Prim.Native.Nat.{ℕ, zero, suc, ◌+◌, ◌*◌, ◌-◌, ◌/◌, ◌≤◌}
use Rattle.std.specs.Prelude.{◌≡◌, refl, List, get_or}
use Rattle.std.proofs.Common.{sym, ap, ◌∙◌, arith}
use Rattle.tok.specs.Word.{kind_of, payload_of}
use Rattle.ast.specs.Image.{word_at, node_place, record_kind, record_length}
use Rattle.ast.specs.TypeExpr.{type_of}
use Rattle.ast.specs.Node.{Node, Cases, Match, Reader, nodes_from, cases_from, cases_end, read_fn, read_match, read_call, read_import, read_extern, read_record, read_array, read_absent, readers}
use Rattle.ast.specs.Outline.{Counts}
use Rattle.image_laws.specs.Many.{Each}
use Rattle.image_laws.specs.RecordWords.{Under, FnWords, MatchWords, CallWords, ImportWords, ExternWords, RecordWords, ArrayWords}
use Rattle.image_laws.proofs.NodesRead.{NodeRead, atom-words, ident-words, bin-words, unary-words, let_words, fn-words, match-words, call-words, field-words, cast-words}
use Rattle.image_laws.proofs.NodesRead.{import_words, extern-words, record_words, array-words}
use Rattle.trees.specs.SameWords.{SameWords, Agree, same_first, same_from, words_same, args-same, externs_same, nodes-same, values_same, cases_same, end_same, cases-low, cases_end_lem, cases_default}

-- the reader of the kind that stands at a place
unfoldable pub read_node : Reader
read_node go image n at = get_or readers (record_kind image at) read_absent go image n at

pub node_as : (go : ℕ → Node) (image : List ℕ) (n at k : ℕ) → record_kind image at ≡ k → read_node go image n at ≡ get_or readers k read_absent go image n at
unfolding read_node
node_as go image n at k e = ap (λ (x : ℕ). get_or readers x read_absent go image n at) e

-- Node n of an accepted image, whose record stands at its place, and the same words in another image. The parts and types that it names are
-- the same in both.
module _ {c : Counts} {image image' : List ℕ} {n at' : ℕ} {go go' : ℕ → Node} (r : NodeRead c image n) (a : Agree n go go')
    (y : Agree c.types (type_of image) (type_of image')) (s : SameWords image image' (node_place image n) at' (record_length image (node_place image n))) where
  abbrev at : ℕ
  at = node_place image n

  abbrev long : ℕ
  long = record_length image at

  head : word_at image' at' ≡ word_at image at
  head = same_first s (let l = r.words.long in omega arith)

  same-long : record_length image' at' ≡ long
  same-long = ap payload_of head

  fn_same : FnWords c image n at → read_fn go' image' n at' ≡ read_fn go image n at
  fn_same w =
      let k : ℕ = word_at image (at + 4) in
      let l = w.long in
      let e : at + 5 + 2 * k ≡ at + (5 + 2 * k) = omega arith in
      let e' : at' + 5 + 2 * k ≡ at' + (5 + 2 * k) = omega arith in
      let body : SameWords image image' (at + 5 + 2 * k) (at' + 5 + 2 * k) (long - (5 + 2 * k)) = rw (e, e') (same_from s (5 + 2 * k) (long - (5 + 2 * k)) (omega arith)) in
      rw (
        s.same 1 (omega arith),
        s.same 2 (omega arith),
        s.same 3 (omega arith),
        s.same 4 (omega arith),
        same-long,
        y.agree (word_at image (at + 3)) w.ret.under,
        args-same image image' y k (at + 5) (at' + 5) (same_from s 5 (2 * k) (omega arith)) w.args,
        nodes-same image image' a (long - (5 + 2 * k)) (at + 5 + 2 * k) (at' + 5 + 2 * k) body w.body,
      )

  -- the words from d words after the record's beginning on, wherever that is said to be
  there : (p p' d k : ℕ) → p ≡ at + d → p' ≡ at' + d → d + k ≤ long → SameWords image image' p p' k
  there p p' d k e e' l = rw (e, e') (same_from s d k l)

  -- the default of a Match
  default_same : (end end' : ℕ) → at ≤ end → end + 1 ≤ at + long → end' + at ≡ end + at' → Each (Under n image) 1 (end + 1) (at + long - (end + 1)) → (slot : ℕ) (cs : Cases)
      → Match n slot cs (word_at image' end') (nodes_from go' image' (end' + 1) (at' + long - (end' + 1)))
      ≡ Match n slot cs (word_at image end) (nodes_from go image (end + 1) (at + long - (end + 1)))
  default_same end end' low high e b slot cs =
      let m : at' + long - (end' + 1) ≡ at + long - (end + 1) = omega arith in
      rw (
        m,
        same_first (there end end' (end - at) 1 (omega arith) (omega arith) (omega arith)) (omega arith),
        nodes-same image image' a (at + long - (end + 1)) (end + 1) (end' + 1) (there (end + 1) (end' + 1) (end + 1 - at) _ (omega arith) (omega arith) (omega arith)) b,
      )

  match-same : MatchWords c image n at → read_match go' image' n at' ≡ read_match go image n at
  match-same w =
      let k : ℕ = word_at image (at + 2) in
      let l = w.long in
      let cs : SameWords image image' (at + 3) (at' + 3) (at + long - (at + 3)) = there (at + 3) (at' + 3) 3 (at + long - (at + 3)) refl refl (omega arith) in
      rw (s.same 1 (omega arith), s.same 2 (omega arith), same-long, cases_same image image' a (at' + 3) cs w.cases)
      (default_same (cases_end image (at + 3) k) (cases_end image' (at' + 3) k) (omega (arith, cases-low image k (at + 3))) (cases_end_lem w.cases)
      (omega (arith, end_same image image' (at' + 3) cs w.cases)) (cases_default w.cases) (word_at image (at + 1)) (cases_from go image (at + 3) k))

  call_same : CallWords c image n at → read_call go' image' n at' ≡ read_call go image n at
  call_same w =
      let l = w.long in
      rw (
        s.same 1 (omega arith),
        s.same 2 (omega arith),
        same-long,
        a.agree (word_at image (at + 2)) w.target.under,
        nodes-same image image' a (long - 3) (at + 3) (at' + 3) (same_from s 3 (long - 3) (omega arith)) w.args,
      )

  import_same : ImportWords c image n at → read_import go' image' n at' ≡ read_import go image n at
  import_same w =
      let l = w.long in
      rw (s.same 1 (omega arith), s.same 2 (omega arith), same-long, words_same image image' (long - 3) (at + 3) (at' + 3) (same_from s 3 (long - 3) (omega arith)))

  extern-same : ExternWords c image n at → read_extern go' image' n at' ≡ read_extern go image n at
  extern-same w =
      let l = w.long in
      rw (
        s.same 1 (omega arith),
        s.same 2 (omega arith),
        s.same 3 (omega arith),
        s.same 4 (omega arith),
        externs_same image image' y (at' + 5) (there (at + 5) (at' + 5) 5 (at + long - (at + 5)) refl refl (omega arith)) w.functions,
      )

  record_same : RecordWords c image n at → read_record go' image' n at' ≡ read_record go image n at
  record_same w =
      let l = w.long in
      rw (
        s.same 1 (omega arith),
        s.same 2 (omega arith),
        same-long,
        values_same image image' a ((long - 3) / 2) (at + 3) (at' + 3) (same_from s 3 (2 * ((long - 3) / 2)) (omega arith)) w.values,
      )

  array_same : ArrayWords c image n at → read_array go' image' n at' ≡ read_array go image n at
  array_same w =
      let l = w.long in
      rw (
        s.same 1 (omega arith),
        s.same 2 (omega arith),
        same-long,
        nodes-same image image' a (long - 3) (at + 3) (at' + 3) (same_from s 3 (long - 3) (omega arith)) w.members,
      )

  by : (k : ℕ) → record_kind image at ≡ k → get_or readers k read_absent go' image' n at' ≡ get_or readers k read_absent go image n at → read_node go' image' n at' ≡ read_node go image n at
  by k e h = node_as go' image' n at' k (ap kind_of head ∙ e) ∙ (h ∙ sym (node_as go image n at k e))

  by_kind : (k : ℕ) → record_kind image at ≡ k → read_node go' image' n at' ≡ read_node go image n at
  unfolding readers
  by_kind zero e = let l = (atom-words r e).long in by 0 e (rw (s.same 1 (omega arith), s.same 2 (omega arith), s.same 3 (omega arith)))
  by_kind (suc zero) e = let l = (ident-words r e).long in by 1 e (rw (s.same 1 (omega arith), s.same 2 (omega arith)))
  by_kind (suc (suc zero)) e =
      let w = bin-words r e in
      let l = w.long in
      by 2 e
      (rw (
        s.same 1 (omega arith),
        s.same 2 (omega arith),
        s.same 3 (omega arith),
        s.same 4 (omega arith),
        s.same 5 (omega arith),
        a.agree (word_at image (at + 4)) w.left.under,
        a.agree (word_at image (at + 5)) w.right.under,
      ))
  by_kind (suc (suc (suc zero))) e =
      let w = unary-words r e in
      let l = w.long in
      by 3 e
      (rw (s.same 1 (omega arith), s.same 2 (omega arith), s.same 3 (omega arith), s.same 4 (omega arith), a.agree (word_at image (at + 4)) w.right.under))
  by_kind (suc (suc (suc (suc zero)))) e =
      let w = let_words r e in
      let l = w.long in
      by 4 e (rw (s.same 1 (omega arith), s.same 2 (omega arith), s.same 3 (omega arith), a.agree (word_at image (at + 3)) w.right.under))
  by_kind (suc (suc (suc (suc (suc zero))))) e = by 5 e (fn_same (fn-words r e))
  by_kind (suc (suc (suc (suc (suc (suc zero)))))) e = by 6 e (match-same (match-words r e))
  by_kind (suc (suc (suc (suc (suc (suc (suc zero))))))) e = by 7 e (call_same (call-words r e))
  by_kind (suc (suc (suc (suc (suc (suc (suc (suc zero)))))))) e =
      let w = field-words r e in
      let l = w.long in
      by 8 e (rw (s.same 1 (omega arith), s.same 2 (omega arith), s.same 3 (omega arith), a.agree (word_at image (at + 2)) w.target.under))
  by_kind (suc (suc (suc (suc (suc (suc (suc (suc (suc zero))))))))) e =
      let w = cast-words r e in
      let l = w.long in
      by 9 e
      (rw (
        s.same 1 (omega arith),
        s.same 2 (omega arith),
        s.same 3 (omega arith),
        s.same 4 (omega arith),
        a.agree (word_at image (at + 3)) w.left.under,
        y.agree (word_at image (at + 4)) w.type.under,
      ))
  by_kind (suc (suc (suc (suc (suc (suc (suc (suc (suc (suc zero)))))))))) e = by 10 e (import_same (import_words r e))
  by_kind (suc (suc (suc (suc (suc (suc (suc (suc (suc (suc (suc zero))))))))))) e = by 11 e (extern-same (extern-words r e))
  by_kind (suc (suc (suc (suc (suc (suc (suc (suc (suc (suc (suc (suc zero)))))))))))) e = by 12 e (record_same (record_words r e))
  by_kind (suc (suc (suc (suc (suc (suc (suc (suc (suc (suc (suc (suc (suc zero))))))))))))) e = by 13 e (array_same (array-words r e))
  by_kind (suc (suc (suc (suc (suc (suc (suc (suc (suc (suc (suc (suc (suc (suc k)))))))))))))) e = absurd (let l = r.words.kind in omega arith)

  pub node-same : read_node go' image' n at' ≡ read_node go image n at
  node-same = by_kind (record_kind image at) refl
