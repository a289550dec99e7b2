-- Each return of `match_span`, `list_span` and `span_of`, over variables for what the calls gave: by the kind of the record. Assumes nothing.
use Prim.Native.Nat.{ℕ, zero, suc, ◌+◌, ◌*◌, ◌-◌, ◌/◌, ◌≤◌, ◌<◌}
use mathlib.Core.Path.{◌≡◌, refl, sym, ap, ◌∙◌}
use mathlib.Core.List.{List, ◌∷◌}
use mathlib.Core.Logic.{◌⊎◌, inl, inr}
use native.Mathlib.Omega.{arith}
use lib.ListN.{get_or}
use Rattle.tok.specs.Word.{kind_of, payload_of}
use Rattle.tok.specs.declared.Span.{Span}
use Rattle.tok.specs.Span.{token_span, cover}
use Rattle.tok.proofs.SpanLaws.{cover_spans-two}
use Rattle.ast.specs.Image.{record_length}
use Rattle.ast.specs.TypeExpr.{type_of}
use Rattle.ast.specs.declared.NodeKind.{NodeKind}
use Rattle.ast.specs.declared.NodeKind.TheVariants as node
use Rattle.ast.specs.Kinds.{kind_of_node}
use Rattle.ast.specs.KindLaws.{NodeNumber, node-number, node-not}
use Rattle.ast.specs.Node.{tree_of, cases_end}
use Rattle.ast.specs.Span.{type_span, span_of}
use Rattle.places.specs.NodesAt.{NodeReady, length-there, node-atom, node-ident, node-bin, node-unary, node_let, node-fn, node-match, node_call, node-field, node-cast, node_import}
use Rattle.places.specs.NodesAt.{node-extern, node_record, node-array}
use Rattle.spans.specs.Covers.{cover_from, cover-append, cover-from, cover-three, token-whole, span-whole}
use Rattle.spans.specs.Lists.{spans_at, value_spans_at, case_spans_at, token_spans_at, extern_spans_at}
use Rattle.spans.specs.Ready.{MatchReady, Listed, is-listed, is-array}

-- ── The kind that `span_of` and `list_span` match on ──

module _ {x : NodeKind} (k : ℕ) (e : x ≡ kind_of_node k) where
  pub leaf-kind : (x ≡ node.Atom) ⊎ (x ≡ node.Ident) → k < 2
  leaf-kind (inl q) = let n : NodeNumber node.Atom k = node-number k (sym q ∙ e) in omega (arith, n)
  leaf-kind (inr q) = let n : NodeNumber node.Ident k = node-number k (sym q ∙ e) in omega (arith, n)

  -- without the kinds that `span_of` names
  pub listed-left : k < 14 → (x ≡ node.Atom → ⊥) → (x ≡ node.Ident → ⊥) → (x ≡ node.Bin → ⊥) → (x ≡ node.Unary → ⊥) → (x ≡ node.Let → ⊥)
      → (x ≡ node.Field → ⊥) → (x ≡ node.Cast → ⊥) → Listed k
  listed-left small a i b u l f c =
      let na = node-not {y = node.Atom} _ e a in
      let ni = node-not {y = node.Ident} _ e i in
      let two : 2 ≤ k = omega (arith, na, ni) in
      is-listed small two (node-not _ e b) (node-not _ e u) (node-not _ e l) (node-not _ e f) (node-not _ e c)

  -- and without those that `list_span` names
  pub array-left : Listed k → (x ≡ node.Fn → ⊥) → (x ≡ node.Match → ⊥) → (x ≡ node.Call → ⊥) → (x ≡ node.Import → ⊥) → (x ≡ node.Extern → ⊥)
      → (x ≡ node.Record → ⊥) → k ≡ 13
  array-left l f m c i t r = is-array l (node-not _ e f) (node-not _ e m) (node-not _ e c) (node-not _ e i) (node-not _ e t) (node-not _ e r)

module _ {image places : List ℕ} {n at : ℕ} (r : NodeReady image places n) (e : at ≡ get_or places n 0) {h k : ℕ} (eh : h ≡ get_or image at 0) (ek : k ≡ kind_of h) where
  -- first: the token or name of most kinds
  module _ {w : ℕ} {first : Span} (ew : w ≡ get_or image (at + 2) 0) (ef : first ≡ token_span w) where
    leaf : (j : ℕ) → k ≡ j → j < 2 → first ≡ span_of (tree_of image n)
    unfolding span_of
    leaf zero q l = rw (ef, ew) (sym (ap span_of (node-atom r e eh ek q)))
    leaf (suc zero) q l = rw (ef, ew) (sym (ap span_of (node-ident r e eh ek q)))
    leaf (suc (suc j)) q l = absurd (omega arith)

    pub span-leaf : k < 2 → first ≡ span_of (tree_of image n)
    span-leaf l = leaf k refl l

    module _ {a : ℕ} {x y : Span} where
      pub span-bin : {b : ℕ} {z u : Span} → k ≡ 2 → a ≡ get_or image (at + 4) 0 → x ≡ span_of (tree_of image a) → b ≡ get_or image (at + 5) 0 → z ≡ span_of (tree_of image b)
          → u ≡ cover x first → y ≡ cover u z → y ≡ span_of (tree_of image n)
      unfolding span_of
      span-bin q ea ex eb ez eu ey = rw (ey, eu, ez, eb, ex, ea, ef, ew) (sym (ap span_of (node-bin r e eh ek q) ∙ cover-three _ _ _))

      pub span-unary : k ≡ 3 → a ≡ get_or image (at + 4) 0 → x ≡ span_of (tree_of image a) → y ≡ cover first x → y ≡ span_of (tree_of image n)
      unfolding span_of
      span-unary q ea ex ey = rw (ey, ex, ea, ef, ew) (sym (ap span_of (node-unary r e eh ek q) ∙ cover_spans-two _ _))

      pub span_let : k ≡ 4 → a ≡ get_or image (at + 3) 0 → x ≡ span_of (tree_of image a) → y ≡ cover first x → y ≡ span_of (tree_of image n)
      unfolding span_of
      span_let q ea ex ey = rw (ey, ex, ea, ef, ew) (sym (ap span_of (node_let r e eh ek q) ∙ cover_spans-two _ _))

      pub span-cast : {b : ℕ} {z u : Span} → k ≡ 9 → a ≡ get_or image (at + 3) 0 → x ≡ span_of (tree_of image a) → b ≡ get_or image (at + 4) 0 → z ≡ type_span (type_of image b)
          → u ≡ cover x first → y ≡ cover u z → y ≡ span_of (tree_of image n)
      unfolding span_of
      span-cast q ea ex eb ez eu ey = rw (ey, eu, ez, eb, ex, ea, ef, ew) (sym (ap span_of (node-cast r e eh ek q) ∙ cover-three _ _ _))

    -- with a list, of a record of `long` words
    module _ {long : ℕ} (el : long ≡ payload_of h) {y : Span} where
      pub span-fn : {m : ℕ} → k ≡ 5 → m ≡ get_or image (at + 4) 0 → y ≡ cover_from first (spans_at image (at + (5 + 2 * m)) (long - (5 + 2 * m))) → y ≡ span_of (tree_of image n)
      unfolding span_of
      span-fn {m} q em ey =
          let z : at + (5 + 2 * m) ≡ at + 5 + 2 * m = omega arith in
          rw (ey, z, em, length-there r e eh ek el, ef, ew) (cover-from _ _ (token-whole _) ∙ sym (ap span_of (node-fn r e eh ek q)))

      pub span_import : k ≡ 10 → y ≡ cover_from first (token_spans_at image (at + 3) (long - 3)) → y ≡ span_of (tree_of image n)
      unfolding span_of
      span_import q ey = rw (ey, length-there r e eh ek el, ef, ew) (cover-from _ _ (token-whole _) ∙ sym (ap span_of (node_import r e eh ek q)))

      pub span_record : k ≡ 12 → y ≡ cover_from first (value_spans_at image (at + 3) ((long - 3) / 2)) → y ≡ span_of (tree_of image n)
      unfolding span_of
      span_record q ey = rw (ey, length-there r e eh ek el, ef, ew) (cover-from _ _ (token-whole _) ∙ sym (ap span_of (node_record r e eh ek q)))

      pub span-array : k ≡ 13 → y ≡ cover_from first (spans_at image (at + 3) (long - 3)) → y ≡ span_of (tree_of image n)
      unfolding span_of
      span-array q ey = rw (ey, length-there r e eh ek el, ef, ew) (cover-from _ _ (token-whole _) ∙ sym (ap span_of (node-array r e eh ek q)))

    pub span-extern : {a m : ℕ} {x u y : Span} → k ≡ 11 → a ≡ get_or image (at + 3) 0 → x ≡ token_span a → u ≡ cover first x → m ≡ get_or image (at + 4) 0
        → y ≡ cover_from u (extern_spans_at image (at + 5) m) → y ≡ span_of (tree_of image n)
    unfolding span_of cover_from
    span-extern q ea ex eu em ey =
        rw (ey, eu, ex, ea, em, ef, ew) (cover-from (token_span _) (token_span _ ∷ _) (token-whole _) ∙ sym (ap span_of (node-extern r e eh ek q)))

  pub span-field : {a b : ℕ} {x y z : Span} → k ≡ 8 → a ≡ get_or image (at + 2) 0 → x ≡ span_of (tree_of image a) → b ≡ get_or image (at + 3) 0 → z ≡ token_span b
      → y ≡ cover x z → y ≡ span_of (tree_of image n)
  unfolding span_of
  span-field q ea ex eb ez ey = rw (ey, ez, eb, ex, ea) (sym (ap span_of (node-field r e eh ek q) ∙ cover_spans-two _ _))

  pub span-call : {a long : ℕ} {x y : Span} → long ≡ payload_of h → k ≡ 7 → a ≡ get_or image (at + 2) 0 → x ≡ span_of (tree_of image a)
      → y ≡ cover_from x (spans_at image (at + 3) (long - 3)) → y ≡ span_of (tree_of image n)
  unfolding span_of
  span-call el q ea ex ey =
      rw (ey, length-there r e eh ek el, ex, ea)
      (cover-from (span_of (tree_of image (get_or image (at + 2) 0))) (spans_at image (at + 3) (record_length image at - 3)) (span-whole (tree_of image (get_or image (at + 2) 0)))
      ∙ sym (ap span_of (node_call r e eh ek q)))

-- A Match, whose default's token is word d.
pub span-match : {image places : List ℕ} {n at : ℕ} (r : MatchReady image places n at) {m d w long : ℕ} {first x y : Span}
    → m ≡ get_or image (at + 2) 0 → d ≡ cases_end image (at + 3) m → w ≡ get_or image d 0 → first ≡ token_span w
    → x ≡ cover_from first (case_spans_at image (at + 3) m) → long ≡ record_length image at → y ≡ cover_from x (spans_at image (d + 1) (at + long - (d + 1))) → y ≡ span_of (tree_of image n)
unfolding span_of
span-match r em ed ew ef ex el ey =
    rw (ey, ex, ef, ew, ed, em, el)
    (sym (cover-append _ _ _) ∙ (cover-from _ _ (token-whole _) ∙ sym (ap span_of (node-match r.ready r.place refl refl r.kind))))
