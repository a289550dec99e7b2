-- Refusal 3: what is visited in an accepted image owns slots below V, its names lie in the script text, and a call's target is an Ident or a
-- Field (`SoundAll`). By induction on numbers. Assumes nothing but that the image is accepted.
use Prim.Native.Nat.{ℕ, zero, suc, ◌+◌, ◌≤◌, ◌<◌}
use native.Mathlib.Omega.{arith}
use Rattle.std.specs.Prelude.{◌≡◌, refl, true, List}
use Rattle.std.proofs.Math.Logic.{inl, inr}
use Rattle.std.proofs.Common.{ne_eqb}
use Rattle.tok.specs.Text.{Texts}
use Rattle.tok.specs.Name.{in_script}
use Rattle.tok.proofs.NameLaws.{good_name-payload}
use Rattle.ptype.specs.Kinds.{Plain, one_of}
use Rattle.ptype.specs.Inside.{Lies}
use Rattle.ptype.proofs.GrowLaws.{accepted-lies}
use Rattle.ast.specs.declared.NodeKind.{NodeKind}
use Rattle.ast.specs.declared.NodeKind.TheVariants as kind
use Rattle.ast.specs.declared.ExprKind.{ExprKind}
use Rattle.ast.specs.declared.ExprKind.TheVariants as expr
use Rattle.ast.specs.Kinds.{kind_of_node, kind_of_expr}
use Rattle.ast.specs.KindLaws.{NodeNumber, node-number, ExprNumber, expr-number}
use Rattle.ast.specs.Image.{word_at, node_count, type_count, root_count, slot_count, node_place, type_place, record_kind}
use Rattle.ast.specs.TypeExpr.{type_fields_from, type_of, args_from}
use Rattle.ast.specs.Node.{Node, nodes_from, cases_from, values_from, words_from, externs_from, tree_of, first_roots, roots_of}
use Rattle.ast.specs.Node.{Atom, Ident, Bin, Unary, Let, Fn, Match, Call, Field, Cast, Import, Extern, Record, Array, Absent}
use Rattle.ast.specs.Outline.{Counts}
use Rattle.ast.specs.NodeRecords.{callable}
use Rattle.image_laws.specs.OutlineAt.{outline_at}
use Rattle.image_laws.specs.Many.{Each}
use Rattle.image_laws.specs.RecordWords.{Named, Under, Pair, CasesWords, default_words, case_words, FunctionsWords, no_functions, function_words}
use Rattle.image_laws.proofs.NodesRead.{NodeRead, atom-words, ident-words, bin-words, unary-words, let_words, fn-words, match-words}
use Rattle.image_laws.proofs.NodesRead.{call-words, field-words, cast-words, import_words, extern-words, record_words, array-words}
use Rattle.image_laws.proofs.TypeLaws.{type-atom-words, type-foreign-words, type-option-words, type-array-words, type_record_words}
use Rattle.image_laws.proofs.Accepted.{Accepted, counts_in}
use Rattle.trees.specs.SameWords.{each_first, each-rest, cases_default}
use Rattle.trees.proofs.TypeTrees.{tree-type-atom, tree-type-foreign, tree-type-option, tree-type-array, tree-type_record}
use Rattle.trees.specs.Trees.{tree-atom, tree-ident, tree-bin, tree-unary, tree_let, tree-fn, tree-match, tree-call, tree-field, tree-cast, tree_import, tree-extern, tree_record, tree-array}
use Rattle.rules.specs.Calls.{field_callee, callee_of}
use Rattle.laws.specs.SlotsOf.{ArgSlots}
use Rattle.tworuns.specs.Sound.{SoundType, SoundTypes, SoundArgs, SoundExterns, SoundNames, SoundCallee, Sound, SoundAll, SoundCases, SoundValues}

-- "kind 1 to 5", "type kind 2 to 5"
plain-low : (k : ℕ) → k ≤ 5 → Plain k
plain-low k l = record {
  no_wrap = rw (ne_eqb k 6 (λ e. omega arith), ne_eqb k 7 (λ e. omega arith));
  no_record = λ e. omega arith;
  no_name = rw (ne_eqb k 9 (λ e. omega arith), ne_eqb k 10 (λ e. omega arith));
}

-- a call's target says what it says by its own names, and those of an Ident inside it
module _ (P N : ℕ → Type 0) where
  field_callee_lem : (name : ℕ) → N name → (x : Node) → Sound P N x → SoundCallee P N (field_callee name x)
  unfolding Sound SoundCallee field_callee
  field_callee_lem name h (Ident n slot p) s = (s.1, h)
  field_callee_lem name h (Atom n slot token k) s = tt
  field_callee_lem name h (Bin n slot token op l r) s = tt
  field_callee_lem name h (Unary n slot token op r) s = tt
  field_callee_lem name h (Let n slot x r) s = tt
  field_callee_lem name h (Fn n slot x ret args body) s = tt
  field_callee_lem name h (Match n slot cs token d) s = tt
  field_callee_lem name h (Call n slot target args) s = tt
  field_callee_lem name h (Field n slot target x) s = tt
  field_callee_lem name h (Cast n slot token l t) s = tt
  field_callee_lem name h (Import n slot token paths) s = tt
  field_callee_lem name h (Extern n slot token x fs) s = tt
  field_callee_lem name h (Record n slot token fs) s = tt
  field_callee_lem name h (Array n slot token ms) s = tt
  field_callee_lem name h (Absent n) s = tt

  -- "target (Ident or Field)"
  ident_callee : (x : Node) (n slot name : ℕ) → x ≡ Ident n slot name → Sound P N x → SoundCallee P N (callee_of x)
  unfolding Sound SoundCallee callee_of
  ident_callee x n slot name e h = rw e (rw e at h).1

  target_callee : (x : Node) (n slot name : ℕ) (target : Node) → x ≡ Field n slot target name → Sound P N x → SoundCallee P N (callee_of x)
  unfolding Sound SoundCallee callee_of
  target_callee x n slot name target e h = let k = rw e at h in rw e (field_callee_lem name k.2 target k.1)

module _ (t : Texts) {image : List ℕ} (a : Accepted t.script image) where
  -- slots below V, and names in the script text
  abbrev Low : ℕ → Type 0
  Low slot = slot < slot_count image

  abbrev In : ℕ → Type 0
  In w = Lies t w

  abbrev c : Counts
  c = counts_in t.script image

  lies : {at : ℕ} → Named t.script image at → In (word_at image at)
  lies {at} n = accepted-lies t in_script (word_at image at) (good_name-payload in_script t.script (word_at image at) n.good)

  -- ── Types ──

  fields_sound : (bound : ℕ) → ((p : ℕ) → p < bound → SoundType Low In (type_of image p)) → (k at : ℕ)
      → Each (Pair t.script bound image) 2 at k → SoundTypes Low In (type_fields_from (type_of image) image at k)
  unfolding SoundType type_fields_from
  fields_sound bound go zero at e = tt
  fields_sound bound go (suc k) at e =
      let p = each_first (Pair t.script bound image) e in
      (lies p.name, go (word_at image (at + 1)) p.value.under, fields_sound bound go k (at + 2) (each-rest (Pair t.script bound image) e))

  type-by : (n : ℕ) (l : n < type_count image) → ((p : ℕ) → p < n → SoundType Low In (type_of image p))
      → (x : ExprKind) → ExprNumber x (record_kind image (type_place image n)) → SoundType Low In (type_of image n)
  unfolding SoundType
  type-by n l go expr.Atom e = rw (tree-type-atom a n l e) (plain-low _ (type-atom-words (a.type n l) e).most)
  type-by n l go expr.Foreign e = rw (tree-type-foreign a n l e) (lies (type-foreign-words (a.type n l) e).token)
  type-by n l go expr.Option e = rw (tree-type-option a n l e) (go _ (type-option-words (a.type n l) e).inner.under)
  type-by n l go expr.Array e = rw (tree-type-array a n l e) (go _ (type-array-words (a.type n l) e).inner.under)
  type-by n l go expr.Record e = rw (tree-type_record a n l e) (fields_sound n go _ _ (type_record_words (a.type n l) e).fields)
  type-by n l go expr.None e = absurd (let h = (a.type n l).words.kind in omega arith)

  type-deep : (f n : ℕ) → n < f → n < type_count image → SoundType Low In (type_of image n)
  type-deep zero n h l = absurd (omega arith)
  type-deep (suc f) n h l =
      let k : ℕ = record_kind image (type_place image n) in
      type-by n l (λ p q. type-deep f p (omega arith) (omega arith)) (kind_of_expr k) (expr-number k refl)

  pub type_sound : (n : ℕ) → n < type_count image → SoundType Low In (type_of image n)
  type_sound n l = type-deep (type_count image) n l l

  args_sound : (k at : ℕ) → Each (Pair t.script (type_count image) image) 2 at k → SoundArgs Low In (args_from image at k)
  unfolding SoundArgs args_from
  args_sound zero at e = tt
  args_sound (suc k) at e =
      let p = each_first (Pair t.script (type_count image) image) e in
      (lies p.name, type_sound (word_at image (at + 1)) p.value.under, args_sound k (at + 2) (each-rest (Pair t.script (type_count image) image) e))

  -- "slots (an Fn's argument slots too) below V"
  args_low : (k at slot : ℕ) → slot + k ≤ slot_count image → ArgSlots Low slot (args_from image at k)
  unfolding ArgSlots args_from
  args_low zero at slot l = tt
  args_low (suc k) at slot l = (omega arith, args_low k (at + 2) (slot + 1) (omega arith))

  externs_sound : {end at k : ℕ} → FunctionsWords c image end at k → SoundExterns Low In (externs_from image at k)
  unfolding SoundExterns externs_from
  externs_sound (no_functions e) = tt
  externs_sound (function_words {at = at} {k = k} m y args others) = (lies m, args_sound (word_at image (at + 2)) (at + 3) args, type_sound (word_at image (at + 1)) y.under, externs_sound others)

  names_sound : (k at : ℕ) → Each (Named t.script image) 1 at k → SoundNames Low In (words_from image at k)
  unfolding SoundNames words_from
  names_sound zero at e = tt
  names_sound (suc k) at e = (lies (each_first (Named t.script image) e), names_sound k (at + 1) (each-rest (Named t.script image) e))

  -- ── Nodes ──

  module _ (n : ℕ) (go : (p : ℕ) → p < n → Sound Low In (tree_of image p)) where
    nodes_sound : (k at : ℕ) → Each (Under n image) 1 at k → SoundAll Low In (nodes_from (tree_of image) image at k)
    unfolding SoundAll nodes_from
    nodes_sound zero at e = tt
    nodes_sound (suc k) at e = (go (word_at image at) (each_first (Under n image) e).under, nodes_sound k (at + 1) (each-rest (Under n image) e))

    values_sound : (k at : ℕ) → Each (Pair t.script n image) 2 at k → SoundValues Low In (values_from (tree_of image) image at k)
    unfolding SoundValues values_from
    values_sound zero at e = tt
    values_sound (suc k) at e =
        let p = each_first (Pair t.script n image) e in
        (lies p.name, go (word_at image (at + 1)) p.value.under, values_sound k (at + 2) (each-rest (Pair t.script n image) e))

    cases_sound : {end at k : ℕ} → CasesWords c image n end at k → SoundCases Low In (cases_from (tree_of image) image at k)
    unfolding SoundCases cases_from
    cases_sound (default_words m l b) = tt
    cases_sound (case_words {at = at} m q body others) = (go (word_at image (at + 1)) q.under, nodes_sound (word_at image (at + 2)) (at + 3) body, cases_sound others)

    callee_sound : n < node_count image → {m : ℕ} → m < n → callable (outline_at image m) ≡ true → SoundCallee Low In (callee_of (tree_of image m))
    unfolding outline_at
    callee_sound l {m} h c =
        let q : m < node_count image = omega arith in
        elim (one_of 1 8 (record_kind image (node_place image m)) c) [
          | inl e ↦ ident_callee Low In (tree_of image m) _ _ _ (tree-ident a m q e) (go m h)
          | inr e ↦ target_callee Low In (tree_of image m) _ _ _ _ (tree-field a m q e) (go m h)
        ]

    module _ (l : n < node_count image) where
      r : NodeRead c image n
      r = a.node n l

      own : Low (word_at image (node_place image n + 1))
      own = r.words.slot.under

      by_kind : (x : NodeKind) → NodeNumber x (record_kind image (node_place image n)) → Sound Low In (tree_of image n)
      unfolding Sound
      by_kind kind.Atom e = rw (tree-atom a n l e) (own, plain-low _ (atom-words r e).most)
      by_kind kind.Ident e = rw (tree-ident a n l e) (own, lies (ident-words r e).name)
      by_kind kind.Bin e = let w = bin-words r e in rw (tree-bin a n l e) (own, go _ w.left.under, go _ w.right.under)
      by_kind kind.Unary e = rw (tree-unary a n l e) (own, go _ (unary-words r e).right.under)
      by_kind kind.Let e = let w = let_words r e in rw (tree_let a n l e) (own, lies w.name, go _ w.right.under)
      by_kind kind.Fn e =
          let w = fn-words r e in
          let s = w.slots in
          rw (tree-fn a n l e) (
            own,
            lies w.name,
            type_sound _ w.ret.under,
            args_sound _ _ w.args,
            args_low (word_at image (node_place image n + 4)) (node_place image n + 5) (word_at image (node_place image n + 1) + 1) (omega arith),
            nodes_sound _ _ w.body,
          )
      by_kind kind.Match e = let w = match-words r e in rw (tree-match a n l e) (own, cases_sound w.cases, nodes_sound _ _ (cases_default w.cases))
      by_kind kind.Call e =
          let w = call-words r e in
          rw (tree-call a n l e) (own, callee_sound l w.target.under w.callable, nodes_sound _ _ w.args)
      by_kind kind.Field e = let w = field-words r e in rw (tree-field a n l e) (own, go _ w.target.under, lies w.name)
      by_kind kind.Cast e = let w = cast-words r e in rw (tree-cast a n l e) (own, go _ w.left.under, type_sound _ w.type.under)
      by_kind kind.Import e = rw (tree_import a n l e) (own, names_sound _ _ (import_words r e).paths)
      by_kind kind.Extern e = let w = extern-words r e in rw (tree-extern a n l e) (own, lies w.name, externs_sound w.functions)
      by_kind kind.Record e = rw (tree_record a n l e) (own, values_sound _ _ (record_words r e).values)
      by_kind kind.Array e = rw (tree-array a n l e) (own, nodes_sound _ _ (array-words r e).members)
      by_kind kind.None e = absurd (let h = r.words.kind in omega arith)

  deep : (f n : ℕ) → n < f → n < node_count image → Sound Low In (tree_of image n)
  deep zero n h l = absurd (omega arith)
  deep (suc f) n h l =
      let k : ℕ = record_kind image (node_place image n) in
      by_kind n (λ p q. deep f p (omega arith) (omega arith)) l (kind_of_node k) (node-number k refl)

  -- THE LAW
  pub roots_sound : SoundAll (λ slot. slot < slot_count image) (Lies t) (roots_of image)
  unfolding roots_of first_roots
  roots_sound = nodes_sound (node_count image) (λ p q. deep (node_count image) p q q) (root_count image) 4 a.roots
