-- `NamesWellFormed`: every name and token of accepted inputs, visited or not, is read as UTF-8 well formed by RFC 3629. Assumes nothing.
use Prim.Native.Nat.{ℕ, zero, suc, ◌+◌, ◌<◌}
use Rattle.std.proofs.Common.{arith}
use Rattle.std.specs.Prelude.{◌≡◌, refl, List}
use Rattle.std.proofs.Math.Option.{none}
use Rattle.tok.specs.Text.{Texts}
use Rattle.tok.specs.Name.{in_script}
use Rattle.tok.proofs.NameLaws.{good_name-payload, name_bytes-well_formed}
use Rattle.ast.specs.declared.NodeKind.{NodeKind}
use Rattle.ast.specs.declared.NodeKind.TheVariants as kind
use Rattle.ast.specs.declared.ExprKind.{ExprKind}
use Rattle.ast.specs.declared.ExprKind.TheVariants as expr
use Rattle.ast.specs.Kinds.{kind_of_node, kind_of_expr}
use Rattle.ast.specs.KindLaws.{NodeNumber, node-number, ExprNumber, expr-number}
use Rattle.ast.specs.Image.{word_at, node_count, type_count, node_place, type_place, record_kind}
use Rattle.ast.specs.TypeExpr.{type_fields_from, type_of, args_from}
use Rattle.ast.specs.Node.{Cases, cases_from, values_from, words_from, externs_from, tree_of}
use Rattle.image_laws.specs.Many.{Each}
use Rattle.image_laws.specs.RecordWords.{Named, Pair, CasesWords, default_words, case_words, FunctionsWords, no_functions, function_words}
use Rattle.image_laws.proofs.NodesRead.{NodeRead, atom-words, ident-words, bin-words, unary-words, let_words, fn-words, match-words}
use Rattle.image_laws.proofs.NodesRead.{field-words, cast-words, import_words, extern-words, record_words, array-words}
use Rattle.image_laws.proofs.TypeLaws.{type-atom-words, type-foreign-words, type_record_words}
use Rattle.image_laws.proofs.Accepted.{Accepted, counts_in}
use Rattle.trees.specs.SameWords.{each_first, each-rest, cases-token}
use Rattle.trees.proofs.TypeTrees.{tree-type-atom, tree-type-foreign, tree-type-option, tree-type-array, tree-type_record}
use Rattle.trees.specs.Trees.{tree-atom, tree-ident, tree-bin, tree-unary, tree_let, tree-fn, tree-match, tree-call, tree-field, tree-cast, tree_import, tree-extern, tree_record, tree-array}
use Rattle.refusals.specs.Inputs.{Inputs, Buffers, texts_in}
use Rattle.refusals.specs.Refusals.{refusal_of}
use Rattle.rules.specs.Names.{arg_names, extern_names, case_tokens, value_names, node_names, field_names, type_names}
use Rattle.rules.specs.Promises.{Every, ReadsWell, NamesReadWell}
use Rattle.library_laws.specs.Names.{pool-well, packages-well}
use Rattle.accepts.proofs.Passed.{passed}
use Rattle.tworuns.specs.Pool.{every_join}

module _ (t : Texts) {image : List ℕ} (a : Accepted t.script image) where
  abbrev Well : ℕ → Type 0
  Well w = ReadsWell t w

  well : {at : ℕ} → Named t.script image at → Well (word_at image at)
  well {at} n = name_bytes-well_formed t in_script (word_at image at) (good_name-payload in_script t.script (word_at image at) n.good)

  -- ── Lists of names ──

  pairs-fields : (bound k at : ℕ) → Each (Pair t.script bound image) 2 at k → Every Well (field_names (type_fields_from (type_of image) image at k))
  unfolding Every field_names type_fields_from
  pairs-fields bound zero at e = tt
  pairs-fields bound (suc k) at e = (well (each_first (Pair t.script bound image) e).name, pairs-fields bound k (at + 2) (each-rest (Pair t.script bound image) e))

  pairs-args : (bound k at : ℕ) → Each (Pair t.script bound image) 2 at k → Every Well (arg_names (args_from image at k))
  unfolding Every arg_names args_from
  pairs-args bound zero at e = tt
  pairs-args bound (suc k) at e = (well (each_first (Pair t.script bound image) e).name, pairs-args bound k (at + 2) (each-rest (Pair t.script bound image) e))

  pairs-values : (bound k at : ℕ) → Each (Pair t.script bound image) 2 at k → Every Well (value_names (values_from (tree_of image) image at k))
  unfolding Every value_names values_from
  pairs-values bound zero at e = tt
  pairs-values bound (suc k) at e = (well (each_first (Pair t.script bound image) e).name, pairs-values bound k (at + 2) (each-rest (Pair t.script bound image) e))

  paths-well : (k at : ℕ) → Each (Named t.script image) 1 at k → Every Well (words_from image at k)
  unfolding Every words_from
  paths-well zero at e = tt
  paths-well (suc k) at e = (well (each_first (Named t.script image) e), paths-well k (at + 1) (each-rest (Named t.script image) e))

  cases-well : {n end at k : ℕ} → CasesWords (counts_in t.script image) image n end at k → Every Well (case_tokens (cases_from (tree_of image) image at k))
  unfolding Every case_tokens cases_from
  cases-well (default_words m l b) = tt
  cases-well (case_words m q body others) = (well m, cases-well others)

  functions-well : {end at k : ℕ} → FunctionsWords (counts_in t.script image) image end at k → Every Well (extern_names (externs_from image at k))
  unfolding Every extern_names externs_from
  functions-well (no_functions e) = tt
  functions-well (function_words {at = at} m y args others) =
      (well m, every_join Well (arg_names (args_from image (at + 3) (word_at image (at + 2)))) _ (pairs-args (type_count image) (word_at image (at + 2)) (at + 3) args) (functions-well others))

  -- ── Records ──

  type-by : (n : ℕ) (l : n < type_count image) (x : ExprKind) → ExprNumber x (record_kind image (type_place image n)) → Every Well (type_names (type_of image n))
  unfolding Every type_names
  type-by n l expr.Atom e = rw (tree-type-atom a n l e) (well (type-atom-words (a.type n l) e).token, tt)
  type-by n l expr.Foreign e = rw (tree-type-foreign a n l e) (well (type-foreign-words (a.type n l) e).token, tt)
  type-by n l expr.Option e = rw (tree-type-option a n l e) tt
  type-by n l expr.Array e = rw (tree-type-array a n l e) tt
  type-by n l expr.Record e = let w = type_record_words (a.type n l) e in rw (tree-type_record a n l e) (well w.token, pairs-fields n _ _ w.fields)
  type-by n l expr.None e = absurd (let h = (a.type n l).words.kind in omega arith)

  module _ (n : ℕ) (l : n < node_count image) where
    r : NodeRead (counts_in t.script image) image n
    r = a.node n l

    node_by : (x : NodeKind) → NodeNumber x (record_kind image (node_place image n)) → Every Well (node_names (tree_of image n))
    unfolding Every node_names
    node_by kind.Atom e = rw (tree-atom a n l e) (well (atom-words r e).token, tt)
    node_by kind.Ident e = rw (tree-ident a n l e) (well (ident-words r e).name, tt)
    node_by kind.Bin e = rw (tree-bin a n l e) (well (bin-words r e).token, tt)
    node_by kind.Unary e = rw (tree-unary a n l e) (well (unary-words r e).token, tt)
    node_by kind.Let e = rw (tree_let a n l e) (well (let_words r e).name, tt)
    node_by kind.Fn e = let w = fn-words r e in rw (tree-fn a n l e) (well w.name, pairs-args (type_count image) _ _ w.args)
    node_by kind.Match e =
        let w = match-words r e in
        let cs : Cases = cases_from (tree_of image) image (node_place image n + 3) (word_at image (node_place image n + 2)) in
        rw (tree-match a n l e) (every_join Well (case_tokens cs) _ (cases-well w.cases) (well (cases-token w.cases), tt))
    node_by kind.Call e = rw (tree-call a n l e) tt
    node_by kind.Field e = rw (tree-field a n l e) (well (field-words r e).name, tt)
    node_by kind.Cast e = rw (tree-cast a n l e) (well (cast-words r e).token, tt)
    node_by kind.Import e = let w = import_words r e in rw (tree_import a n l e) (well w.token, paths-well _ _ w.paths)
    node_by kind.Extern e = let w = extern-words r e in rw (tree-extern a n l e) (well w.token, (well w.name, functions-well w.functions))
    node_by kind.Record e = let w = record_words r e in rw (tree_record a n l e) (well w.token, pairs-values n _ _ w.values)
    node_by kind.Array e = rw (tree-array a n l e) (well (array-words r e).token, tt)
    node_by kind.None e = absurd (let h = r.words.kind in omega arith)

-- THE LAW
pub names-read-well : (i : Inputs) (b : Buffers) → refusal_of i b ≡ none → NamesReadWell i
names-read-well i b e =
    let p = passed i b e in
    record {
      nodes = λ n l. let k : ℕ = record_kind i.image (node_place i.image n) in node_by (texts_in i) p.image n l (kind_of_node k) (node-number k refl);
      types = λ n l. let k : ℕ = record_kind i.image (type_place i.image n) in type-by (texts_in i) p.image n l (kind_of_expr k) (expr-number k refl);
      pool = pool-well (texts_in i) i.library p.library;
      packages = packages-well (texts_in i) i.library p.library;
    }
