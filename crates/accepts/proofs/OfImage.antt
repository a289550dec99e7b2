-- The trees of an accepted image: a node's visited parts, slots and entry are those of its outline, by number; and so of all that is visited.
-- Assumes nothing but that the image is accepted.
use Prim.Native.Nat.{ℕ, zero, suc, ◌+◌, ◌*◌, ◌-◌, ◌/◌, ◌≤◌, ◌<◌}
use native.Mathlib.Omega.{arith}
use Rattle.std.proofs.Math.Nat.{le_of_eq}
use Rattle.std.specs.Prelude.{◌≡◌, Bool, true, false, cond, length, get_or, eqb}
use Rattle.std.proofs.Math.Path.{refl, sym, ap}
use Rattle.std.proofs.Common.{◌∙◌}
use mathlib.Core.List.{List, ◌∷◌, ◌++◌, append_assoc}
use Rattle.ast.specs.declared.NodeKind.{NodeKind}
use Rattle.ast.specs.declared.NodeKind.TheVariants as kind
use Rattle.ast.specs.Kinds.{kind_of_node}
use Rattle.ast.specs.KindLaws.{NodeNumber, node-number}
use Rattle.ast.specs.Image.{word_at, node_count, node_place, record_kind, record_length}
use Rattle.ast.specs.TypeExpr.{args_from}
use Rattle.ast.specs.Node.{Node, nodes_from, cases_from, cases_end, values_from, read_absent, readers, tree_within, tree_of, slot_of}
use Rattle.ast.specs.Claims.{slots_owned}
use Rattle.ast.specs.Room.{entry_words}
use Rattle.image_laws.specs.OutlineAt.{parts_from, case_parts, parts_by_kind, no_parts, parts_at, arguments_at, outline_at}
use Rattle.image_laws.proofs.Accepted.{Accepted}
use Rattle.trees.specs.Trees.{tree-atom, tree-ident, tree-bin, tree-unary, tree_let, tree-fn, tree-match, tree-call, tree-field, tree-cast, tree_import, tree-extern, tree_record, tree-array}
use Rattle.rules.specs.Visited.{number_of, arguments_of, slots_of}
use Rattle.accepts.specs.Count.{total, count}
use Rattle.accepts.specs.ClaimedOnce.{in_parts}
use Rattle.accepts.specs.VisitedParts.{numbers_of, case_numbers, value_numbers, visited_parts, entry_length}

-- ── The numbers of trees, and of lists of trees ──

-- whatever its kind, the tree of n has the number n
reader_number : (go : ℕ → Node) (image : List ℕ) (n at k : ℕ) → number_of (get_or readers k read_absent go image n at) ≡ n
unfolding readers number_of
reader_number go image n at zero = refl
reader_number go image n at (suc zero) = refl
reader_number go image n at (suc (suc zero)) = refl
reader_number go image n at (suc (suc (suc zero))) = refl
reader_number go image n at (suc (suc (suc (suc zero)))) = refl
reader_number go image n at (suc (suc (suc (suc (suc zero))))) = refl
reader_number go image n at (suc (suc (suc (suc (suc (suc zero)))))) = refl
reader_number go image n at (suc (suc (suc (suc (suc (suc (suc zero))))))) = refl
reader_number go image n at (suc (suc (suc (suc (suc (suc (suc (suc zero)))))))) = refl
reader_number go image n at (suc (suc (suc (suc (suc (suc (suc (suc (suc zero))))))))) = refl
reader_number go image n at (suc (suc (suc (suc (suc (suc (suc (suc (suc (suc zero)))))))))) = refl
reader_number go image n at (suc (suc (suc (suc (suc (suc (suc (suc (suc (suc (suc zero))))))))))) = refl
reader_number go image n at (suc (suc (suc (suc (suc (suc (suc (suc (suc (suc (suc (suc zero)))))))))))) = refl
reader_number go image n at (suc (suc (suc (suc (suc (suc (suc (suc (suc (suc (suc (suc (suc zero))))))))))))) = refl
reader_number go image n at (suc (suc (suc (suc (suc (suc (suc (suc (suc (suc (suc (suc (suc (suc k)))))))))))))) = refl

pub tree-number : (image : List ℕ) (n : ℕ) → number_of (tree_of image n) ≡ n
unfolding tree_of tree_within
tree-number image n = reader_number (tree_within image n) image n (node_place image n) (record_kind image (node_place image n))

module _ (image : List ℕ) where
  pub nodes-numbers : (k at : ℕ) → numbers_of (nodes_from (tree_of image) image at k) ≡ parts_from image 1 at k
  unfolding numbers_of nodes_from parts_from
  nodes-numbers zero at = refl
  nodes-numbers (suc k) at = rw (tree-number image (word_at image at), nodes-numbers k (at + 1))

  values-numbers : (k at : ℕ) → value_numbers (values_from (tree_of image) image at k) ≡ parts_from image 2 (at + 1) k
  unfolding value_numbers values_from parts_from
  values-numbers zero at = refl
  values-numbers (suc k) at =
      let e : at + 2 + 1 ≡ at + 1 + 2 = omega arith in
      rw (tree-number image (word_at image (at + 1))) (ap (λ (l : List ℕ). word_at image (at + 1) ∷ l) (values-numbers k (at + 2) ∙ ap (λ (p : ℕ). parts_from image 2 p k) e))

  cases-numbers : (end k at : ℕ)
      → case_numbers (cases_from (tree_of image) image at k)
      ++ numbers_of (nodes_from (tree_of image) image (cases_end image at k + 1) (end - (cases_end image at k + 1)))
      ≡ case_parts image end at k
  unfolding case_numbers cases_from cases_end case_parts
  cases-numbers end zero at = nodes-numbers (end - (at + 1)) (at + 1)
  cases-numbers end (suc k) at =
      let b : ℕ = word_at image (at + 2) in
      let rest : ℕ = at + 3 + b in
      rw (tree-number image (word_at image (at + 1)), nodes-numbers b (at + 3))
      (ap (λ (l : List ℕ). word_at image (at + 1) ∷ l)
      (append_assoc (parts_from image 1 (at + 3) b) (case_numbers (cases_from (tree_of image) image rest k)) _ ∙ ap (λ (l : List ℕ). parts_from image 1 (at + 3) b ++ l) (cases-numbers end k rest)))

args-length : (image : List ℕ) (k at : ℕ) → length (args_from image at k) ≡ k
unfolding args_from
args-length image zero at = refl
args-length image (suc k) at = ap suc (args-length image k (at + 2))

-- ── A node and its outline ──

pub record OfImage (image : List ℕ) (x : Node) : Type 0 where
  pub number : number_of x < node_count image
  pub parts : (m : ℕ) → count m (visited_parts x) ≤ in_parts m (outline_at image (number_of x))
  pub slots : slots_of x ≡ slots_owned (outline_at image (number_of x))
  pub entry : entry_length x ≡ entry_words (outline_at image (number_of x))

-- what is to be seen of a node of kind k whose record stands at a place
record Outlined (image : List ℕ) (n at k : ℕ) (x : Node) : Type 0 where
  number : number_of x ≡ n
  slot : slot_of x ≡ word_at image (at + 1)
  arguments : arguments_of x ≡ cond (eqb k 5) (word_at image (at + 4)) 0
  entry : entry_length x ≡ cond (eqb k 5) (3 + 2 * word_at image (at + 4)) 0
  parts : (m : ℕ) → count m (visited_parts x) ≤ count m (get_or parts_by_kind k no_parts image at)

entry-kind : (t : Bool) (a b : ℕ) → cond t (3 + 2 * cond t a b) 0 ≡ cond t (3 + 2 * a) 0
entry-kind true a b = refl
entry-kind false a b = refl

module _ {text image : List ℕ} (a : Accepted text image) (n : ℕ) (l : n < node_count image) where
  abbrev at : ℕ
  at = node_place image n

  outlined : (k : ℕ) (x : Node) → record_kind image at ≡ k → tree_of image n ≡ x → Outlined image n at k x → OfImage image (tree_of image n)
  unfolding outline_at slots_owned entry_words arguments_at parts_at
  outlined k x e t o =
      rw t
      (record {
        number = rw o.number l;
        parts = λ m. rw (o.number, e) (o.parts m);
        slots = rw (o.number, e, o.slot, o.arguments);
        entry = rw (o.number, e) (o.entry ∙ sym (entry-kind (eqb k 5) (word_at image (at + 4)) 0));
      })

  by_kind : (x : NodeKind) → NodeNumber x (record_kind image at) → OfImage image (tree_of image n)
  unfolding number_of slot_of arguments_of entry_length visited_parts parts_by_kind total
  by_kind kind.Atom e = outlined 0 _ e (tree-atom a n l e) (record { number = refl; slot = refl; arguments = refl; entry = refl; parts = λ m. omega arith })
  by_kind kind.Ident e = outlined 1 _ e (tree-ident a n l e) (record { number = refl; slot = refl; arguments = refl; entry = refl; parts = λ m. omega arith })
  by_kind kind.Bin e =
      outlined 2 _ e (tree-bin a n l e)
      (record { number = refl; slot = refl; arguments = refl; entry = refl; parts = λ m. rw (tree-number image (word_at image (at + 4)), tree-number image (word_at image (at + 5))) (omega arith) })
  by_kind kind.Unary e =
      outlined 3 _ e (tree-unary a n l e)
      (record { number = refl; slot = refl; arguments = refl; entry = refl; parts = λ m. rw (tree-number image (word_at image (at + 4))) (omega arith) })
  by_kind kind.Let e =
      outlined 4 _ e (tree_let a n l e)
      (record { number = refl; slot = refl; arguments = refl; entry = refl; parts = λ m. rw (tree-number image (word_at image (at + 3))) (omega arith) })
  by_kind kind.Fn e =
      let k : ℕ = word_at image (at + 4) in
      outlined 5 _ e (tree-fn a n l e)
      (record {
        number = refl;
        slot = refl;
        arguments = args-length image k (at + 5);
        entry = ap (λ (x : ℕ). 3 + 2 * x) (args-length image k (at + 5));
        parts = λ m. le_of_eq (ap (count m) (nodes-numbers image (record_length image at - (5 + 2 * k)) (at + 5 + 2 * k)));
      })
  by_kind kind.Match e =
      outlined 6 _ e (tree-match a n l e)
      (record {
        number = refl;
        slot = refl;
        arguments = refl;
        entry = refl;
        parts = λ m. le_of_eq (ap (count m) (cases-numbers image (at + record_length image at) (word_at image (at + 2)) (at + 3)));
      })
  by_kind kind.Call e =
      outlined 7 _ e (tree-call a n l e)
      (record {
        number = refl;
        slot = refl;
        arguments = refl;
        entry = refl;
        parts = λ m. omega (arith, ap (count m) (nodes-numbers image (record_length image at - 3) (at + 3)));
      })
  by_kind kind.Field e =
      outlined 8 _ e (tree-field a n l e)
      (record { number = refl; slot = refl; arguments = refl; entry = refl; parts = λ m. rw (tree-number image (word_at image (at + 2))) (omega arith) })
  by_kind kind.Cast e =
      outlined 9 _ e (tree-cast a n l e)
      (record { number = refl; slot = refl; arguments = refl; entry = refl; parts = λ m. rw (tree-number image (word_at image (at + 3))) (omega arith) })
  by_kind kind.Import e =
      outlined 10 _ e (tree_import a n l e) (record { number = refl; slot = refl; arguments = refl; entry = refl; parts = λ m. omega arith })
  by_kind kind.Extern e =
      outlined 11 _ e (tree-extern a n l e) (record { number = refl; slot = refl; arguments = refl; entry = refl; parts = λ m. omega arith })
  by_kind kind.Record e =
      let p : at + 3 + 1 ≡ at + 4 = omega arith in
      outlined 12 _ e (tree_record a n l e)
      (record {
        number = refl;
        slot = refl;
        arguments = refl;
        entry = refl;
        parts = λ m. le_of_eq (ap (count m) (values-numbers image ((record_length image at - 3) / 2) (at + 3) ∙ ap (λ (x : ℕ). parts_from image 2 x ((record_length image at - 3) / 2)) p));
      })
  by_kind kind.Array e =
      outlined 13 _ e (tree-array a n l e)
      (record {
        number = refl;
        slot = refl;
        arguments = refl;
        entry = refl;
        parts = λ m. le_of_eq (ap (count m) (nodes-numbers image (record_length image at - 3) (at + 3)));
      })
  by_kind kind.None e = absurd (let h = (a.node n l).words.kind in omega arith)

  pub of_image : OfImage image (tree_of image n)
  of_image = by_kind (kind_of_node (record_kind image at)) (node-number (record_kind image at) refl)
