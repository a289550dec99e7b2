-- A node record of any kind, by place: the outline that stands there, up to the record's end; and for each kind, what its words are.
-- Assumes nothing.
use Prim.Native.Nat.{ℕ, zero, suc, ◌+◌, ◌≤◌, ◌<◌}
use Rattle.std.specs.Prelude.{true, ◌≡◌, refl, leb}
use Rattle.std.proofs.lemmas.Bool.{false≢true}
use Rattle.std.proofs.Math.Bool.{and-eq-true_iff}
use mathlib.Core.List.{List, []}
use native.Mathlib.Omega.{arith}
use Rattle.std.proofs.Common.{leb-true, eqb-true}
use Rattle.tok.specs.Reader.{Read}
use Rattle.reader.specs.Reading.{standing}
use Rattle.ast.specs.Image.{word_at, record_kind, record_length}
use Rattle.ast.specs.Outline.{Outline, Counts, Here}
use Rattle.ast.specs.NodeRecords.{atom, ident, bin, unary, binding, fn, match, call, field, cast, imports, extern, record_node, array}
use Rattle.ast.specs.Nodes.{node_kinds, node_kind, good_node_head, node}
use Rattle.reader.specs.Reads.{Reads, reads_then, reads-show, reads_word}
use Rattle.image_laws.specs.OutlineAt.{parts_by_kind, parts_at, arguments_at, outline_from}
use Rattle.image_laws.specs.OutlineAt.{bin_parts, unary_parts, let_parts, fn_parts, match_parts, call_parts, field_parts, cast_parts, record_parts, array_parts}
use Rattle.image_laws.specs.RecordWords.{Under, AtomWords, IdentWords, BinWords, UnaryWords, LetWords, FnWords, MatchWords, CallReads}
use Rattle.image_laws.specs.RecordWords.{FieldWords, CastWords, ImportWords, ExternWords, RecordWords, ArrayWords}
use Rattle.image_laws.proofs.RecordLaws.{under, Rest, atom-gives, ident-gives, bin_gives, unary-gives, let_gives, field-gives, cast-gives}
use Rattle.image_laws.proofs.ListLaws.{fn-gives, call-gives, array-gives, import_gives, record_gives}
use Rattle.image_laws.proofs.CaseLaws.{match-gives, extern-gives}

-- what is so of every node record: it has a kind of the table; "a node's next word is its slot"; slots are below V
pub record NodeWords (c : Counts) (image : List ℕ) (at : ℕ) : Type 0 where
  pub kind : record_kind image at < 14
  pub slot : Under c.slots image (at + 1)
  pub long : 3 ≤ record_length image at

module _ (c : Counts) (before : List Outline) (image : List ℕ) (n at : ℕ) where
  -- what reading the record gives: its outline, up to its end
  abbrev pub NodeGives : Type 0 → Type 0
  NodeGives Shown = (least : ℕ) → Reads image (outline_from image at) (at + record_length image at) Shown (node c before n (standing image at least))

  -- the head and the slot, then the kind's own rule
  node_by : {Shown : Type 0} (rule : Here → Read Outline) (arguments : ℕ) (parts : List ℕ)
      → (node_kind (word_at image at)).rest ≡ rule → arguments_at image at ≡ arguments → parts_at image at ≡ parts
      → (good_node_head (word_at image at) ≡ true → Rest c before image n at rule arguments parts Shown)
      → NodeGives (Under c.slots image (at + 1) × Shown)
  unfolding node
  node_by rule arguments parts p q r rest least =
      reads_then _ (reads_word good_node_head _ image at least)
      λ l₁ w₁ g. reads_then _ (under c.slots image at 1 l₁)
      λ l₂ w₂ s. reads-show (λ _ k. (s, k)) (rw (p, q, r) (rest g l₂))

  pub atom-node : record_kind image at ≡ 0 → NodeGives (Under c.slots image (at + 1) × AtomWords c image n at)
  unfolding good_node_head node_kind node_kinds parts_at parts_by_kind arguments_at
  atom-node e =
      node_by atom 0 [] (rw e) (rw e) (rw e) (λ g. atom-gives c before image n at (eqb-true _ _ (rw (e, good_node_head) at g)))

  pub ident-node : record_kind image at ≡ 1 → NodeGives (Under c.slots image (at + 1) × IdentWords c image n at)
  unfolding good_node_head node_kind node_kinds parts_at parts_by_kind arguments_at
  ident-node e =
      node_by ident 0 [] (rw e) (rw e) (rw e) (λ g. ident-gives c before image n at (eqb-true _ _ (rw (e, good_node_head) at g)))

  pub bin-node : record_kind image at ≡ 2 → NodeGives (Under c.slots image (at + 1) × BinWords c image n at)
  unfolding good_node_head node_kind node_kinds parts_at parts_by_kind arguments_at
  bin-node e =
      node_by bin 0 (bin_parts image at) (rw e) (rw e) (rw e) (λ g. bin_gives c before image n at (eqb-true _ _ (rw (e, good_node_head) at g)))

  pub unary-node : record_kind image at ≡ 3 → NodeGives (Under c.slots image (at + 1) × UnaryWords c image n at)
  unfolding good_node_head node_kind node_kinds parts_at parts_by_kind arguments_at
  unary-node e =
      node_by unary 0 (unary_parts image at) (rw e) (rw e) (rw e) (λ g. unary-gives c before image n at (eqb-true _ _ (rw (e, good_node_head) at g)))

  pub let_node : record_kind image at ≡ 4 → NodeGives (Under c.slots image (at + 1) × LetWords c image n at)
  unfolding good_node_head node_kind node_kinds parts_at parts_by_kind arguments_at
  let_node e =
      node_by binding 0 (let_parts image at) (rw e) (rw e) (rw e) (λ g. let_gives c before image n at (eqb-true _ _ (rw (e, good_node_head) at g)))

  pub fn-node : record_kind image at ≡ 5 → NodeGives (Under c.slots image (at + 1) × FnWords c image n at)
  unfolding good_node_head node_kind node_kinds parts_at parts_by_kind arguments_at
  fn-node e =
      node_by fn (word_at image (at + 4)) (fn_parts image at) (rw e) (rw e) (rw e) (λ g. fn-gives c before image n at (leb-true _ _ (rw (e, good_node_head) at g)))

  pub match-node : record_kind image at ≡ 6 → NodeGives (Under c.slots image (at + 1) × MatchWords c image n at)
  unfolding good_node_head node_kind node_kinds parts_at parts_by_kind arguments_at
  match-node e =
      node_by match 0 (match_parts image at) (rw e) (rw e) (rw e) (λ g. match-gives c before image n at (leb-true _ _ (rw (e, good_node_head) at g)))

  pub call-node : record_kind image at ≡ 7 → NodeGives (Under c.slots image (at + 1) × CallReads c before image n at)
  unfolding good_node_head node_kind node_kinds parts_at parts_by_kind arguments_at
  call-node e =
      node_by call 0 (call_parts image at) (rw e) (rw e) (rw e) (λ g. call-gives c before image n at (leb-true _ _ (rw (e, good_node_head) at g)))

  pub field-node : record_kind image at ≡ 8 → NodeGives (Under c.slots image (at + 1) × FieldWords c image n at)
  unfolding good_node_head node_kind node_kinds parts_at parts_by_kind arguments_at
  field-node e =
      node_by field 0 (field_parts image at) (rw e) (rw e) (rw e) (λ g. field-gives c before image n at (eqb-true _ _ (rw (e, good_node_head) at g)))

  pub cast-node : record_kind image at ≡ 9 → NodeGives (Under c.slots image (at + 1) × CastWords c image n at)
  unfolding good_node_head node_kind node_kinds parts_at parts_by_kind arguments_at
  cast-node e =
      node_by cast 0 (cast_parts image at) (rw e) (rw e) (rw e) (λ g. cast-gives c before image n at (eqb-true _ _ (rw (e, good_node_head) at g)))

  pub import_node : record_kind image at ≡ 10 → NodeGives (Under c.slots image (at + 1) × ImportWords c image n at)
  unfolding good_node_head node_kind node_kinds parts_at parts_by_kind arguments_at
  import_node e =
      node_by imports 0 [] (rw e) (rw e) (rw e) (λ g. import_gives c before image n at (leb-true _ _ (rw (e, good_node_head) at g)))

  pub extern-node : record_kind image at ≡ 11 → NodeGives (Under c.slots image (at + 1) × ExternWords c image n at)
  unfolding good_node_head node_kind node_kinds parts_at parts_by_kind arguments_at
  extern-node e =
      node_by extern 0 [] (rw e) (rw e) (rw e) (λ g. extern-gives c before image n at (leb-true _ _ (rw (e, good_node_head) at g)))

  pub record_node_lem : record_kind image at ≡ 12 → NodeGives (Under c.slots image (at + 1) × RecordWords c image n at)
  unfolding good_node_head node_kind node_kinds parts_at parts_by_kind arguments_at
  record_node_lem e =
      node_by record_node 0 (record_parts image at) (rw e) (rw e) (rw e)
      (λ g. let both = (and-eq-true_iff (leb 3 (record_length image at)) _).0 (rw (e, good_node_head) at g) in
      record_gives c before image n at (leb-true _ _ both.0) (eqb-true _ _ both.1))

  pub array-node : record_kind image at ≡ 13 → NodeGives (Under c.slots image (at + 1) × ArrayWords c image n at)
  unfolding good_node_head node_kind node_kinds parts_at parts_by_kind arguments_at
  array-node e =
      node_by array 0 (array_parts image at) (rw e) (rw e) (rw e) (λ g. array-gives c before image n at (leb-true _ _ (rw (e, good_node_head) at g)))

  -- of any kind: one that has no row of the table is refused
  by_kind : (k : ℕ) → record_kind image at ≡ k → NodeGives (NodeWords c image at)
  unfolding good_node_head node_kind node_kinds node
  by_kind zero e least = reads-show (λ _ w. record { kind = omega arith; slot = w.0; long = let l = w.1.long in omega arith }) (atom-node e least)
  by_kind (suc zero) e least = reads-show (λ _ w. record { kind = omega arith; slot = w.0; long = let l = w.1.long in omega arith }) (ident-node e least)
  by_kind (suc (suc zero)) e least = reads-show (λ _ w. record { kind = omega arith; slot = w.0; long = let l = w.1.long in omega arith }) (bin-node e least)
  by_kind (suc (suc (suc zero))) e least = reads-show (λ _ w. record { kind = omega arith; slot = w.0; long = let l = w.1.long in omega arith }) (unary-node e least)
  by_kind (suc (suc (suc (suc zero)))) e least = reads-show (λ _ w. record { kind = omega arith; slot = w.0; long = let l = w.1.long in omega arith }) (let_node e least)
  by_kind (suc (suc (suc (suc (suc zero))))) e least = reads-show (λ _ w. record { kind = omega arith; slot = w.0; long = let l = w.1.long in omega arith }) (fn-node e least)
  by_kind (suc (suc (suc (suc (suc (suc zero)))))) e least = reads-show (λ _ w. record { kind = omega arith; slot = w.0; long = let l = w.1.long in omega arith }) (match-node e least)
  by_kind (suc (suc (suc (suc (suc (suc (suc zero))))))) e least = reads-show (λ _ w. record { kind = omega arith; slot = w.0; long = let l = w.1.long in omega arith }) (call-node e least)
  by_kind (suc (suc (suc (suc (suc (suc (suc (suc zero)))))))) e least = reads-show (λ _ w. record { kind = omega arith; slot = w.0; long = let l = w.1.long in omega arith }) (field-node e least)
  by_kind (suc (suc (suc (suc (suc (suc (suc (suc (suc zero))))))))) e least = reads-show (λ _ w. record { kind = omega arith; slot = w.0; long = let l = w.1.long in omega arith }) (cast-node e least)
  by_kind (suc (suc (suc (suc (suc (suc (suc (suc (suc (suc zero)))))))))) e least =
      reads-show (λ _ w. record { kind = omega arith; slot = w.0; long = let l = w.1.long in omega arith }) (import_node e least)
  by_kind (suc (suc (suc (suc (suc (suc (suc (suc (suc (suc (suc zero))))))))))) e least =
      reads-show (λ _ w. record { kind = omega arith; slot = w.0; long = let l = w.1.long in omega arith }) (extern-node e least)
  by_kind (suc (suc (suc (suc (suc (suc (suc (suc (suc (suc (suc (suc zero)))))))))))) e least =
      reads-show (λ _ w. record { kind = omega arith; slot = w.0; long = let l = w.1.long in omega arith }) (record_node_lem e least)
  by_kind (suc (suc (suc (suc (suc (suc (suc (suc (suc (suc (suc (suc (suc zero))))))))))))) e least =
      reads-show (λ _ w. record { kind = omega arith; slot = w.0; long = let l = w.1.long in omega arith }) (array-node e least)
  by_kind (suc (suc (suc (suc (suc (suc (suc (suc (suc (suc (suc (suc (suc (suc k)))))))))))))) e least =
      reads_then _ (reads_word good_node_head _ image at least) λ l₁ w₁ g. absurd (false≢true (rw (e, good_node_head) at g))

  pub any_node : NodeGives (NodeWords c image at)
  any_node = by_kind (record_kind image at) refl
