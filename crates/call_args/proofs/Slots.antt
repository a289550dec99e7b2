-- The slot of a node is the second word of its record, whatever its kind. Assumes nothing.
use Prim.Native.Nat.{ℕ, zero, suc, ◌+◌, ◌*◌, ◌≤◌, ◌<◌}
use mathlib.Core.Path.{◌≡◌, refl, sym, ◌∙◌}
use mathlib.Core.List.{List}
use native.Mathlib.Omega.{arith}
use lib.ListN.{get_or}
use Rattle.ast.specs.Image.{word_at, node_place, record_kind}
use Rattle.ast.specs.Node.{Node, readers, read_absent, tree_within, tree_of, slot_of}
use Rattle.places.specs.Readable.{node-there}
use Rattle.places.specs.NodesAt.{NodeReady, part-ready, record_room, kind-small}
use Rattle.spans.specs.Ready.{NodesReady}

reader_slot : (k : ℕ) → k < 14 → (go : ℕ → Node) (image : List ℕ) (n at : ℕ) → slot_of (get_or readers k read_absent go image n at) ≡ word_at image (at + 1)
unfolding readers slot_of
reader_slot zero l go image n at = refl
reader_slot (suc zero) l go image n at = refl
reader_slot (suc (suc zero)) l go image n at = refl
reader_slot (suc (suc (suc zero))) l go image n at = refl
reader_slot (suc (suc (suc (suc zero)))) l go image n at = refl
reader_slot (suc (suc (suc (suc (suc zero))))) l go image n at = refl
reader_slot (suc (suc (suc (suc (suc (suc zero)))))) l go image n at = refl
reader_slot (suc (suc (suc (suc (suc (suc (suc zero))))))) l go image n at = refl
reader_slot (suc (suc (suc (suc (suc (suc (suc (suc zero)))))))) l go image n at = refl
reader_slot (suc (suc (suc (suc (suc (suc (suc (suc (suc zero))))))))) l go image n at = refl
reader_slot (suc (suc (suc (suc (suc (suc (suc (suc (suc (suc zero)))))))))) l go image n at = refl
reader_slot (suc (suc (suc (suc (suc (suc (suc (suc (suc (suc (suc zero))))))))))) l go image n at = refl
reader_slot (suc (suc (suc (suc (suc (suc (suc (suc (suc (suc (suc (suc zero)))))))))))) l go image n at = refl
reader_slot (suc (suc (suc (suc (suc (suc (suc (suc (suc (suc (suc (suc (suc zero))))))))))))) l go image n at = refl
reader_slot (suc (suc (suc (suc (suc (suc (suc (suc (suc (suc (suc (suc (suc (suc k)))))))))))))) l go image n at = absurd (omega arith)

module _ {image places : List ℕ} {n at : ℕ} (r : NodeReady image places n) (e : at ≡ get_or places n 0) where
  pub place-low : at ≤ 8192
  place-low = omega (arith, record_room r e)

  pub slot_is : {w : ℕ} → w ≡ get_or image (at + 1) 0 → w ≡ slot_of (tree_of image n)
  unfolding tree_of tree_within
  slot_is ew =
      let k : record_kind image at < 14 = kind-small r e refl refl in
      let there : at ≡ node_place image n = node-there r.readable r.below e in
      ew ∙ sym (reader_slot (record_kind image at) k (tree_within image n) image n at) ∙ rw there refl

-- a call's argument number i is a node
pub number-ready : {image places : List ℕ} {n args count i number : ℕ} → NodesReady image places n args count → i < count → number ≡ get_or image (args + i) 0 → NodeReady image places number
number-ready {args = args} {i = i} h l e =
    let z : args + 1 * i ≡ args + i = omega arith in
    (part-ready h.ready (rw z at (h.nodes.each i l)) e).ready
