-- The room that a node asks for, by its kind: room for its parts, one after the other. Assumes nothing.
use Rattle.std.specs.Prelude.{ℕ, zero, suc, ◌+◌, ◌*◌, ◌-◌, ◌<◌, ◌≡◌, refl, List, length}
use Rattle.std.proofs.Common.{arith}
use Rattle.std.proofs.Math.Path.{ap}
use Rattle.std.proofs.Math.ListN.{get_or}
use Rattle.tok.specs.Text.{Texts}
use Rattle.ast.specs.Image.{node_count}
use Rattle.ast.specs.TypeExpr.{TypeExpr, Arg}
use Rattle.ast.specs.Node.{Node, Nodes, Cases, Values, ExternFn, Bin, Unary, Let, Fn, Match, Call, Field, Cast, Import, Extern, Record, Array}
use Rattle.ast.specs.Node.{then, case, value, nodes_from, cases_from, values_from, tree_of}
use Rattle.visit.specs.declared.State.{State}
use Rattle.visit.specs.Whole.{Lent}
use Rattle.room_laws.specs.Room.{extern_words, room, rooms, case_rooms, value_rooms, call_room, rows, rows_all, case_rows, value_rows}
use Rattle.accepts.proofs.Fresh.{visited_from, Fresh}
use Rattle.ready.specs.Ready.{Ready, NodeVisit}
use Rattle.ready.specs.Passes.{ready-less}

module _ {T : Texts} {image places words : List ℕ} {st : State} {b : Lent} where
  -- the visit of a part that comes next
  pub node-visit : {i : ℕ} (r w : ℕ) → i < node_count image → Ready T image places words (room (tree_of image i) + r) (rows (tree_of image i) + w) st b → Fresh (visited_from (tree_of image i)) b.slots
      → NodeVisit T image places words i st b
  node-visit r w l y f = record { below = l; ready = ready-less (omega arith) (omega arith) y; fresh = f }

  -- ── By kind ──

  module _ {n : ℕ} (v : NodeVisit T image places words n st b) where
    ready_as : {x : Node} → tree_of image n ≡ x → Ready T image places words (room x) (rows x) st b
    ready_as e = rw e at v.ready

    pub bin-room : {m slot token op : ℕ} {x y : Node} → tree_of image n ≡ Bin m slot token op x y → Ready T image places words (room x + room y) (rows x + rows y) st b
    unfolding room rows
    bin-room e = ready_as e

    pub unary-room : {m slot token op : ℕ} {x : Node} → tree_of image n ≡ Unary m slot token op x → Ready T image places words (room x) (rows x) st b
    unfolding room rows
    unary-room e = ready_as e

    pub let_room : {m slot name : ℕ} {x : Node} → tree_of image n ≡ Let m slot name x → Ready T image places words (room x + 2) (rows x) st b
    unfolding room rows
    let_room e = ready_as e

    pub fn-room : {m slot name : ℕ} {ret : TypeExpr} {args : List Arg} {body : Nodes} → tree_of image n ≡ Fn m slot name ret args body
        → Ready T image places words (2 * length args + rooms body) (3 + 2 * length args + rows_all body) st b
    unfolding room rows
    fn-room e = ready_as e

    pub match-room : {m slot token : ℕ} {cs : Cases} {d : Nodes} → tree_of image n ≡ Match m slot cs token d → Ready T image places words (case_rooms cs + rooms d) (case_rows cs + rows_all d) st b
    unfolding room rows
    match-room e = ready_as e

    pub call-room : {m slot : ℕ} {target : Node} {args : Nodes} → tree_of image n ≡ Call m slot target args → Ready T image places words (rooms args + call_room args) (rows_all args) st b
    unfolding room rows
    call-room e = ready_as e

    pub field_room : {m slot name : ℕ} {x : Node} → tree_of image n ≡ Field m slot x name → Ready T image places words (room x) (rows x) st b
    unfolding room rows
    field_room e = ready_as e

    pub cast-room : {m slot token : ℕ} {x : Node} {t : TypeExpr} → tree_of image n ≡ Cast m slot token x t → Ready T image places words (room x) (rows x) st b
    unfolding room rows
    cast-room e = ready_as e

    pub import_room : {m slot token : ℕ} {paths : List ℕ} → tree_of image n ≡ Import m slot token paths → Ready T image places words (length paths) 0 st b
    unfolding room rows
    import_room e = ready_as e

    pub extern-room : {m slot token name : ℕ} {fs : List ExternFn} → tree_of image n ≡ Extern m slot token name fs → Ready T image places words (extern_words fs) 0 st b
    unfolding room rows
    extern-room e = ready_as e

    pub record_room : {m slot token : ℕ} {fs : Values} → tree_of image n ≡ Record m slot token fs → Ready T image places words (value_rooms fs) (value_rows fs) st b
    unfolding room rows
    record_room e = ready_as e

    pub array-room : {m slot token : ℕ} {ms : Nodes} → tree_of image n ≡ Array m slot token ms → Ready T image places words (rooms ms) (rows_all ms) st b
    unfolding room rows
    array-room e = ready_as e

-- ── The first of a list, and the others ──

-- a list of k is one of (k - 1) and one more
one_more : {A : Type 0} (f g : ℕ → A) → ((j : ℕ) → f (suc j) ≡ g j) → (k : ℕ) → 0 < k → f k ≡ g (k - 1)
one_more f g h zero l = absurd (omega arith)
one_more f g h (suc j) l = let e : suc j - 1 ≡ j = omega arith in rw e (h j)

module _ (image : List ℕ) (at : ℕ) {k : ℕ} (l : 0 < k) where
  pub nodes-turn : nodes_from (tree_of image) image at k ≡ then (tree_of image (get_or image at 0)) (nodes_from (tree_of image) image (at + 1) (k - 1))
  unfolding nodes_from
  nodes-turn = one_more (λ j. nodes_from (tree_of image) image at j) (λ j. then (tree_of image (get_or image at 0)) (nodes_from (tree_of image) image (at + 1) j)) (λ j. refl) k l

  pub values-turn : values_from (tree_of image) image at k ≡ value (get_or image at 0) (tree_of image (get_or image (at + 1) 0)) (values_from (tree_of image) image (at + 2) (k - 1))
  unfolding values_from
  values-turn = one_more (λ j. values_from (tree_of image) image at j) (λ j. value (get_or image at 0) (tree_of image (get_or image (at + 1) 0)) (values_from (tree_of image) image (at + 2) j))
      (λ j. refl) k l

  pub cases-turn : cases_from (tree_of image) image at k
      ≡ case (get_or image at 0) (tree_of image (get_or image (at + 1) 0)) (nodes_from (tree_of image) image (at + 3) (get_or image (at + 2) 0))
      (cases_from (tree_of image) image (at + 3 + get_or image (at + 2) 0) (k - 1))
  unfolding cases_from
  cases-turn = one_more (λ j. cases_from (tree_of image) image at j)
      (λ j. case (get_or image at 0) (tree_of image (get_or image (at + 1) 0)) (nodes_from (tree_of image) image (at + 3) (get_or image (at + 2) 0))
      (cases_from (tree_of image) image (at + 3 + get_or image (at + 2) 0) j)) (λ j. refl) k l

-- The room of a list is that of its first, and of the others.
module _ {T : Texts} {image places words : List ℕ} {st : State} {b : Lent} (at : ℕ) {k : ℕ} (l : 0 < k) (r w : ℕ) where
  pub nodes-room : Ready T image places words (rooms (nodes_from (tree_of image) image at k) + r) (rows_all (nodes_from (tree_of image) image at k) + w) st b
      → Ready T image places words (room (tree_of image (get_or image at 0)) + (rooms (nodes_from (tree_of image) image (at + 1) (k - 1)) + r))
      (rows (tree_of image (get_or image at 0)) + (rows_all (nodes_from (tree_of image) image (at + 1) (k - 1)) + w)) st b
  unfolding room rows
  nodes-room y = ready-less (omega (arith, ap rooms (nodes-turn image at l))) (omega (arith, ap rows_all (nodes-turn image at l))) y

  pub values-room : Ready T image places words (value_rooms (values_from (tree_of image) image at k) + r) (value_rows (values_from (tree_of image) image at k) + w) st b
      → Ready T image places words (room (tree_of image (get_or image (at + 1) 0)) + (value_rooms (values_from (tree_of image) image (at + 2) (k - 1)) + r))
      (rows (tree_of image (get_or image (at + 1) 0)) + (value_rows (values_from (tree_of image) image (at + 2) (k - 1)) + w)) st b
  unfolding room rows
  values-room y = ready-less (omega (arith, ap value_rooms (values-turn image at l))) (omega (arith, ap value_rows (values-turn image at l))) y

  -- a case's condition, its body, and the cases after it
  pub cases-room : Ready T image places words (case_rooms (cases_from (tree_of image) image at k) + r) (case_rows (cases_from (tree_of image) image at k) + w) st b
      → Ready T image places words (room (tree_of image (get_or image (at + 1) 0)) +
      (rooms (nodes_from (tree_of image) image (at + 3) (get_or image (at + 2) 0)) + (case_rooms (cases_from (tree_of image) image (at + 3 + get_or image (at + 2) 0) (k - 1)) + r)))
      (rows (tree_of image (get_or image (at + 1) 0)) +
      (rows_all (nodes_from (tree_of image) image (at + 3) (get_or image (at + 2) 0)) + (case_rows (cases_from (tree_of image) image (at + 3 + get_or image (at + 2) 0) (k - 1)) + w))) st b
  unfolding room rows
  cases-room y = ready-less (omega (arith, ap case_rooms (cases-turn image at l))) (omega (arith, ap case_rows (cases-turn image at l))) y

-- a call takes a word for each argument
pub call-words : (image : List ℕ) (k at : ℕ) → call_room (nodes_from (tree_of image) image at k) ≡ k
unfolding call_room nodes_from
call-words image zero at = refl
call-words image (suc k) at = omega (arith, call-words image k (at + 1))
