-- The parts of a record as the code finds them, one law for each way out. Assumes nothing.
use Prim.Native.Nat.{ℕ, zero, suc, ◌+◌, ◌*◌, ◌-◌, ◌/◌, ◌^◌, ◌≤◌, ◌<◌}
use mathlib.Core.Path.{◌≡◌, refl, sym, ap, subst, ◌∙◌}
use mathlib.Core.List.{List}
use native.Mathlib.Omega.{arith}
use native.Mathlib.Nat.{add-zero, mul-le-mul_right}
use lib.ListN.{length, get_or, get_or-eq_default}
use borrow.Author.Tests.{ne_eqb}
use Rattle.tok.specs.Word.{kind_of, payload_of}
use Rattle.tok.proofs.WordLaws.{payload_of_lt}
use Rattle.ast.specs.Image.{word_at, record_kind, record_length}
use Rattle.ast.specs.declared.NodeKind.{NodeKind}
use Rattle.ast.specs.declared.NodeKind.TheVariants as node
use Rattle.ast.specs.Kinds.{kind_of_node}
use Rattle.ast.specs.KindLaws.{node-number, node-not}
use Rattle.image_laws.specs.OutlineAt.{arguments_at, parts_from, parts_by_kind, parts_at}
use Rattle.node_parts.specs.declared.Run.{Run}
use Rattle.node_parts.specs.declared.Parts.TheVariants as parts
use Rattle.node_parts.specs.Runs.{run, no_run, runs_by_kind, run_at, numbers_in, run-parts, RunHere, PartsHere}

-- the run that is handed out
pub handed : {image : List ℕ} {at : ℕ} {r s : Run} → r ≡ s → RunHere image at s → RunHere image at r
handed {image} {at} e h = subst (RunHere image at) (sym e) h

-- the steps to number k, counted in 64 bits
pub near_enough : {step : ℕ} (k : ℕ) → step ≤ 2 → step * k ≤ 2 * k
near_enough k h = mul-le-mul_right k h

-- ── Past the end ──

module _ (image : List ℕ) (at : ℕ) (h : length image ≤ at) where
  pub past_after : at ≡ at + record_length image at
  past_after = rw (get_or-eq_default image 0 h) (sym (add-zero at))

  pub past-run : RunHere image at (run 0 0 1)
  unfolding run_at runs_by_kind
  past-run = record { is = rw (get_or-eq_default image 0 h) refl; near = omega arith; small = omega arith }

-- ── At a record ──

module _ (image : List ℕ) (at head : ℕ) (eh : head ≡ word_at image at) where
  module _ (k : ℕ) (ek : k ≡ kind_of head) where
    kind-here : k ≡ record_kind image at
    kind-here = ek ∙ ap kind_of eh

    pub here-arguments : (n : ℕ) → k ≡ 5 → n ≡ word_at image (at + 4) → n ≡ arguments_at image at
    unfolding arguments_at
    here-arguments n e p = rw (← kind-here, e) p

    pub none-arguments : (k ≡ 5 → ⊥) → 0 ≡ arguments_at image at
    unfolding arguments_at
    none-arguments d = rw (← kind-here, ne_eqb k 5 d) refl

    -- the row of its kind
    pub row : (r : Run) (j : ℕ) → k ≡ j → r ≡ get_or runs_by_kind j no_run image at → r.step ≤ 2 → r.from + 2 * r.count < 2 ^ 62 → RunHere image at r
    unfolding run_at
    row r j e p t s = record { is = p ∙ ap (λ i. get_or runs_by_kind i no_run image at) (sym e ∙ kind-here); near = t; small = s }

    module _ (long : ℕ) (el : long ≡ payload_of head) (small : at < 2 ^ 61) where
      long-here : long ≡ record_length image at
      long-here = el ∙ ap payload_of eh

      long-small : long < 2 ^ 28
      long-small = rw el (payload_of_lt head)

      pub fn_row_lem : (n c : ℕ) → k ≡ 5 → n < 2 ^ 32 → n ≡ arguments_at image at → c ≡ long - (5 + 2 * n) → RunHere image at (run (at + 5 + 2 * n) c 1)
      unfolding runs_by_kind arguments_at
      fn_row_lem n c e b p q =
          let p' : n ≡ word_at image (at + 4) = rw (← kind-here, e, arguments_at) at p in
          row _ 5 e (rw (q, ← p', long-here) refl) (omega arith) (let l = long-small in omega arith)

      pub call-row : (c : ℕ) → k ≡ 7 → c ≡ long - 3 → RunHere image at (run (at + 2) (1 + c) 1)
      unfolding runs_by_kind
      call-row c e q = row _ 7 e (rw (q, long-here) refl) (omega arith) (let l = long-small in omega arith)

      pub record_row : (c : ℕ) → k ≡ 12 → c ≡ long - 3 → RunHere image at (run (at + 4) (c / 2) 2)
      unfolding runs_by_kind
      record_row c e q = row _ 12 e (rw (q, long-here) refl) (omega arith) (let l = long-small in omega arith)

      pub array_row : (c : ℕ) → k ≡ 13 → c ≡ long - 3 → RunHere image at (run (at + 3) c 1)
      unfolding runs_by_kind
      array_row c e q = row _ 13 e (rw (q, long-here) refl) (omega arith) (let l = long-small in omega arith)

    -- a kind without parts, or of several runs
    abbrev pub Other : ℕ → Type 0
    Other k = ((((((((Unit {0} × (k ≡ 2 → ⊥)) × (k ≡ 3 → ⊥)) × (k ≡ 4 → ⊥)) × (k ≡ 5 → ⊥)) × (k ≡ 7 → ⊥)) × (k ≡ 8 → ⊥)) × (k ≡ 9 → ⊥)) × (k ≡ 12 → ⊥)) × (k ≡ 13 → ⊥)

    other : (j : ℕ) → Other j → run 0 0 1 ≡ get_or runs_by_kind j no_run image at
    unfolding runs_by_kind
    other zero d = refl
    other (suc zero) d = refl
    other (suc (suc zero)) d = absurd (d.0.0.0.0.0.0.0.0.1 refl)
    other (suc (suc (suc zero))) d = absurd (d.0.0.0.0.0.0.0.1 refl)
    other (suc (suc (suc (suc zero)))) d = absurd (d.0.0.0.0.0.0.1 refl)
    other (suc (suc (suc (suc (suc zero))))) d = absurd (d.0.0.0.0.0.1 refl)
    other (suc (suc (suc (suc (suc (suc zero)))))) d = refl
    other (suc (suc (suc (suc (suc (suc (suc zero))))))) d = absurd (d.0.0.0.0.1 refl)
    other (suc (suc (suc (suc (suc (suc (suc (suc zero)))))))) d = absurd (d.0.0.0.1 refl)
    other (suc (suc (suc (suc (suc (suc (suc (suc (suc zero))))))))) d = absurd (d.0.0.1 refl)
    other (suc (suc (suc (suc (suc (suc (suc (suc (suc (suc zero)))))))))) d = refl
    other (suc (suc (suc (suc (suc (suc (suc (suc (suc (suc (suc zero))))))))))) d = refl
    other (suc (suc (suc (suc (suc (suc (suc (suc (suc (suc (suc (suc zero)))))))))))) d = absurd (d.0.1 refl)
    other (suc (suc (suc (suc (suc (suc (suc (suc (suc (suc (suc (suc (suc zero))))))))))))) d = absurd (d.1 refl)
    other (suc (suc (suc (suc (suc (suc (suc (suc (suc (suc (suc (suc (suc (suc j)))))))))))))) d = refl

    module _ {x : NodeKind} (e : x ≡ kind_of_node k) where
      pub no_row : (x ≡ node.Bin → ⊥) → (x ≡ node.Unary → ⊥) → (x ≡ node.Let → ⊥) → (x ≡ node.Fn → ⊥) → (x ≡ node.Call → ⊥)
          → (x ≡ node.Field → ⊥) → (x ≡ node.Cast → ⊥) → (x ≡ node.Record → ⊥) → (x ≡ node.Array → ⊥) → RunHere image at (run 0 0 1)
      no_row b u l f c d t r a =
          let others : Other k =
          (((((((((tt, node-not k e b), node-not k e u), node-not k e l), node-not k e f), node-not k e c), node-not k e d), node-not k e t), node-not k e r), node-not k e a) in
          row _ k refl (other k others) (omega arith) (omega arith)

-- ── All parts ──

module _ (image : List ℕ) (at : ℕ) where
  pub no_parts : length image ≤ at → {r : Run} → r ≡ run 0 0 1 → PartsHere image at (parts.Run r)
  unfolding parts_at parts_by_kind parts_from
  no_parts h e = rw e record { are = rw (get_or-eq_default image 0 h, parts_at) refl; small = (omega arith, omega arith) }

  module _ {head : ℕ} {x : NodeKind} (eh : head ≡ word_at image at) (ex : x ≡ kind_of_node (kind_of head)) where
    pub match_parts : x ≡ node.Match → at < length image → length image < 2 ^ 61 → {count long : ℕ} → count ≡ word_at image (at + 2) → count < 2 ^ 32 → long ≡ payload_of head
        → PartsHere image at (parts.Cases (record { from = at + 3; count = count; end = at + long }))
    unfolding parts_at parts_by_kind
    match_parts e l f ec s el =
        let kind : record_kind image at ≡ 6 = rw (← eh) (node-number _ (sym e ∙ ex)) in
        let p : payload_of head < 2 ^ 28 = payload_of_lt head in
        record {
          are = rw (kind, parts_at, ← ec, ← (el ∙ ap payload_of eh)) refl;
          small = (omega arith, s, omega arith);
        }

    pub other_parts : (x ≡ node.Match → ⊥) → {r : Run} → RunHere image at r → PartsHere image at (parts.Run r)
    other_parts d h =
        record {
          are = ap (numbers_in image) h.is ∙ run-parts image at (λ e. node-not _ ex d (ap kind_of eh ∙ e));
          small = (h.near, let s = h.small in omega arith);
        }
