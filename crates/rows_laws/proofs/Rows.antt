-- The bench's rows are well formed by RFC 3629: each kind of row is put together of pieces that are. Assumes nothing.
use Prim.Native.Nat.{ℕ, zero, suc, ◌+◌, ◌*◌, ◌<◌}
use native.Mathlib.Omega.{arith}
use Rattle.std.specs.Prelude.{◌≡◌, Bool, cond, get_or, take, drop}
use Rattle.std.proofs.Math.Path.{refl, ap}
use Rattle.std.proofs.Math.Bool.{true, false}
use mathlib.Core.List.{List, [], ◌∷◌}
use Rattle.std.proofs.Math.ListN.{length, length-take}
use Rattle.std.proofs.Math.Seq.{get_or-take}
use Rattle.std.proofs.Math.Dec.{eqb}
use Rattle.std.proofs.Common.{eqb-true}
use Rattle.std.proofs.lemmas.Bool.{eqb-false}
use Rattle.utf8.specs.Rfc3629.{well_formed, Octets, none}
use Rattle.utf8.proofs.Laws.{ascii_octets, octets_of, well-of, ◌then◌}
use Rattle.tok.specs.Word.{payload_of}
use Rattle.tok.specs.Text.{Texts, text, name_bytes}
use Rattle.tok.specs.Step.{ok}
use Rattle.ptype.specs.Words.{ty_of}
use Rattle.ptype.specs.Add.{Buffer}
use Rattle.ptype.specs.Show.{decimal}
use Rattle.display.specs.NamesWellFormed.{names_well_formed}
use Rattle.display.specs.WellFormedLaws.{show_octets, decimal_octets, no_piece, piece}
use Rattle.library.specs.Package.{Param, Function}
use Rattle.ast.specs.Image.{root_count, slot_count}
use Rattle.ast.specs.Node.{roots_of}
use Rattle.refusals.specs.Inputs.{Inputs, Buffers, texts_in}
use Rattle.rules.specs.World.{World}
use Rattle.rules.specs.Walk.{ctx_of, start_of, walk, walk_of}
use Rattle.rules.specs.Check.{end_of, check_of}
use Rattle.rules.specs.Rows.{line, shown_in, slot_rows, fn_rows, diag_rows, answer_rows, rows_of}
use Rattle.bench_rows.specs.Bench.{fits, inputs_in, lent, bench_of}
use Rattle.bench_rows.specs.Promise.{RowsWellFormed}
use Rattle.laws.specs.Grow.{kept-ok}
use Rattle.tworuns.specs.Entries.{words_of, walk-holds, start-holds}
use Rattle.tworuns.specs.Larger.{Ends}
use Rattle.tworuns.proofs.Larger.{ends}
use Rattle.accepts.specs.Passed.{Passed}
use Rattle.accepts.proofs.Passed.{passed}
use Rattle.accepts.proofs.FunctionRoom.{function-room}
use Rattle.onerun.specs.Claim.{All, end, and, Both, ParamOk, FunctionOk, Holds}
use Rattle.onerun.specs.Claim as C
use Rattle.onerun.specs.Grows.{is-tree, fine_names, typed-names}
use Rattle.onerun.proofs.Walk as W
use Rattle.clean.proofs.ProperTrees.{roots-proper}
use Rattle.clean.proofs.Walked.{script-name, run, walked}
use Rattle.rows_laws.specs.OwnNames.{own-named}
use Rattle.rows_laws.specs.FnRows.{ParamWell, FunctionWell}
use Rattle.rows_laws.proofs.FnRows.{line_octets, own_octets}
use Rattle.rows_laws.specs.Rows.{Message}

-- ── Slots ──

module _ (t : Texts) (types : List ℕ) where
  slots_octets : (ws : List ℕ) (i : ℕ) → ((k : ℕ) → k < length ws → (get_or ws k 0 ≡ 0 → ⊥) → names_well_formed (ty_of t types (get_or ws k 0)) ≡ true)
      → Octets (slot_rows t types i ws)
  unfolding slot_rows text
  slots_octets [] i h = none
  slots_octets (w ∷ ws) i h = row (eqb w 0) refl then slots_octets ws (i + 1) (λ k l n. h (suc k) (omega arith) n)
    where
      row : (b : Bool) → eqb w 0 ≡ b → Octets (cond b [] (line (text "slot" ∷ decimal i ∷ shown_in t types w ∷ [])))
      row true e = none
      row false e =
          line_octets (piece (ascii_octets (text "slot") refl) (piece (decimal_octets i)
          (piece (show_octets (ty_of t types w) (h 0 (omega arith) (eqb-false w 0 e))) no_piece)))

-- ── Diagnostics ──

module _ (ds ms : List ℕ) where
  diags_octets : (k j at : ℕ) → at ≡ 6 * j → ((n : ℕ) → n < j + k → (Message ds ms) n) → Octets (diag_rows ds ms at k)
  unfolding diag_rows text
  diags_octets zero j at e h = none
  diags_octets (suc k) j at e h =
      line_octets (piece (ascii_octets (text "diag") refl) (piece (decimal_octets (payload_of (get_or ds at 0))) (piece (decimal_octets (get_or ds (at + 1) 0))
      (piece (decimal_octets (get_or ds (at + 2) 0)) (piece (rw e (octets_of _ (h j (omega arith)))) no_piece)))))
      then diags_octets k (j + 1) (at + 6) (omega arith) (λ n l. h n (omega arith))

-- ── An answer ──

module _ (i : Inputs) (b : Buffers) (p : Passed i b) {u : World} (e : walk_of i b ≡ ok tt u) where
  -- what holds of the world where the walk ends; it is names that are claimed
  world-holds : Holds (run ⊥ i b p) u
  world-holds = held (rw e at (walked ⊥ i b p))
    where
      held : W.Ends (run ⊥ i b p) (roots_of i.image) (ok tt u) → Holds (run ⊥ i b p) u
      held (W.ends h) = (h (record { none = λ q. absurd q })).holds

  own-names : All (λ f. well_formed (name_bytes (texts_in i) f.name) ≡ true) u.own
  own-names =
      (own-named _ (λ w. well_formed (name_bytes (texts_in i) w) ≡ true) i b
      (roots-proper (texts_in i) p.image _ (λ at n. script-name (texts_in i) i.image at n)) e).own

  params-well : {ps : List Param} {xs : List _} → Both (ParamOk (run ⊥ i b p) u.types) ps xs → All (ParamWell (texts_in i) u.types.words) ps
  unfolding ctx_of
  params-well C.end = end
  params-well (C.and {a = a} h hs) =
      and {a = a} (record { name = h.name (λ q. q); type = rw (is-tree (run ⊥ i b p) h.type) (fine_names (run ⊥ i b p) (λ q. q) h.type.fine) }) (params-well hs)

  functions-well : {fs : List Function} → All (FunctionOk (run ⊥ i b p) u.types) fs → All (λ f. well_formed (name_bytes (texts_in i) f.name) ≡ true) fs
      → All (FunctionWell (texts_in i) u.types.words) fs
  unfolding ctx_of
  functions-well end ns = end
  functions-well (and {a = f} h hs) (and n ns) =
      and {a = f} (record {
        name = n;
        params = params-well h.sig.params;
        ret = rw (is-tree (run ⊥ i b p) h.sig.returns) (fine_names (run ⊥ i b p) (λ q. q) h.sig.returns.fine);
      }) (functions-well hs ns)

  -- "slots that have a type"
  slot-names : (k : ℕ) → k < length (take (slot_count i.image + 1) u.slots) → (get_or (take (slot_count i.image + 1) u.slots) k 0 ≡ 0 → ⊥)
      → names_well_formed (ty_of (texts_in i) u.types.words (get_or (take (slot_count i.image + 1) u.slots) k 0)) ≡ true
  unfolding ctx_of
  slot-names k l n =
      let low : k < slot_count i.image + 1 = omega (arith, length-take (slot_count i.image + 1) u.slots) in
      let same = get_or-take (slot_count i.image + 1) u.slots k 0 low in
      rw same (typed-names (run ⊥ i b p) (world-holds.slots k (record { other = rw same at n; low = omega arith })) (λ q. q))

  fn-rows : Octets (fn_rows (texts_in i) u.types.words u.functions.words u.functions.used u.functions.used 0)
  unfolding walk_of walk
  fn-rows =
      let h = kept-ok (walk-holds b.functions i (root_count i.image) (start_of i b)) e (start-holds i b) in
      let used : u.functions.used ≡ length (words_of u.own) = ap (λ (x : Buffer). x.used) h.functions in
      rw h.functions (own_octets (texts_in i) u.types.words b.functions (functions-well world-holds.own own-names) (omega (arith, function-room i b p u e)))

  message-well : (k : ℕ) → k < u.diagnostics.used → Message u.diagnostics.words u.messages.words k
  message-well k l = let t = world-holds.told (λ q. q) k l in rw (t.start_is, t.message_is) t.message_well

  answer_octets : Octets (answer_rows (texts_in i) (slot_count i.image) (end_of b (ok tt u)))
  unfolding answer_rows end_of text
  answer_octets =
      slots_octets (texts_in i) u.types.words (take (slot_count i.image + 1) u.slots) 0 slot-names
      then fn-rows
      then diags_octets u.diagnostics.words u.messages.words u.diagnostics.used 0 0 refl (λ n l. message-well n (omega arith))
      then line_octets (piece (ascii_octets (text "end") refl) (piece (decimal_octets u.diagnostics.used) no_piece))

-- ── The rows ──

-- of whatever the check ended in
rows_octets : (i : Inputs) (b : Buffers) → Octets (rows_of i (check_of i b))
unfolding rows_of text
rows_octets i b = by (eqb (check_of i b).number 0) refl
  where
    answered : Ends i b → Octets (answer_rows (texts_in i) (slot_count i.image) (check_of i b))
    answered f = rw f.ended (answer_octets i b (passed i b f.passed) f.walked)

    by : (z : Bool) → eqb (check_of i b).number 0 ≡ z
        → Octets (elim z [
          | true ↦ answer_rows (texts_in i) (slot_count i.image) (check_of i b)
          | false ↦ line (text "refused" ∷ decimal (check_of i b).number ∷ decimal (check_of i b).place ∷ [])
        ])
    by true z = answered (ends i b (eqb-true (check_of i b).number 0 z))
    by false z =
        line_octets (piece (ascii_octets (text "refused") refl) (piece (decimal_octets (check_of i b).number) (piece (decimal_octets (check_of i b).place) no_piece)))

-- THE THEOREM
pub rows-well_formed : RowsWellFormed
unfolding RowsWellFormed bench_of text
rows-well_formed bytes = by (fits bytes)
  where
    by : (z : Bool) → well_formed (elim z [
      | true ↦ rows_of (inputs_in bytes) (check_of (inputs_in bytes) lent)
      | false ↦ line (text "input" ∷ [])
    ]) ≡ true
    by true = well-of (rows_octets (inputs_in bytes) lent)
    by false = well-of (line_octets (piece (ascii_octets (text "input") refl) no_piece))
