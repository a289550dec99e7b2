-- Node::Record put together of the visits of its values and its end: the loop's invariant with a law for its beginning, each turn and its
-- ends. Assumes nothing.
use Rattle.std.specs.Prelude.{ℕ, zero, suc, ◌+◌, ◌*◌, ◌-◌, ◌/◌, ◌<◌, ◌≤◌, ◌≡◌, refl, List, [], ◌∷◌, ◌++◌, get_or, Ok, Err}
use Rattle.std.proofs.Math.Path.{sym, ap}
use Rattle.std.proofs.Common.{◌∙◌}
use native.Mathlib.Omega.{arith}
use Rattle.tok.specs.Text.{Texts}
use Rattle.tok.specs.Step.{ok, next, ◌>>=◌}
use Rattle.ast.specs.Image.{node_count, record_kind, record_length, word_at}
use Rattle.ast.specs.Node.{Node, Values, Record, value, no_value, tree_of, slot_of, values_from}
use Rattle.image_laws.specs.RecordWords.{RecordWords}
use Rattle.laws.specs.Told.{Reads, Tells}
use Rattle.rules.specs.declared.Answer.{Answer}
use Rattle.rules.specs.World.{Walk}
use Rattle.rules.specs.Rules.{value_type, node}
use Rattle.rules.specs.Visited.{visited_in_values, slots_of}
use Rattle.accepts.specs.Count as N
use Rattle.accepts.specs.Count.{total, total-append}
use Rattle.accepts.proofs.OtherSlots.{owned}
use Rattle.accepts.proofs.Fresh.{visited_from, Fresh, fresh-first, fresh-rest, node-tells}
use Rattle.places.specs.NodesAt.{NodeReady, counts_of, record_room, node_record, words_record}
use Rattle.spans.specs.Ready.{ValuesReady}
use Rattle.room_laws.specs.Room.{room, rows, value_rooms, value_rows}
use Rattle.state.specs.declared.Refusal.{Refusal}
use Rattle.visit.specs.declared.State.{State}
use Rattle.visit.specs.Whole.{Lent, Visit, whole}
use Rattle.visit.specs.Within.{Visits}
use Rattle.visiting.specs.Then.{visits-most}
use Rattle.visiting.specs.Leads.{Beginning, Leads, leads-then, leads-stop}
use Rattle.visiting.specs.Turns as U
use Rattle.ready.specs.Ready.{walk_run, Ready, NodeVisit, node-ready}
use Rattle.ready.specs.Passes.{ready-less, ready-then}
use Rattle.ready.specs.After.{after-node, node-answer}
use Rattle.ready.specs.Parts as R
use Rattle.ready.specs.Parts.{values-turn}
use Rattle.ready.specs.Unvisited.{came_ok, record_fresh, visit-apart}
use Rattle.walking.specs.Kinds.{Is}
use Rattle.walking.specs.Visited.{ctx_in, NodeVisited, ClassVisit, values_at}
use Rattle.fields.specs.Read.{node_value, pairs_read, read_more, read-still, value-told}
use Rattle.fields.specs.Parts.{record_of}

-- what follows the values, of their pairs
abbrev pub ending : Texts → (image : List ℕ) → (n at : ℕ) → List ℕ → Walk Answer
ending T image n at pairs = record_of T n (word_at image (at + 1)) pairs

-- the Record's rule, at its beginning
abbrev pub recording : Texts → (image words : List ℕ) → (n : ℕ) → State → Lent → Beginning
recording T image words n st b = record { rule = node (ctx_in T image words) (tree_of image n); room = room (tree_of image n); rows = rows (tree_of image n); library = words; st = st; b = b }

-- where value i stands, and those from there on, of `count`
abbrev pub place_of : (at i : ℕ) → ℕ
place_of at i = at + 3 + 2 * i

abbrev pub left_at : (image : List ℕ) → (at count i : ℕ) → Values
left_at image at count i = values_at image (place_of at i) (count - i)

-- i values are done, as their slots tell
pub record Turn (T : Texts) (image places words : List ℕ) (n at count : ℕ) (st : State) (b : Lent) (here : State) (i : ℕ) (b' : Lent) : Type 0 where
  pub within : i ≤ count
  pub values : ValuesReady image places n (at + 3) count
  -- what is left of the rule leads to all of it, and there is room for it
  pub leads : Leads (recording T image words n st b) (U.values_from (ctx_in T image words) (pairs_read image b'.slots (at + 3) i) (left_at image at count i) (ending T image n at))
      (value_rooms (left_at image at count i)) (value_rows (left_at image at count i)) here b'
  pub ready : Ready T image places words (value_rooms (left_at image at count i)) (value_rows (left_at image at count i)) here b'
  -- the slots of those that are left have no type yet, and none of them is a slot of those that are done
  pub fresh : Fresh (visited_in_values (left_at image at count i)) b'.slots
  pub apart : (a : ℕ) → owned a (visited_in_values (values_at image (at + 3) i)) + owned a (visited_in_values (left_at image at count i)) ≤ 1

leads_as : {o : Beginning} {m : Walk Answer} (m' : Walk Answer) {r w : ℕ} {st : State} {b : Lent} → m (whole o.library st b) ≡ m' (whole o.library st b) → Leads o m r w st b → Leads o m' r w st b
leads_as m' e l = record { onto = λ b' v x. l.onto b' v (record { step = e ∙ x.step; keeps = x.keeps }) }

-- one more value is done
done_more : (image : List ℕ) (a at k : ℕ) → owned a (visited_in_values (values_at image at (k + 1)))
    ≡ owned a (visited_in_values (values_at image at k)) + owned a (visited_from (tree_of image (word_at image (at + 2 * k + 1))))
unfolding visited_in_values values_from total
done_more image a at zero =
    let e : at + 2 * 0 + 1 ≡ at + 1 = omega arith in
    rw e (omega (arith, total-append (λ y. N.count a (slots_of y)) (visited_from (tree_of image (word_at image (at + 1)))) []))
done_more image a at (suc k) =
    let e : suc k + 1 ≡ suc (k + 1) = omega arith in
    let f : at + 2 * suc k + 1 ≡ at + 2 + 2 * k + 1 = omega arith in
    let x : List Node = visited_from (tree_of image (word_at image (at + 1))) in
    rw (e, f)
    (omega (
      arith,
      total-append (λ y. N.count a (slots_of y)) x (visited_in_values (values_at image (at + 2) (k + 1))),
      total-append (λ y. N.count a (slots_of y)) x (visited_in_values (values_at image (at + 2) k)),
      done_more image a (at + 2) k,
    ))

-- ── A turn ──

module _ {T : Texts} {image places words : List ℕ} {n at count : ℕ} {st : State} {b : Lent} {here : State} {i : ℕ} {b' : Lent}
    (h : Turn T image places words n at count st b here i b') where
  module _ (l : i < count) {part : ℕ} (ep : part ≡ get_or image (at + 4 + 2 * i) 0) where
    left : 0 < count - i
    left = omega arith

    part-is : part ≡ get_or image (place_of at i + 1) 0
    part-is = let z : place_of at i + 1 ≡ at + 4 + 2 * i = omega arith in rw z ep

    -- "A part's number is smaller than its owner's"
    pub value-under : part < n
    value-under = rw part-is (h.values.values.each i l).value.under

    value-below : part < node_count image
    value-below = omega (arith, value-under, h.values.ready.below)

    -- those after it
    abbrev others : Values
    others = values_at image (place_of at i + 2) (count - i - 1)

    all-values : left_at image at count i ≡ value (get_or image (place_of at i) 0) (tree_of image part) others
    all-values = values-turn image (place_of at i) left ∙ ap (λ p. value (get_or image (place_of at i) 0) (tree_of image p) others) (sym part-is)

    value-ready : Ready T image places words (room (tree_of image part) + value_rooms others) (rows (tree_of image part) + value_rows others) here b'
    unfolding value_rooms value_rows
    value-ready = rw all-values at h.ready

    value-fresh : Fresh (visited_from (tree_of image part) ++ visited_in_values others) b'.slots
    unfolding visited_in_values
    value-fresh = rw all-values at h.fresh

    pub value-visit : NodeVisit T image places words part here b'
    value-visit = record { below = value-below; ready = ready-less (omega arith) (omega arith) value-ready; fresh = fresh-first _ _ value-fresh }

    -- the rest after its visit, of its type
    abbrev with_type : ℕ → Walk Answer
    with_type w = U.values_from (ctx_in T image words) (pairs_read image b'.slots (at + 3) i ++ (get_or image (place_of at i) 0 ∷ w ∷ [])) others (ending T image n at)

    abbrev rest : Answer → Walk Answer
    rest a = ◌>>=◌ (value_type a) with_type

    value-leads : Leads (recording T image words n st b) (◌>>=◌ (node (ctx_in T image words) (tree_of image part)) rest)
        (room (tree_of image part) + value_rooms others) (rows (tree_of image part) + value_rows others) here b'
    unfolding value_rooms value_rows
    value-leads =
        leads_as (◌>>=◌ (node (ctx_in T image words) (tree_of image part)) rest)
        (U.values-turn (ctx_in T image words) (pairs_read image b'.slots (at + 3) i) (ending T image n at) (get_or image (place_of at i) 0) (tree_of image part) others (whole words here b'))
        (rw all-values at h.leads)

    module _ {b₁ : Lent} where
      pub turn-stops : {e : Refusal} → NodeVisited T image words part here b' b₁ (Err e) → NodeVisited T image words n st b b₁ (Err e)
      turn-stops x = leads-stop rest value-leads x

      module _ {a : Answer} {on : State} (x : NodeVisited T image words part here b' b₁ (Ok (a, on))) where
        -- its slot tells its type
        type-is : value_type a (whole words on b₁) ≡ ok (node_value image b₁.slots part) (whole words on b₁)
        unfolding node_value
        type-is =
            let e = came_ok x in
            let t : Tells (Reads (tree_of image part)) (slot_of (tree_of image part)) 0 (ok a (whole words on b₁)) =
            rw e at (node-tells (ctx_in T image words) (tree_of image part) (whole words here b') (fresh-first _ _ value-fresh)) in
            value-told (walk_run T image words) t (node-answer (after-node value-ready value-below x))

        -- the slots of those done before are as they were
        told : pairs_read image b'.slots (at + 3) i ++ (get_or image (place_of at i) 0 ∷ node_value image b₁.slots part ∷ []) ≡ pairs_read image b₁.slots (at + 3) (i + 1)
        unfolding visited_in_values
        told =
            let o : (a : ℕ) → owned a (visited_in_values (left_at image at count i)) ≡ owned a (visited_from (tree_of image part)) + owned a (visited_in_values others) = λ a.
            ap (λ vs. owned a (visited_in_values vs)) all-values ∙ total-append (λ y. N.count a (slots_of y)) (visited_from (tree_of image part)) (visited_in_values others) in
            ap (λ ps. ps ++ (get_or image (place_of at i) 0 ∷ node_value image b₁.slots part ∷ []))
            (sym (read-still image (visit-apart (ctx_in T image words) (tree_of image part) x) (at + 3) i (λ a q. omega (arith, h.apart a, o a))))
            ∙ ap (λ p. pairs_read image b₁.slots (at + 3) i ++ (get_or image (place_of at i) 0 ∷ node_value image b₁.slots p ∷ [])) part-is
            ∙ sym (read_more image b₁.slots (at + 3) i)

        next-leads : Leads (recording T image words n st b)
            (U.values_from (ctx_in T image words) (pairs_read image b₁.slots (at + 3) (i + 1)) others (ending T image n at)) (value_rooms others) (value_rows others) on b₁
        next-leads =
            leads_as (U.values_from (ctx_in T image words) (pairs_read image b₁.slots (at + 3) (i + 1)) others (ending T image n at))
            (ap (λ r. next r with_type) type-is ∙ ap (λ ps. U.values_from (ctx_in T image words) ps others (ending T image n at) (whole words on b₁)) told)
            (leads-then rest value-leads x)

        still-apart : (a : ℕ) → owned a (visited_in_values (values_at image (at + 3) (i + 1))) + owned a (visited_in_values others) ≤ 1
        unfolding visited_in_values
        still-apart a =
            omega (
              arith,
              h.apart a,
              ap (λ vs. owned a (visited_in_values vs)) all-values,
              total-append (λ y. N.count a (slots_of y)) (visited_from (tree_of image part)) (visited_in_values others),
              done_more image a (at + 3) i,
              ap (λ p. owned a (visited_from (tree_of image p))) part-is,
            )

        pub turn-next : Turn T image places words n at count st b on (i + 1) b₁
        turn-next =
            let p : place_of at i + 2 ≡ place_of at (i + 1) = omega arith in
            let c : count - i - 1 ≡ count - (i + 1) = omega arith in
            record {
              within = omega arith;
              values = h.values;
              leads = rw (p, c) at next-leads;
              ready = rw (p, c) at (ready-then value-ready (after-node value-ready value-below x));
              fresh = rw (p, c) at (fresh-rest _ _ value-fresh (visit-apart (ctx_in T image words) (tree_of image part) x));
              apart = λ a. rw (p, c) at (still-apart a);
            }

  -- ── After the loop ──

  pub record_made : count ≤ i → {b₁ : Lent} {v : Visit Answer}
      → Visits (record_of T n (word_at image (at + 1)) (pairs_read image b'.slots (at + 3) count)) 0 0 words here b' b₁ v → NodeVisited T image words n st b b₁ v
  unfolding values_from
  record_made l {b₁} {v} y =
      let z : count - i ≡ 0 = omega arith in
      let e : i ≡ count = omega (arith, h.within) in
      let leads : Leads (recording T image words n st b)
      (U.values_from (ctx_in T image words) (pairs_read image b'.slots (at + 3) count) no_value (ending T image n at)) _ _ here b' =
      rw (z, e) at h.leads in
      leads.onto b₁ v (visits-most (omega arith) (omega arith)
      (record { step = U.values-end (ctx_in T image words) (pairs_read image b'.slots (at + 3) count) (ending T image n at) (whole words here b') ∙ y.step; keeps = y.keeps }))

-- ── Node::Record ──

module _ {T : Texts} {image places words : List ℕ} {n : ℕ} {st : State} {b : Lent} (y : ClassVisit (Is 12) T image places words n st b) {at l : ℕ}
    (ea : at ≡ get_or places n 0) (long : l ≡ record_length image at) where
  there : NodeReady image places n
  there = node-ready y.visit

  kind : record_kind image at ≡ 12
  kind = ap (record_kind image) ea ∙ y.kind

  facts : RecordWords (counts_of there) image n at
  facts = words_record there ea refl refl kind

  abbrev fields : Values
  fields = values_at image (at + 3) ((l - 3) / 2)

  tree : tree_of image n ≡ Record n (get_or image (at + 1) 0) (get_or image (at + 2) 0) fields
  tree = node_record there ea refl refl kind ∙ ap (λ j. Record n (get_or image (at + 1) 0) (get_or image (at + 2) 0) (values_at image (at + 3) ((j - 3) / 2))) (sym long)

  -- the record's words
  pub record_length_lem : 3 ≤ l
  record_length_lem = omega (arith, facts.long, long)

  pub record_inside : at + l ≤ 8192
  record_inside = rw long (record_room there ea)

  pub record_low : at ≤ 8192
  record_low = omega (arith, record_inside)

  begins : Leads (recording T image words n st b) (U.values_from (ctx_in T image words) [] fields (ending T image n at)) (value_rooms fields) (value_rows fields) st b
  unfolding node room rows record_of
  begins = record { onto = λ b' v x. rw tree (record { step = x.step; keeps = x.keeps }) }

  pub turn-begin : {count : ℕ} → count ≡ (l - 3) / 2 → Turn T image places words n at count st b st 0 b
  unfolding pairs_read values_from visited_in_values total
  turn-begin ec =
      let p : place_of at 0 ≡ at + 3 = omega arith in
      let c : (l - 3) / 2 - 0 ≡ (l - 3) / 2 = omega arith in
      let f = record_fresh y.visit tree in
      rw ec
      (record {
        within = omega arith;
        values = record { ready = there; values = rw (← long) at facts.values; room = omega (arith, record_inside, record_length_lem) };
        leads = rw (p, c) begins;
        ready = rw (p, c) (R.record_room y.visit tree);
        fresh = rw (p, c) f;
        apart = λ a. rw (p, c) (omega (arith, f.once a));
      })
