-- A Match, put together of its cases' visits and its default's: the loop's invariant with a law for its beginning, each turn and its ends,
-- and one law for each way out of the code after it. Assumes nothing.
use Rattle.std.specs.Prelude.{ℕ, zero, suc, ◌+◌, ◌*◌, ◌-◌, ◌≤◌, ◌<◌, ◌≡◌, refl, get_or, Ok, Err}
use Rattle.std.proofs.Common.{sym, ◌∙◌}
use Rattle.std.proofs.Math.Path.{ap}
use mathlib.Core.List.{List, [], ◌∷◌, ◌++◌, append_assoc}
use native.Mathlib.Omega.{arith}
use Rattle.tok.specs.Text.{Texts}
use Rattle.tok.specs.Step.{next, ◌>>=◌, ◌>>◌}
use Rattle.ast.specs.Image.{word_at, record_length}
use Rattle.ast.specs.Node.{Node, Nodes, Cases, Match, cases_from, cases_end, read_match, tree_of}
use Rattle.image_laws.specs.RecordWords.{MatchWords}
use Rattle.trees.specs.SameWords.{cases_end_lem}
use Rattle.rules.specs.declared.Answer.{Answer}
use Rattle.rules.specs.World.{Ctx, World, Walk}
use Rattle.rules.specs.Rules.{condition, Branch, matched, node, block}
use Rattle.rules.specs.Visited.{visited_among, visited_in_cases, slots_of}
use Rattle.accepts.specs.Count as N
use Rattle.accepts.specs.Count.{total, total-append}
use Rattle.accepts.proofs.OtherSlots.{owned}
use Rattle.accepts.proofs.Fresh.{visited_from, Fresh, fresh-first, fresh-rest}
use Rattle.room_laws.specs.Room.{room, rooms, case_rooms, rows, rows_all, case_rows}
use Rattle.places.specs.NodesAt.{NodeReady, counts_of, record_room, node-match, words-match}
use Rattle.spans.specs.Ready.{NodesReady, CasesReady, case-condition, case-room, case-body, case-rest}
use Rattle.state.specs.declared.Refusal.{Refusal}
use Rattle.visit.specs.declared.State.{State}
use Rattle.visit.specs.Whole.{Lent, whole, Visit}
use Rattle.visit.specs.Within.{Visits}
use Rattle.visiting.specs.Blocks.{left_of, leave_of}
use Rattle.visiting.specs.Leads.{Beginning, Leads, leads-begin, leads-less, leads-then, leads-stop}
use Rattle.visiting.specs.Turns as U
use Rattle.ready.specs.Ready.{Ready, node-ready}
use Rattle.ready.specs.Passes.{ready-less, ready-rest}
use Rattle.ready.specs.Parts.{match-room, cases-turn, cases-room}
use Rattle.ready.specs.Unvisited.{match-fresh, block-visits-apart}
use Rattle.ready.specs.Asked.{match-cases, default_nodes}
use Rattle.walking.specs.Kinds.{Is}
use Rattle.walking.specs.Visited.{ctx_in, NodeVisited, ClassVisit, nodes_at, ListVisit, ListVisited, case_body, case_rule, CaseVisit, CaseVisited}
use Rattle.walking.specs.Blocks.{block-visits}
use Rattle.branches.specs.Branches.{branch_at, branches_from, cases-few, end_more, branches-more, branches-still}
use Rattle.branches.specs.Case.{case-apart, case-told, after-case}

-- ── Rules that are alike ──

leads-same : {o : Beginning} {m m' : Walk Answer} {r w : ℕ} {st : State} {b : Lent} → ((s : World) → m s ≡ m' s) → Leads o m r w st b → Leads o m' r w st b
leads-same {o} {st = st} {b = b} e l = record { onto = λ b' v x. l.onto b' v (record { step = e (whole o.library st b) ∙ x.step; keeps = x.keeps }) }

-- a case, and what follows it
case-then : (c : Ctx) (n token : ℕ) (x : Node) (body : Nodes) (f : Answer → Walk Answer) (s : World)
    → next (node c x s) (λ a. condition c n token a >> (◌>>=◌ (block c body) f)) ≡ next (case_rule c n token x body s) f
unfolding case_rule
case-then c n token x body f s =
    U.next-alike (node c x s) (λ a t. sym (U.next-next (condition c n token a t) _ f)) ∙ sym (U.next-next (node c x s) _ f)

-- a Match, before its first case
match-rule : (c : Ctx) (n slot token : ℕ) (cs : Cases) (d : Nodes) (s : World)
    → node c (Match n slot cs token d) s ≡ U.cases_from c n [] cs (λ bs. ◌>>=◌ (block c d) (λ a. matched c n slot bs a)) s
unfolding node
match-rule c n slot token cs d s = refl

-- ── The loop ──

-- the word after the cases of a Match at `at`, and its default's body
abbrev pub default_at : (image : List ℕ) → (at : ℕ) → ℕ
default_at image at = cases_end image (at + 3) (word_at image (at + 2))

abbrev pub default_body : (image : List ℕ) → (at : ℕ) → Nodes
default_body image at = nodes_at image (default_at image at + 1) (at + record_length image at - (default_at image at + 1))

abbrev pub cases_at : (image : List ℕ) → (place k : ℕ) → Cases
cases_at image place k = cases_from (tree_of image) image place k

-- what follows the cases
abbrev pub ending : Texts → (image words : List ℕ) → (n at : ℕ) → List Branch → Walk Answer
ending T image words n at bs = ◌>>=◌ (block (ctx_in T image words) (default_body image at)) (λ a. matched (ctx_in T image words) n (word_at image (at + 1)) bs a)

-- the nodes that are visited in k cases from word `place` on, and in the default's body
abbrev pub left_over : (image : List ℕ) → (at place k : ℕ) → List Node
left_over image at place k = visited_in_cases (cases_at image place k) ++ visited_among (default_body image at)

-- the Match's rule, at its beginning
abbrev pub matching : Texts → (image words : List ℕ) → (n : ℕ) → State → Lent → Beginning
matching T image words n st b = record { rule = node (ctx_in T image words) (tree_of image n); room = room (tree_of image n); rows = rows (tree_of image n); library = words; st = st; b = b }

-- i of its cases are done, as their slots tell; the others begin at `place`
pub record Turn (T : Texts) (image places words : List ℕ) (n at count : ℕ) (st : State) (b : Lent) (here : State) (place i : ℕ) (b' : Lent) : Type 0 where
  pub within : i ≤ count
  pub counted : count ≡ word_at image (at + 2)
  pub place_is : place ≡ cases_end image (at + 3) i
  -- what the image has there
  pub cases : CasesReady image places n place (count - i)
  pub ready-node : NodeReady image places n
  pub at-is : at ≡ get_or places n 0
  pub facts : MatchWords (counts_of ready-node) image n at
  -- what is left of the rule leads to all of it, and there is room for it
  pub leads : Leads (matching T image words n st b) (U.cases_from (ctx_in T image words) n (branches_from image b'.slots (at + 3) i) (cases_at image place (count - i)) (ending T image words n at))
      (case_rooms (cases_at image place (count - i)) + rooms (default_body image at)) (case_rows (cases_at image place (count - i)) + rows_all (default_body image at)) here b'
  pub ready : Ready T image places words (case_rooms (cases_at image place (count - i)) + rooms (default_body image at))
      (case_rows (cases_at image place (count - i)) + rows_all (default_body image at)) here b'
  -- the slots of those that are left have no type yet, and none of them is a slot of those that are done
  pub fresh : Fresh (left_over image at place (count - i)) b'.slots
  pub apart : (a : ℕ) → owned a (visited_in_cases (cases_at image (at + 3) i)) + owned a (left_over image at place (count - i)) ≤ 1

-- one more case is done
done_more : (image : List ℕ) (a at k : ℕ) → owned a (visited_in_cases (cases_at image at (k + 1)))
    ≡ owned a (visited_in_cases (cases_at image at k)) + owned a (visited_from (tree_of image (word_at image (cases_end image at k + 1))) ++ visited_among (case_body image (cases_end image at k)))
unfolding visited_in_cases cases_from cases_end total
done_more image a at zero = omega (arith, total-append (λ y. N.count a (slots_of y)) (visited_from (tree_of image (word_at image (at + 1))) ++ visited_among (case_body image at)) [])
done_more image a at (suc k) =
    let e : suc k + 1 ≡ suc (k + 1) = omega arith in
    let next : ℕ = at + 3 + word_at image (at + 2) in
    let first : List Node = visited_from (tree_of image (word_at image (at + 1))) ++ visited_among (case_body image at) in
    rw e
    (omega (
      arith,
      total-append (λ y. N.count a (slots_of y)) first (visited_in_cases (cases_at image next (k + 1))),
      total-append (λ y. N.count a (slots_of y)) first (visited_in_cases (cases_at image next k)),
      done_more image a next k,
    ))

-- ── Its beginning ──

module _ {T : Texts} {image places words : List ℕ} {n at : ℕ} {st : State} {b : Lent} (h : ClassVisit (Is 6) T image places words n st b) (e : at ≡ get_or places n 0) where
  is-match : tree_of image n ≡ read_match (tree_of image) image n at
  is-match = node-match (node-ready h.visit) e refl refl (rw e h.kind)

  match-words : MatchWords (counts_of (node-ready h.visit)) image n at
  match-words = words-match (node-ready h.visit) e refl refl (rw e h.kind)

  pub place-room : at + 4 ≤ 8192
  place-room = omega (arith, record_room (node-ready h.visit) e, match-words.long)

  begins : Leads (matching T image words n st b) (U.cases_from (ctx_in T image words) n [] (cases_at image (at + 3) (word_at image (at + 2))) (ending T image words n at))
      (case_rooms (cases_at image (at + 3) (word_at image (at + 2))) + rooms (default_body image at))
      (case_rows (cases_at image (at + 3) (word_at image (at + 2))) + rows_all (default_body image at)) st b
  unfolding room rows
  begins =
      leads-less (omega (arith, ap room is-match)) (omega (arith, ap rows is-match))
      (leads-same (λ s. ap (λ x. node (ctx_in T image words) x s) is-match
      ∙ match-rule (ctx_in T image words) n (word_at image (at + 1)) _ (cases_at image (at + 3) (word_at image (at + 2))) (default_body image at) s)
      (leads-begin (matching T image words n st b)))

  all-fresh : Fresh (left_over image at (at + 3) (word_at image (at + 2))) b.slots
  all-fresh = match-fresh h.visit is-match

  pub turn-begin : {count : ℕ} → count ≡ get_or image (at + 2) 0 → Turn T image places words n at count st b st (at + 3) 0 b
  unfolding branches_from cases_end cases_from visited_in_cases total
  turn-begin {count} ec =
      let z : word_at image (at + 2) - 0 ≡ word_at image (at + 2) = omega arith in
      rw ec
      (record {
        within = omega arith;
        counted = refl;
        place_is = refl;
        cases = rw z (match-cases (node-ready h.visit) e match-words refl);
        ready-node = node-ready h.visit;
        at-is = e;
        facts = match-words;
        leads = rw z begins;
        ready = rw z (match-room h.visit is-match);
        fresh = rw z all-fresh;
        apart = λ a. rw z (omega (arith, all-fresh.once a));
      })

-- ── A turn ──

module _ {T : Texts} {image places words : List ℕ} {n at count : ℕ} {st : State} {b : Lent} {here : State} {place i : ℕ} {b' : Lent}
    (h : Turn T image places words n at count st b here place i b') where
  pub few : 3 * count + 4 ≤ 8192
  few = let l = cases-few h.facts.cases in omega (arith, record_room h.ready-node h.at-is, h.counted)

  module _ (l : i < count) where
    left : 0 < count - i
    left = omega arith

    pub place_inside : place + 3 ≤ 8192
    place_inside = omega (arith, case-room left h.cases refl)

    -- this case's nodes, and those after it
    abbrev own : List Node
    own = visited_from (tree_of image (word_at image (place + 1))) ++ visited_among (case_body image place)

    abbrev after : List Node
    after = left_over image at (place + 3 + word_at image (place + 2)) (count - i - 1)

    split : left_over image at place (count - i) ≡ own ++ after
    unfolding visited_in_cases
    split =
        ap (λ cs. visited_in_cases cs ++ visited_among (default_body image at)) (cases-turn image place left)
        ∙ append_assoc own (visited_in_cases (cases_at image (place + 3 + word_at image (place + 2)) (count - i - 1))) (visited_among (default_body image at))

    both-fresh : Fresh (own ++ after) b'.slots
    both-fresh = rw split at h.fresh

    pub turn-case : CaseVisit T image places words n place here b'
    turn-case = record {
      below = h.ready-node.below;
      test = record { under = (case-condition left h.cases refl).under };
      body = (case-body left h.cases refl).nodes;
      inside = case-room left h.cases refl;
      ready = ready-less (omega arith) (omega arith) (cases-room place left (rooms (default_body image at)) (rows_all (default_body image at)) h.ready);
      fresh = fresh-first own after both-fresh;
    }

    -- the rest after this case, by what it answers
    abbrev rest : Answer → Walk Answer
    rest a = U.cases_from (ctx_in T image words) n (branches_from image b'.slots (at + 3) i ++ (record { token = word_at image place; answer = a } ∷ []))
        (cases_at image (place + 3 + word_at image (place + 2)) (count - i - 1)) (ending T image words n at)

    next-case : Leads (matching T image words n st b) (◌>>=◌ (case_rule (ctx_in T image words) n (word_at image place) (tree_of image (word_at image (place + 1))) (case_body image place)) rest)
        (room (tree_of image (word_at image (place + 1))) + rooms (case_body image place) +
        (case_rooms (cases_at image (place + 3 + word_at image (place + 2)) (count - i - 1)) + rooms (default_body image at)))
        (rows (tree_of image (word_at image (place + 1))) + rows_all (case_body image place) +
        (case_rows (cases_at image (place + 3 + word_at image (place + 2)) (count - i - 1)) + rows_all (default_body image at))) here b'
    unfolding room rows
    next-case =
        leads-less (omega (arith, ap case_rooms (cases-turn image place left))) (omega (arith, ap case_rows (cases-turn image place left)))
        (leads-same (λ s. ap (λ cs. U.cases_from (ctx_in T image words) n (branches_from image b'.slots (at + 3) i) cs (ending T image words n at) s) (cases-turn image place left)
        ∙ U.cases-turn (ctx_in T image words) n (branches_from image b'.slots (at + 3) i) (ending T image words n at) (word_at image place) (tree_of image (word_at image (place + 1)))
        (case_body image place) (cases_at image (place + 3 + word_at image (place + 2)) (count - i - 1)) s
        ∙ case-then (ctx_in T image words) n (word_at image place) (tree_of image (word_at image (place + 1))) (case_body image place) rest s)
        h.leads)

    pub turn-stops : {b₁ : Lent} {e : Refusal} → CaseVisited T image words n place here b' b₁ (Err e) → NodeVisited T image words n st b b₁ (Err e)
    turn-stops x = leads-stop rest next-case x

    module _ {b₁ : Lent} {a : Answer} {next : State} (x : CaseVisited T image words n place here b' b₁ (Ok (a, next))) where
      -- the slots of those done before are as they were, and this one's tells what it answered
      told : branches_from image b'.slots (at + 3) i ++ (record { token = word_at image place; answer = a } ∷ []) ≡ branches_from image b₁.slots (at + 3) (i + 1)
      told =
          let o : (a : ℕ) → owned a (left_over image at place (count - i)) ≡ owned a own + owned a after = λ a. ap (owned a) split ∙ total-append (λ y. N.count a (slots_of y)) own after in
          ap (λ bs. bs ++ (record { token = word_at image place; answer = a } ∷ []))
          (sym (branches-still image (case-apart T image words n place x) (at + 3) i (λ a q. omega (arith, h.apart a, o a))))
          ∙ ap (λ y. branches_from image b₁.slots (at + 3) i ++ (record { token = word_at image place; answer = y } ∷ [])) (case-told turn-case x)
          ∙ ap (λ p. branches_from image b₁.slots (at + 3) i ++ (branch_at image b₁.slots p ∷ [])) h.place_is
          ∙ sym (branches-more image b₁.slots (at + 3) i)

      still-apart : (a : ℕ) → owned a (visited_in_cases (cases_at image (at + 3) (i + 1))) + owned a after ≤ 1
      still-apart a =
          omega (
            arith,
            h.apart a,
            ap (owned a) split,
            total-append (λ y. N.count a (slots_of y)) own after,
            done_more image a (at + 3) i,
            ap (λ p. owned a (visited_from (tree_of image (word_at image (p + 1))) ++ visited_among (case_body image p))) h.place_is,
          )

      ready-next : Ready T image places words (case_rooms (cases_at image (place + 3 + word_at image (place + 2)) (count - i - 1)) + rooms (default_body image at))
          (case_rows (cases_at image (place + 3 + word_at image (place + 2)) (count - i - 1)) + rows_all (default_body image at)) next b₁
      ready-next =
          ready-rest _ _ (omega arith) (omega arith) (cases-room place left (rooms (default_body image at)) (rows_all (default_body image at)) h.ready) (after-case turn-case x)

      pub turn-next : {place' : ℕ} → place' ≡ place + 3 + get_or image (place + 2) 0
          → Turn T image places words n at count st b next place' (i + 1) b₁
      turn-next eq =
          let z : count - i - 1 ≡ count - (i + 1) = omega arith in
          rw eq
          (record {
            within = omega arith;
            counted = h.counted;
            place_is = ap (λ p. p + 3 + word_at image (p + 2)) h.place_is ∙ sym (end_more image (at + 3) i);
            cases = rw z at (case-rest left h.cases refl);
            ready-node = h.ready-node;
            at-is = h.at-is;
            facts = h.facts;
            leads = rw (z, told) at (leads-then rest next-case x);
            ready = rw z at ready-next;
            fresh = rw z at (fresh-rest own after both-fresh (case-apart T image words n place x));
            apart = λ a. rw z at (still-apart a);
          })

  -- ── After the loop ──

  module _ (l : count ≤ i) where
    all_done : i ≡ count
    all_done = omega (arith, h.within)

    default_place : place ≡ default_at image at
    default_place = h.place_is ∙ ap (cases_end image (at + 3)) (all_done ∙ h.counted)

    -- the default's token stands in the record
    pub default_inside : place + 1 ≤ at + record_length image at
    default_inside = rw default_place (cases_end_lem h.facts.cases)

    pub record_inside : at + record_length image at ≤ 8192
    record_inside = record_room h.ready-node h.at-is

    none_left_lem : Leads (matching T image words n st b) (ending T image words n at (branches_from image b'.slots (at + 3) (word_at image (at + 2)))) (rooms (default_body image at))
        (rows_all (default_body image at)) here b'
    unfolding cases_from
    none_left_lem =
        let z : count - i ≡ 0 = omega arith in
        let f : i ≡ word_at image (at + 2) = all_done ∙ h.counted in
        leads-less (omega arith) (omega arith)
        (leads-same (λ s. U.cases_end_lem (ctx_in T image words) n (branches_from image b'.slots (at + 3) (word_at image (at + 2))) (ending T image words n at) s) (rw (z, f) at h.leads))

    default_fresh : Fresh (visited_among (default_body image at)) b'.slots
    unfolding cases_from visited_in_cases
    default_fresh = let z : count - i ≡ 0 = omega arith in rw z at h.fresh

    default_apart : (a : ℕ) → owned a (visited_in_cases (cases_at image (at + 3) (word_at image (at + 2)))) + owned a (left_over image at place 0) ≤ 1
        → 1 ≤ owned a (visited_in_cases (cases_at image (at + 3) (word_at image (at + 2)))) → owned a (visited_among (default_body image at)) ≡ 0
    unfolding cases_from visited_in_cases
    default_apart a p q = omega arith

    module _ {k : ℕ} (ek : k ≡ at + record_length image at - (place + 1)) where
      length-is : k ≡ at + record_length image at - (default_at image at + 1)
      length-is = rw default_place at ek

      pub default_visit : ListVisit T image places words n (place + 1) k here b'
      default_visit =
          let d : NodesReady image places n (default_at image at + 1) k = default_nodes h.ready-node h.at-is h.facts length-is in
          rw default_place
          (record {
            below = omega (arith, h.ready-node.below);
            nodes = d.nodes;
            inside = d.room;
            ready = rw length-is (ready-less (omega arith) (omega arith) h.ready);
            fresh = rw length-is default_fresh;
          })

      abbrev matched_with : Answer → Walk Answer
      matched_with a = matched (ctx_in T image words) n (word_at image (at + 1)) (branches_from image b'.slots (at + 3) (word_at image (at + 2))) a

      module _ {b₁ : Lent} where
        default_block : {v : Visit Answer} → ListVisited T image words (place + 1) k here b' b₁ v
            → Visits (block (ctx_in T image words) (default_body image at)) (rooms (default_body image at)) (rows_all (default_body image at)) words here b' b₁ (leave_of v here)
        default_block x = block-visits (ctx_in T image words) (default_body image at) (rw (default_place, length-is) at x)

        pub default_stops : {e : Refusal} → ListVisited T image words (place + 1) k here b' b₁ (Err e) → NodeVisited T image words n st b b₁ (Err e)
        unfolding leave_of
        default_stops x = leads-stop matched_with none_left_lem (default_block x)

        module _ {a : Answer} {end : State} (x : ListVisited T image words (place + 1) k here b' b₁ (Ok (a, end))) where
          left-there : Visits (block (ctx_in T image words) (default_body image at)) (rooms (default_body image at)) (rows_all (default_body image at)) words here b' b₁ (Ok (a, left_of end here))
          unfolding leave_of
          left-there = default_block x

          -- the default's visits change nothing of the cases' slots
          same-branches : branches_from image b₁.slots (at + 3) (word_at image (at + 2)) ≡ branches_from image b'.slots (at + 3) (word_at image (at + 2))
          same-branches =
              let z : count - i ≡ 0 = omega arith in
              let f : i ≡ word_at image (at + 2) = all_done ∙ h.counted in
              branches-still image (block-visits-apart (ctx_in T image words) (default_body image at) left-there) (at + 3) (word_at image (at + 2))
              (λ a q. default_apart a (rw (z, f) at (h.apart a)) q)

          pub match-ends : {last : State} {b₂ : Lent} {r : Visit Answer} → last ≡ left_of end here
              → Visits (matched (ctx_in T image words) n (word_at image (at + 1)) (branches_from image b₁.slots (at + 3) (word_at image (at + 2))) a) 0 0 words last b₁ b₂ r
              → NodeVisited T image words n st b b₂ r
          match-ends {b₂ = b₂} {r = r} e y =
              (leads-then matched_with {r₂ = 0} {w₂ = 0} (leads-less (omega arith) (omega arith) none_left_lem) left-there).onto b₂ r (rw (same-branches, e) at y)

    pub end-cases : CasesReady image places n (at + 3) (word_at image (at + 2))
    end-cases = match-cases h.ready-node h.at-is h.facts refl
