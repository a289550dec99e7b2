-- Reading arguments, functions and packages as the code does: one rule after another, and one more in each turn of a loop. What was read
-- is said by place, as the decoders have it. Assumes nothing.
use Prim.Native.Nat.{ℕ, zero, suc, ◌+◌, ◌*◌, ◌≤◌, ◌<◌}
use Rattle.std.specs.Prelude as rust
use Rattle.std.specs.Prelude.{Ok, Err}
use mathlib.Core.Path.{◌≡◌, refl, sym, ap, subst, ◌∙◌}
use mathlib.Core.Bool.{Bool, true, false, ◌&&◌}
use mathlib.Core.List.{List, [], ◌∷◌, ◌++◌, map}
use native.Mathlib.Omega.{arith}
use native.Mathlib.Nat.{le_of_suc-le-suc, not-suc-le-zero}
use native.Mathlib.Numerals.{add-one}
use lib.ListN.{get_or, take, drop}
use lib.Dec.{eqb}
use borrow.Author.Tests.{eq-eqb}
use Rattle.tok.specs.Name.{good_name, in_library}
use Rattle.tok.specs.Step.{Result, ok, refused, next, ◌>>=◌, return}
use Rattle.tok.specs.Reader.{Cursor, Read, word, owing, many}
use Rattle.reader.specs.declared.Fault.{Fault}
use Rattle.reader.specs.Reading.{Reader, standing, next_word, onward, gave, Same, Comes}
use Rattle.reader.specs.Laws.{owed, onward-return, onward_then, onward_stops, onward_last}
use Rattle.reader.specs.Reads.{Within, Reads, reads_word, onward-place, onward-shown, onward-within, gave-there}
use Rattle.reader.specs.Repeated.{Repeated, none_left, one_more as turn_more, one_stops}
use Rattle.tok.specs.Text.{Texts}
use Rattle.library.specs.Pool.{Pool, pool_in}
use Rattle.library.specs.Slots.{return_stands}
use Rattle.library.specs.Each.{Each}
use Rattle.library.specs.TypeWords.{TypeWord}
use Rattle.library.specs.SlotMarks.{types_in}
use Rattle.library.specs.Package.{param, Function, function, signature, pkg, params_from, function_at, function_end, functions_from, functions_end, packages_from}
use Rattle.library.specs.Signatures.{entries_from}
use Rattle.library.specs.EntryLaws.{entries-library}
use Rattle.library.specs.PackageRecords.{any_function, same_group, good_group, good_flag, good_signature_type, argument, good_return, function_record, function_records, package_record}
use Rattle.library.specs.PackagesRead.{ParamFine, GroupFine, FunctionsShown, argument-reads, arguments-reads, function-reads, functions-reads, package_at, package_end, package_reads, packages-reads}
use Rattle.library_read.specs.Ready.{Placed}
use Rattle.library_groups.specs.Kept.{GroupsKept}
use Rattle.library_read.proofs.SignatureWays.{types-of-pairs, fine-types}

-- the words stay the same over two readings
same-then : (from mid : Reader) (to : rust.Result Reader Fault) → mid.words ≡ from.words → Same mid to → Same from to
same-then from mid (Ok to) e f = f ∙ e
same-then from mid (Err fault) e f = tt

-- ── One rule again and again ──

-- The turns of a list that one rule reads, each of which answers as its first place says.
module _ {A : Type 0} {one : Reader → ℕ → rust.Result Reader Fault → Type 0} (m : Read A) (words : List ℕ) (answer : Reader → A)
    (turn : (from : Reader) (i : ℕ) (to : rust.Result Reader Fault) → from.words ≡ words → one from i to → Comes from m (answer from) to) where
  pub answers : {i n : ℕ} {from : Reader} {to : rust.Result Reader Fault} → Repeated one i n from to → List A
  answers none_left = []
  answers {from = from} (turn_more h rest) = answer from ∷ answers rest
  answers (one_stops h) = []

  pub all_turns : {i n : ℕ} {from : Reader} {to : rust.Result Reader Fault} → from.words ≡ words → (r : Repeated one i n from to) → Comes from (many n m) (answers r) to
  unfolding many answers
  all_turns {from = from} e none_left = (onward-return from [], refl)
  all_turns {from = from} {to = to} e (turn_more {i = i} {count = n} {mid = mid} h rest) =
      let t = turn from i (Ok mid) e h in
      let others = all_turns (t.1 ∙ e) rest in (
        onward_then from m (λ a. ◌>>=◌ (many n m) (λ found. return (a ∷ found))) (answer from) mid t.0
            ∙ onward_last (λ found. answer from ∷ found) (answers rest) to (onward mid (many n m)) others.0,
        same-then from mid to t.1 others.1,
      )
  all_turns {from = from} e (one_stops {i = i} {count = n} {fault = fault} h) =
      (onward_stops from m (λ a. ◌>>=◌ (many n m) (λ found. return (a ∷ found))) (answer from) fault [] (turn from i (Err fault) e h).0, tt)

-- ── Arguments ──

module _ (p : Pool) (flag : ℕ) where
  pub argument-by : (from c : Reader) (to : rust.Result Reader Fault) (w : ℕ) (good : Bool)
      → Comes from (word (good_name in_library p.texts.library)) (next_word from) (Ok c)
      → w ≡ next_word c → good ≡ good_signature_type p flag w → Comes c (word (λ _. good)) (next_word c) to
      → Comes from (argument p flag) (param (next_word from) (get_or from.words (from.at + 1) 0)) to
  unfolding argument gave
  argument-by from c to w good e ew eg f = (
    gave-there to _ (param (next_word from) w) (from.at + 2) _ (argument-reads p from.words flag from.at from.least)
        (rw e.0 (onward_last (param (next_word from)) w to _ (owed (good_signature_type p flag) (λ _. 0) c to w 0 good ew eg refl f.0))),
    same-then from c to e.1 f.1,
  )

  -- all of them: where they are read, they are those that stand there
  module _ {one : Reader → ℕ → rust.Result Reader Fault → Type 0}
      (turn : (from : Reader) (i : ℕ) (to : rust.Result Reader Fault) → one from i to → Comes from (argument p flag) (param (next_word from) (get_or from.words (from.at + 1) 0)) to) where
    pub arguments-all : {i n : ℕ} {from : Reader} {to : rust.Result Reader Fault} → Repeated one i n from to
        → Comes from (many n (argument p flag)) (params_from from.words from.at n) to
    unfolding many params_from answers gave
    arguments-all {from = from} none_left = (onward-return from [], refl)
    arguments-all {n = n} {from = from} {to = to} (turn_more h rest) =
        let all = all_turns (argument p flag) from.words _ (λ at i to e. turn at i to) refl (turn_more h rest) in
        (gave-there to _ _ _ _ (arguments-reads p from.words flag n from.at from.least _ refl (λ z. absurd (omega arith))) all.0, all.1)
    arguments-all {from = from} (one_stops h) =
        let all = all_turns (argument p flag) from.words _ (λ at i to e. turn at i to) refl (one_stops h) in (all.0, tt)

-- ── A function ──

module _ (p : Pool) where
  -- where the arguments were read, they are fine, and their types those of the pairs
  module _ (flag count : ℕ) (d e f : Reader) (a : ℕ) (m : ℕ)
      (counted : Comes d (owing (λ _. true) (λ k. m * k)) a (Ok e))
      (read : Comes e (many count (argument p flag)) (params_from e.words e.at count) (Ok f)) where
    count-reads : Reads d.words (get_or d.words d.at 0) (d.at + 1) (true ≡ true) (onward d (owing (λ _. true) (λ k. m * k)))
    count-reads = reads_word (λ _. true) (λ k. m * k) d.words d.at d.least

    start-is : e.at ≡ d.at + 1
    start-is = onward-place _ _ count-reads counted.0

    start-within : Within e.words e.at
    start-within = rw (counted.1, start-is) (onward-within _ _ count-reads counted.0)

    all-reads : Reads e.words (params_from e.words e.at count) (e.at + 2 * count) (Each (ParamFine p (eqb flag 1)) (params_from e.words e.at count)) (onward e (many count (argument p flag)))
    all-reads = arguments-reads p e.words flag count e.at e.least _ refl (λ _. start-within)

    -- where they end
    types-end : f.at ≡ e.at + 2 * count
    types-end = onward-place _ _ all-reads read.0

    types-within : Within e.words (e.at + 2 * count)
    types-within = onward-within _ _ all-reads read.0

    -- they stand after two words and more: the group and the flag
    types-low : (c : Reader) (g : Bool) → onward c (word (λ _. g)) ≡ gave (next_word c) (Ok d) → 2 ≤ e.at
    types-low c g k =
        let flagged : d.at ≡ c.at + 1 = onward-place _ _ (reads_word (λ _. g) (λ _. 0) c.words c.at c.least) k in
        omega (arith, start-is)

    types_are : types_in (take (2 * count) (drop e.at e.words)) ≡ map (λ a. a.type) (params_from e.words e.at count)
    types_are = types-of-pairs e.words count e.at types-within.in_list

    types-fine : Each (TypeWord p p.size) (types_in (take (2 * count) (drop e.at e.words)))
    types-fine = rw types_are (fine-types p (eqb flag 1) _ (onward-shown _ _ all-reads read.0))

  -- what the rule on groups says of a function's first two words, where it is known to hold
  module _ (before : List Function) (from : Reader) {kept : Bool} (fine : kept ≡ true → GroupFine p before (function_at from.words from.at)) (group : ℕ)
      (eg : group ≡ next_word from) where
    pub others-kept : kept ≡ true → any_function (λ f. same_group p.texts group f && f.sig.with_slots) before ≡ false
    unfolding function_at
    others-kept y = rw eg (fine y).others

    pub own-kept : (c : Reader) (flag : ℕ) (g₁ : Bool) → Comes from (word (λ _. g₁)) (next_word from) (Ok c) → flag ≡ next_word c
        → kept ≡ true → flag ≡ 1 → any_function (same_group p.texts group) before ≡ false
    unfolding function_at
    own-kept c flag g₁ k1 ef y f =
        let there : c.at ≡ from.at + 1 = onward-place _ _ (reads_word (λ _. g₁) (λ _. 0) from.words from.at from.least) k1.0 in
        let w : get_or from.words (from.at + 1) 0 ≡ 1 = rw (← there, ← k1.1) (sym ef ∙ f) in
        rw eg ((fine y).own (eq-eqb _ 1 w))

  -- a function's words one after the other: where one offends, the function does
  module _ (before : List Function) (from : Reader) (group : ℕ) (g₁ : Bool) (e₁ : group ≡ next_word from) (h₁ : g₁ ≡ good_group p before group) where
    abbrev FunctionIs : rust.Result Reader Fault → Type 0
    FunctionIs to = Comes from (function_record p before) (function_at from.words from.at) to

    abbrev GroupIs : rust.Result Reader Fault → Type 0
    GroupIs to = Comes from (word (λ _. g₁)) (next_word from) to

    group-read : (to : rust.Result Reader Fault) → GroupIs to → onward from (word (good_group p before)) ≡ gave group to
    group-read to k = owed (good_group p before) (λ _. 0) from to group 0 g₁ e₁ h₁ refl k.0

    pub group_stops : (fault : Fault) → GroupIs (Err fault) → FunctionIs (Err fault)
    unfolding function_record gave
    group_stops fault k = (rw (group-read (Err fault) k) refl, tt)

    module _ (c : Reader) (k₁ : GroupIs (Ok c)) (flag : ℕ) (g₂ : Bool) (e₂ : flag ≡ next_word c) (h₂ : g₂ ≡ good_flag p before group flag) where
      abbrev FlagIs : rust.Result Reader Fault → Type 0
      FlagIs to = Comes c (word (λ _. g₂)) (next_word c) to

      flag-read : (to : rust.Result Reader Fault) → FlagIs to → onward c (word (good_flag p before group)) ≡ gave flag to
      flag-read to k = owed (good_flag p before group) (λ _. 0) c to flag 0 g₂ e₂ h₂ refl k.0

      pub flag_stops : (fault : Fault) → FlagIs (Err fault) → FunctionIs (Err fault)
      unfolding function_record gave
      flag_stops fault k = (rw (group-read (Ok c) k₁, flag-read (Err fault) k) refl, tt)

      module _ (d : Reader) (k₂ : FlagIs (Ok d)) (count n : ℕ) (e₃ : count ≡ next_word d) (en : n ≡ count) where
        abbrev CountIs : rust.Result Reader Fault → Type 0
        CountIs to = Comes d (owing (λ _. true) (λ _. 2 * n)) (next_word d) to

        count-read : (to : rust.Result Reader Fault) → CountIs to → onward d (owing (λ _. true) (λ k. 2 * k)) ≡ gave count to
        count-read to k = owed (λ _. true) (λ k. 2 * k) d to count (2 * n) true e₃ refl (ap (λ k. 2 * k) en) k.0

        pub count_stops : (fault : Fault) → CountIs (Err fault) → FunctionIs (Err fault)
        unfolding function_record gave
        count_stops fault k = (rw (group-read (Ok c) k₁, flag-read (Ok d) k₂, count-read (Err fault) k) refl, tt)

        module _ (e : Reader) (k₃ : CountIs (Ok e)) where
          abbrev ArgumentsAre : rust.Result Reader Fault → Type 0
          ArgumentsAre to = Comes e (many count (argument p flag)) (params_from e.words e.at count) to

          pub arguments_stop : (fault : Fault) → ArgumentsAre (Err fault) → FunctionIs (Err fault)
          unfolding function_record gave
          arguments_stop fault k = (rw (group-read (Ok c) k₁, flag-read (Ok d) k₂, count-read (Ok e) k₃, k.0) refl, tt)

          module _ (f : Reader) (k₄ : ArgumentsAre (Ok f)) where
            pub first-words : e.words ≡ from.words
            first-words = k₃.1 ∙ k₂.1 ∙ k₁.1

            counted : Comes d (owing (λ _. true) (λ k. 2 * k)) count (Ok e)
            counted = (count-read (Ok e) k₃, k₃.1)

            pub function-by : (to : rust.Result Reader Fault) (ret : ℕ) (g₃ : Bool) (pairs : List ℕ)
                → ret ≡ next_word f → pairs ≡ take (2 * count) (drop e.at e.words)
                → (Each (TypeWord p p.size) (types_in pairs) → Placed from.words (types_in pairs) ret e.at f.at
                → g₃ ≡ (good_signature_type p flag ret && return_stands p (types_in pairs) ret))
                → Comes f (word (λ _. g₃)) (next_word f) to → FunctionIs to
            unfolding function_record good_return gave
            function-by to ret g₃ pairs e₅ ep h₅ k₅ = (
              gave-there to _ (function group (signature (params_from e.words e.at count) ret (eqb flag 1))) (function_end from.words from.at) _
                  (function-reads p from.words before from.at from.least)
                  (rw (group-read (Ok c) k₁, flag-read (Ok d) k₂, count-read (Ok e) k₃, k₄.0)
                  (onward_last (λ w. function group (signature (params_from e.words e.at count) w (eqb flag 1))) ret to _
                  (owed (good_return p flag (params_from e.words e.at count)) (λ _. 0) f to ret 0 g₃ e₅ good refl k₅.0))),
              same-then from f to (k₄.1 ∙ first-words) k₅.1,
            )
              where
                types-are : types_in pairs ≡ map (λ b. b.type) (params_from e.words e.at count)
                types-are = ap types_in ep ∙ types_are flag count d e f count 2 counted k₄

                placed : Placed e.words (types_in pairs) ret e.at f.at
                placed =
                    let ends = types-end flag count d e f count 2 counted k₄ in
                    let w = types-within flag count d e f count 2 counted k₄ in
                    record {
                      count = count;
                      types_are = types-are;
                      ret-is = rw (← k₄.1) e₅;
                      ends = ends;
                      low = types-low flag count d e f count 2 counted k₄ c g₂ k₂.0;
                      high = omega (arith, ends, w.in_most);
                      within = omega (arith, ends, w.in_list);
                    }

                good : g₃ ≡ good_return p flag (params_from e.words e.at count) ret
                good =
                    h₅ (subst (λ x. Each (TypeWord p p.size) (types_in x)) (sym ep) (types-fine flag count d e f count 2 counted k₄))
                    (subst (λ ws. Placed ws (types_in pairs) ret e.at f.at) first-words placed)
                    ∙ ap (λ ts. good_signature_type p flag ret && return_stands p ts ret) types-are

-- ── Functions ──

module _ (p : Pool) where
  abbrev one_more : List Function → Read (List Function)
  one_more fs = ◌>>=◌ (function_record p fs) (λ f. return (fs ++ (f ∷ [])))

  functions-suc : (k : ℕ) (before : List Function) (c : Cursor) → function_records p (suc k) before c ≡ next (function_records p k before c) one_more
  unfolding function_records
  functions-suc zero before c = refl
  functions-suc (suc k) before c = by (function_record p before c) (λ f s. functions-suc k (before ++ (f ∷ [])) s)
    where
      by : (r : Result Cursor ℕ Function)
          → ((f : Function) (s : Cursor) → function_records p (suc k) (before ++ (f ∷ [])) s ≡ next (function_records p k (before ++ (f ∷ [])) s) one_more)
          → next r (λ f. function_records p (suc k) (before ++ (f ∷ []))) ≡ next (next r (λ f. function_records p k (before ++ (f ∷ [])))) one_more
      by (ok f s) h = h f s
      by (refused q) h = refl

  functions-stop : (j n : ℕ) → j ≤ n → (before : List Function) (q : ℕ) (c : Cursor) → function_records p j before c ≡ refused q → function_records p n before c ≡ refused q
  unfolding function_records
  functions-stop zero n l before q c e = cc
  functions-stop (suc j) zero l before q c e = absurd (not-suc-le-zero l)
  functions-stop (suc j) (suc n) l before q c e = by (function_record p before c) e (λ f s. functions-stop j n (le_of_suc-le-suc l) (before ++ (f ∷ [])) q s)
    where
      by : (r : Result Cursor ℕ Function) → next r (λ f. function_records p j (before ++ (f ∷ []))) ≡ refused q
          → ((f : Function) (s : Cursor) → function_records p j (before ++ (f ∷ [])) s ≡ refused q → function_records p n (before ++ (f ∷ [])) s ≡ refused q)
          → next r (λ f. function_records p n (before ++ (f ∷ []))) ≡ refused q
      by (ok f s) e h = h f s e
      by (refused z) e h = e

-- The loop over the functions: k of them are read, and the next stands where they end.
pub record FunctionsRead (p : Pool) (from to : Reader) (k : ℕ) : Type 0 where
  pub so_far : onward from (function_records p k []) ≡ gave (functions_from from.words from.at k) (Ok to)
  pub same : to.words ≡ from.words
  pub place : to.at ≡ functions_end from.words from.at k

module _ {p : Pool} {from : Reader} where
  pub functions-begin : FunctionsRead p from from 0
  unfolding function_records functions_from functions_end
  functions-begin = record { so_far = onward-return from []; same = refl; place = refl }

  module _ {to : Reader} {k : ℕ} (h : FunctionsRead p from to k) (f : Function) where
    so_many : onward from (function_records p (suc k) []) ≡ onward to (◌>>=◌ (function_record p (functions_from from.words from.at k)) (λ f. return (functions_from from.words from.at k ++ (f ∷ []))))
    so_many = functions-suc p k [] (standing from.words from.at from.least) ∙ onward_then from (function_records p k []) (one_more p) (functions_from from.words from.at k) to h.so_far

    -- the next is read beside those before it
    abbrev FunctionCame : rust.Result Reader Fault → Type 0
    FunctionCame r = Comes to (function_record p (entries_from from.words 1 from.at k)) f r

    function_came : (r : rust.Result Reader Fault) → FunctionCame r → onward to (function_record p (functions_from from.words from.at k)) ≡ gave f r
    function_came r e = rw (← entries-library from.words k from.at) e.0

    pub functions-turn : (next : Reader) → FunctionCame (Ok next) → FunctionsRead p from next (k + 1)
    functions-turn next e = record { so_far = rw (add-one k) read; same = e.1 ∙ h.same; place = rw (add-one k) (onward-place _ _ reads_all read) }
      where
        reads_all : Reads from.words (functions_from from.words from.at (suc k)) (functions_end from.words from.at (suc k))
            (FunctionsShown p [] (functions_from from.words from.at (suc k))) (onward from (function_records p (suc k) []))
        reads_all = functions-reads p from.words (suc k) [] from.at from.least (λ z. absurd (omega arith))

        read : onward from (function_records p (suc k) []) ≡ gave (functions_from from.words from.at (suc k)) (Ok next)
        read = gave-there (Ok next) _ _ _ _ reads_all (so_many ∙ onward_last _ f (Ok next) _ (function_came (Ok next) e))

    pub functions-faulted : (fault : Fault) (count : ℕ) → k < count → FunctionCame (Err fault)
        → Comes from (function_records p count []) (functions_from from.words from.at count) (Err fault)
    unfolding gave
    functions-faulted fault count l e =
        (functions-stop p (suc k) count l [] fault.0 (standing from.words from.at from.least) (so_many ∙ onward_last _ f (Err fault) _ (function_came (Err fault) e)), tt)

  module _ {to : Reader} {k : ℕ} (h : FunctionsRead p from to k) where
    -- what is known of the rule on groups, as the next function is asked
    pub functions-kept : (t : Texts) (types : List ℕ) (r : ℕ) → p ≡ pool_in t types → GroupsKept t from.words from.at r
        → to.at < r → GroupFine p (entries_from from.words 1 from.at k) (function_at to.words to.at)
    functions-kept t types r ep g l = rw (entries-library from.words k from.at, h.same, h.place, ep) (g.each types k (omega (arith, h.place)))

    functions-done : (count : ℕ) → k ≡ count → Comes from (function_records p count []) (functions_from from.words from.at count) (Ok to)
    functions-done count e = rw (← e) (h.so_far, h.same)

  -- all that are left, where each turn reads the one after those before it
  module _ {one : Reader → ℕ → rust.Result Reader Fault → Type 0}
      (turn : (mid : Reader) (k : ℕ) (to : rust.Result Reader Fault) → FunctionsRead p from mid k → one mid k to
      → Comes mid (function_record p (entries_from from.words 1 from.at k)) (function_at mid.words mid.at) to) where
    pub functions-all : {k n : ℕ} {mid : Reader} {to : rust.Result Reader Fault} (count : ℕ) → k + n ≡ count → FunctionsRead p from mid k → Repeated one k n mid to
        → Comes from (function_records p count []) (functions_from from.words from.at count) to
    functions-all count e h none_left = functions-done h count (omega arith)
    functions-all {k = k} {mid = mid} count e h (turn_more {mid = next} t rest) =
        functions-all count (omega arith) (functions-turn h (function_at mid.words mid.at) next (turn mid k (Ok next) h t)) rest
    functions-all {k = k} {mid = mid} count e h (one_stops {fault = fault} t) =
        functions-faulted h (function_at mid.words mid.at) fault count (omega arith) (turn mid k (Err fault) h t)

-- ── Packages ──

module _ (p : Pool) (from c : Reader) (named : Comes from (word (good_name in_library p.texts.library)) (next_word from) (Ok c))
    (count n : ℕ) (ec : count ≡ next_word c) (en : n ≡ count) where
  abbrev PackageIs : rust.Result Reader Fault → Type 0
  PackageIs to = Comes from (package_record p) (package_at from.words from.at) to

  abbrev FunctionCountIs : rust.Result Reader Fault → Type 0
  FunctionCountIs to = Comes c (owing (λ _. true) (λ _. 4 * n)) (next_word c) to

  function_count-read : (to : rust.Result Reader Fault) → FunctionCountIs to → onward c (owing (λ _. true) (λ k. 4 * k)) ≡ gave count to
  function_count-read to k = owed (λ _. true) (λ k. 4 * k) c to count (4 * n) true ec refl (ap (λ k. 4 * k) en) k.0

  pub function_count_stops : (fault : Fault) → FunctionCountIs (Err fault) → PackageIs (Err fault)
  unfolding package_record gave
  function_count_stops fault k = (rw (named.0, function_count-read (Err fault) k) refl, tt)

  module _ (d : Reader) (f : FunctionCountIs (Ok d)) where
    pub functions-words : d.words ≡ from.words
    functions-words = f.1 ∙ named.1

    pub package_by : (to : rust.Result Reader Fault) → Comes d (function_records p count []) (functions_from d.words d.at count) to → PackageIs to
    unfolding package_record gave
    package_by to g = (
      gave-there to _ (pkg (next_word from) (functions_from d.words d.at count)) (package_end from.words from.at) _ (package_reads p from.words from.at from.least)
          (rw (named.0, function_count-read (Ok d) f) (onward_last (pkg (next_word from)) (functions_from d.words d.at count) to _ g.0)),
      same-then from d to functions-words g.1,
    )

pub name_stops : (p : Pool) (from : Reader) (fault : Fault) → Comes from (word (good_name in_library p.texts.library)) (next_word from) (Err fault)
    → Comes from (package_record p) (package_at from.words from.at) (Err fault)
unfolding package_record gave
name_stops p from fault k = (rw k.0 refl, tt)

-- all of them
module _ (p : Pool) (from : Reader) {one : Reader → ℕ → rust.Result Reader Fault → Type 0}
    (turn : (at : Reader) (i : ℕ) (to : rust.Result Reader Fault) → at.words ≡ from.words → one at i to → Comes at (package_record p) (package_at at.words at.at) to) where
  pub packages-all : {i n : ℕ} {to : rust.Result Reader Fault} → Repeated one i n from to → Comes from (many n (package_record p)) (packages_from from.words from.at n) to
  unfolding many packages_from answers gave
  packages-all none_left = (onward-return from [], refl)
  packages-all {n = n} {to = to} (turn_more h rest) =
      let all = all_turns (package_record p) from.words _ turn refl (turn_more h rest) in
      (gave-there to _ _ _ _ (packages-reads p from.words n from.at from.least (λ z. absurd (omega arith))) all.0, all.1)
  packages-all (one_stops h) =
      let all = all_turns (package_record p) from.words _ turn refl (one_stops h) in (all.0, tt)
