-- What scratch and the functions buffer hold goes by their words: names in scope and entries by the words below their end, packages held by
-- the words from the first on. And one more of each. Assumes nothing.
use Prim.Native.Nat.{ℕ, zero, suc, ◌+◌, ◌*◌, ◌-◌, ◌≤◌, ◌<◌, ◌^◌, max}
use Rattle.std.specs.Prelude.{◌≡◌, Bool, set, take, drop}
use Rattle.std.proofs.Math.Path.{refl, ap}
use Rattle.std.proofs.Common.{sym, ◌∙◌, add-zero, length-append, get_or-take, get_or-drop, get_or-set_same, get_or-set_other}
use Rattle.std.proofs.Math.Bool.{true, false, cond}
use Rattle.std.proofs.Math.Option.{none, some}
use mathlib.Core.List.{List, [], ◌∷◌, ◌++◌}
use native.Mathlib.Omega.{arith}
use Rattle.std.proofs.Math.ListN.{length, get_or}
use Rattle.std.proofs.Math.Seq.{get_or-append-add}
use Rattle.std.proofs.Math.Dec.{ltb}
use borrow.Author.Tests.{eq-eqb, ne_eqb, lt-ltb}
use Rattle.tok.specs.Word.{kind_of}
use Rattle.ptype.specs.Add.{write}
use Rattle.library.specs.Package.{Param, signature, Function, function, params_from}
use Rattle.library.specs.PackagesRead.{package_at}
use Rattle.laws.specs.Writes.{front-write, past-write}
use Rattle.tworuns.specs.Written.{get_d_written}
use Rattle.rules.specs.Steps.{pairs_of, entry_of}
use Rattle.state.specs.Signatures.{signature_at, entry_at, entry_end, entries_from, entries_end, entries_back, own_in}
use Rattle.state.specs.Store.{local_at, env_up, extern_at, held_at, held_size, held_from, held_end}
use Rattle.visit.specs.Reach.{package_reach, held_reach}

-- ── Words of lists that are alike in a part ──

pub get_d_front : (n : ℕ) (l l' : List ℕ) → take n l' ≡ take n l → (j : ℕ) → j < n → get_or l' j 0 ≡ get_or l j 0
get_d_front n l l' e j h = sym (get_or-take n l' j 0 h) ∙ ap (λ x. get_or x j 0) e ∙ get_or-take n l j 0 h

-- alike from a place on
pub record AlikeFrom (n : ℕ) (l l' : List ℕ) : Type 0 where
  pub from : (j : ℕ) → n ≤ j → get_or l' j 0 ≡ get_or l j 0

pub past-alike : {n : ℕ} (l l' : List ℕ) → drop n l' ≡ drop n l → AlikeFrom n l l'
past-alike {n} l l' e = record {
  from = λ j h.
      let z : n + (j - n) ≡ j = omega arith in
      ap (λ i. get_or l' i 0) (sym z) ∙ sym (get_or-drop n l' (j - n) 0) ∙ ap (λ x. get_or x (j - n) 0) e ∙ get_or-drop n l (j - n) 0 ∙ ap (λ i. get_or l i 0) z;
}

pub alike_then : {n : ℕ} {l l' l'' : List ℕ} → AlikeFrom n l l' → AlikeFrom n l' l'' → AlikeFrom n l l''
alike_then p q = record { from = λ j h. q.from j h ∙ p.from j h }

pub alike-more : {n m : ℕ} {l l' : List ℕ} → n ≤ m → AlikeFrom n l l' → AlikeFrom m l l'
alike-more k p = record { from = λ j h. p.from j (omega arith) }

pub write-alike : (l : List ℕ) (at n : ℕ) (new : List ℕ) → at + length new ≤ n → AlikeFrom n l (write l at new)
write-alike l at n new h = past-alike l (write l at new) (past-write l n at new h)

pub set-alike : (l : List ℕ) (i n w : ℕ) → i < n → AlikeFrom n l (set l i w)
set-alike l i n w h = record { from = λ j k. get_or-set_other l i j w 0 (λ e. omega arith) }

-- ── Names in scope ──

local_same : (l l' : List ℕ) (at : ℕ) → get_or l' at 0 ≡ get_or l at 0 → get_or l' (at + 1) 0 ≡ get_or l (at + 1) 0 → local_at l' at ≡ local_at l at
unfolding local_at
local_same l l' at e f = rw (e, f)

-- they go by the words below
pub env-front : (n : ℕ) (l l' : List ℕ) → take n l' ≡ take n l → (base depth : ℕ) → 2 * (base + depth) ≤ n → env_up l' base depth ≡ env_up l base depth
unfolding env_up
env-front n l l' e base zero h = refl
env-front n l l' e base (suc k) h =
    rw (local_same l l' (2 * (base + k)) (get_d_front n l l' e (2 * (base + k)) (omega arith)) (get_d_front n l l' e (2 * (base + k) + 1) (omega arith)), env-front n l l' e base k (omega arith))

module _ (l : List ℕ) (base depth x t : ℕ) (room : 2 * (base + depth) + 2 ≤ length l) where
  first_word : get_or (write l (2 * (base + depth)) (x ∷ t ∷ [])) (2 * (base + depth)) 0 ≡ x
  first_word =
      ap (λ i. get_or (write l (2 * (base + depth)) (x ∷ t ∷ [])) i 0) (sym (add-zero (2 * (base + depth))))
      ∙ get_d_written l (2 * (base + depth)) (x ∷ t ∷ []) room 0 (omega arith)

  second_word : get_or (write l (2 * (base + depth)) (x ∷ t ∷ [])) (2 * (base + depth) + 1) 0 ≡ t
  second_word = get_d_written l (2 * (base + depth)) (x ∷ t ∷ []) room 1 (omega arith)

  -- two words after the last name are one more
  env-more : env_up (write l (2 * (base + depth)) (x ∷ t ∷ [])) base (depth + 1) ≡ local_at (write l (2 * (base + depth)) (x ∷ t ∷ [])) (2 * (base + depth)) ∷ env_up l base depth
  unfolding env_up
  env-more =
      let s : depth + 1 ≡ suc depth = omega arith in
      let w : List ℕ = write l (2 * (base + depth)) (x ∷ t ∷ []) in
      ap (env_up w base) s
      ∙ ap (λ r. local_at w (2 * (base + depth)) ∷ r)
      (env-front (2 * (base + depth)) l w (front-write l (2 * (base + depth)) (2 * (base + depth)) (x ∷ t ∷ []) (omega arith)) base depth (omega arith))

-- a name and its type,
pub env-bound : (l : List ℕ) (base depth name t : ℕ) → kind_of name ≡ 12 → 2 * (base + depth) + 2 ≤ length l
    → env_up (write l (2 * (base + depth)) (name ∷ t ∷ [])) base (depth + 1) ≡ record { name = name; type = some t } ∷ env_up l base depth
unfolding local_at
env-bound l base depth name t k room = env-more l base depth name t room ∙ ap (λ r. r ∷ env_up l base depth) is
  where
    is : local_at (write l (2 * (base + depth)) (name ∷ t ∷ [])) (2 * (base + depth)) ≡ record { name = name; type = some t }
    is = rw (first_word l base depth name t room, second_word l base depth name t room, ne_eqb (kind_of name) 13 (λ e. omega arith))

-- and a poisoned name: kind 13 in place of 12
pub env-unbound : (l : List ℕ) (base depth name t : ℕ) → kind_of name ≡ 12 → 2 * (base + depth) + 2 ≤ length l
    → env_up (write l (2 * (base + depth)) ((name + 2 ^ 28) ∷ t ∷ [])) base (depth + 1) ≡ record { name = name; type = none } ∷ env_up l base depth
unfolding local_at
env-unbound l base depth name t k room = env-more l base depth (name + 2 ^ 28) t room ∙ ap (λ r. r ∷ env_up l base depth) is
  where
    is : local_at (write l (2 * (base + depth)) ((name + 2 ^ 28) ∷ t ∷ [])) (2 * (base + depth)) ≡ record { name = name; type = none }
    is =
        let e : name + 2 ^ 28 - 2 ^ 28 ≡ name = omega arith in
        rw (first_word l base depth (name + 2 ^ 28) t room, eq-eqb (kind_of (name + 2 ^ 28)) 13 (omega arith)) (ap (λ x. record { name = x; type = none }) e)

-- ── Entries ──

pub params_same : (l l' : List ℕ) (at k : ℕ) → ((j : ℕ) → at ≤ j → j < at + 2 * k → get_or l' j 0 ≡ get_or l j 0) → params_from l' at k ≡ params_from l at k
unfolding params_from
params_same l l' at zero e = refl
params_same l l' at (suc k) e =
    rw (e at (omega arith) (omega arith), e (at + 1) (omega arith) (omega arith), params_same l l' (at + 2) k (λ j h m. e j (omega arith) (omega arith)))

-- an entry without a flag goes by its own words
module _ (l l' : List ℕ) (at : ℕ) (e : (j : ℕ) → at ≤ j → j < at + 3 + 2 * get_or l (at + 1) 0 → get_or l' j 0 ≡ get_or l j 0) where
  count_same : get_or l' (at + 1) 0 ≡ get_or l (at + 1) 0
  count_same = e (at + 1) (omega arith) (omega arith)

  pub entry-same : entry_at l' 0 at ≡ entry_at l 0 at
  unfolding entry_at signature_at
  entry-same =
      let z : at + 1 + 0 ≡ at + 1 = omega arith in
      rw (
        z,
        count_same,
        e at (omega arith) (omega arith),
        params_same l l' (at + 1 + 1) (get_or l (at + 1) 0) (λ j h m. e j (omega arith) (omega arith)),
        e (at + 1 + 1 + 2 * get_or l (at + 1) 0) (omega arith) (omega arith),
      )

  pub end_same : entry_end l' 0 at ≡ entry_end l 0 at
  end_same =
      let z : at + 1 + 0 ≡ at + 1 = omega arith in
      rw (z, count_same)

pub entry-end : (l : List ℕ) (at : ℕ) → entry_end l 0 at ≡ at + 3 + 2 * get_or l (at + 1) 0
entry-end l at =
    let z : at + 1 + 0 ≡ at + 1 = omega arith in
    rw z (omega arith)

pub end_after : (l : List ℕ) (flags k at : ℕ) → at ≤ entries_end l flags at k
unfolding entries_end
end_after l flags zero at = omega arith
end_after l flags (suc k) at = omega (arith, end_after l flags k (entry_end l flags at))

-- entries go by the words below their end
module _ (l l' : List ℕ) {n : ℕ} (e : (j : ℕ) → j < n → get_or l' j 0 ≡ get_or l j 0) where
  one_entry : (at k : ℕ) → entries_end l 0 (entry_end l 0 at) k ≤ n → (j : ℕ) → at ≤ j → j < at + 3 + 2 * get_or l (at + 1) 0 → get_or l' j 0 ≡ get_or l j 0
  one_entry at k h j a b = e j (omega (arith, end_after l 0 k (entry_end l 0 at), entry-end l at))

  pub ends-front : (at k : ℕ) → entries_end l 0 at k ≤ n → entries_end l' 0 at k ≡ entries_end l 0 at k
  unfolding entries_end
  ends-front at zero h = refl
  ends-front at (suc k) h = rw (end_same l l' at (one_entry at k h)) (ends-front (entry_end l 0 at) k h)

  pub entries-front : (at k : ℕ) → entries_end l 0 at k ≤ n → entries_from l' 0 at k ≡ entries_from l 0 at k
  unfolding entries_end entries_from
  entries-front at zero h = refl
  entries-front at (suc k) h = rw (end_same l l' at (one_entry at k h), entry-same l l' at (one_entry at k h)) (ap (λ fs. entry_at l 0 at ∷ fs) (entries-front (entry_end l 0 at) k h))

  pub back-front : (at k : ℕ) (fs : List Function) → entries_end l 0 at k ≤ n → entries_back l' 0 at k fs ≡ entries_back l 0 at k fs
  unfolding entries_end entries_back
  back-front at zero fs h = refl
  back-front at (suc k) fs h = rw (end_same l l' at (one_entry at k h), entry-same l l' at (one_entry at k h)) (back-front (entry_end l 0 at) k (entry_at l 0 at ∷ fs) h)

  pub own-front : (k : ℕ) → entries_end l 0 0 k ≤ n → own_in l' k ≡ own_in l k
  unfolding own_in
  own-front k h = back-front 0 k [] h

-- the last of k + 1 entries
pub ends_last : (l : List ℕ) (at k : ℕ) → entries_end l 0 at (suc k) ≡ entry_end l 0 (entries_end l 0 at k)
unfolding entries_end
ends_last l at zero = refl
ends_last l at (suc k) = ends_last l (entry_end l 0 at) k

pub back_last : (l : List ℕ) (at k : ℕ) (fs : List Function) → entries_back l 0 at (suc k) fs ≡ entry_at l 0 (entries_end l 0 at k) ∷ entries_back l 0 at k fs
unfolding entries_end entries_back
back_last l at zero fs = refl
back_last l at (suc k) fs = back_last l (entry_end l 0 at) k (entry_at l 0 at ∷ fs)

-- an entry written at a place
pub length_pairs : (ps : List Param) → length (pairs_of ps) ≡ 2 * length ps
unfolding pairs_of
length_pairs [] = refl
length_pairs (p ∷ ps) = omega (arith, length_pairs ps)

pub length-entry : (name : ℕ) (ps : List Param) (ret : ℕ) → length (entry_of name ps ret) ≡ 3 + 2 * length ps
unfolding entry_of
length-entry name ps ret = omega (arith, length-append (pairs_of ps) (ret ∷ []), length_pairs ps)

pairs-at : (l : List ℕ) (at : ℕ) (ps : List Param) (more : List ℕ) → ((i : ℕ) → i < 2 * length ps → get_or l (at + i) 0 ≡ get_or (pairs_of ps ++ more) i 0)
    → params_from l at (length ps) ≡ ps
unfolding pairs_of params_from
pairs-at l at [] more e = refl
pairs-at l at (p ∷ ps) more e =
    let a : get_or l at 0 ≡ p.name = ap (λ i. get_or l i 0) (sym (add-zero at)) ∙ e 0 (omega arith) in
    let b : get_or l (at + 1) 0 ≡ p.type = e 1 (omega arith) in
    rw (a, b, pairs-at l (at + 2) ps more (λ i h. let z : at + 2 + i ≡ at + suc (suc i) = omega arith in rw z (e (suc (suc i)) (omega arith)))) refl

module _ (l : List ℕ) (at name : ℕ) (ps : List Param) (ret : ℕ) (room : at + (3 + 2 * length ps) ≤ length l) where
  abbrev written : List ℕ
  written = write l at (entry_of name ps ret)

  word : (i : ℕ) → i < 3 + 2 * length ps → get_or written (at + i) 0 ≡ get_or (entry_of name ps ret) i 0
  word i h =
      let n = length-entry name ps ret in
      get_d_written l at (entry_of name ps ret) (omega arith) i (omega arith)

  count_word : get_or written (at + 1) 0 ≡ length ps
  unfolding entry_of
  count_word = word 1 (omega arith)

  pub entry-written : entry_at written 0 at ≡ function name (signature ps ret false)
  unfolding entry_at signature_at entry_of
  entry-written =
      let z : at + 1 + 0 ≡ at + 1 = omega arith in
      let a : get_or written at 0 ≡ name = ap (λ i. get_or written i 0) (sym (add-zero at)) ∙ word 0 (omega arith) in
      let r : get_or written (at + 1 + 1 + 2 * length ps) 0 ≡ ret =
      let y : at + 1 + 1 + 2 * length ps ≡ at + suc (suc (length (pairs_of ps) + 0)) = omega (arith, length_pairs ps) in
      rw y (word (suc (suc (length (pairs_of ps) + 0))) (omega (arith, length_pairs ps)) ∙ get_or-append-add (pairs_of ps) (ret ∷ []) 0 0) in
      let p : params_from written (at + 1 + 1) (length ps) ≡ ps =
      pairs-at written (at + 1 + 1) ps (ret ∷ []) (λ i h. let y : at + 1 + 1 + i ≡ at + suc (suc i) = omega arith in rw y (word (suc (suc i)) (omega arith))) in
      rw (z, count_word, a, r, p) refl

  pub end-written : entry_end written 0 at ≡ at + length (entry_of name ps ret)
  end-written = omega (arith, entry-end written at, count_word, length-entry name ps ret)

-- own functions, one more of them
module _ (l : List ℕ) (k name : ℕ) (ps : List Param) (ret : ℕ) (room : entries_end l 0 0 k + (3 + 2 * length ps) ≤ length l) where
  abbrev entered : List ℕ
  entered = write l (entries_end l 0 0 k) (entry_of name ps ret)

  before : (j : ℕ) → j < entries_end l 0 0 k → get_or entered j 0 ≡ get_or l j 0
  before = get_d_front (entries_end l 0 0 k) l entered (front-write l (entries_end l 0 0 k) (entries_end l 0 0 k) (entry_of name ps ret) (omega arith))

  same_end : entries_end entered 0 0 k ≡ entries_end l 0 0 k
  same_end = ends-front l entered before 0 k (omega arith)

  pub own-more : own_in entered (k + 1) ≡ function name (signature ps ret false) ∷ own_in l k
  unfolding own_in
  own-more =
      let s : k + 1 ≡ suc k = omega arith in
      ap (λ n. entries_back entered 0 0 n []) s ∙ back_last entered 0 k []
      ∙ ap (λ a. entry_at entered 0 a ∷ entries_back entered 0 0 k []) same_end
      ∙ ap (λ f. f ∷ entries_back entered 0 0 k []) (entry-written l (entries_end l 0 0 k) name ps ret room)
      ∙ ap (λ fs. function name (signature ps ret false) ∷ fs) (back-front l entered before 0 k [] (omega arith))

  pub ends_more : entries_end entered 0 0 (k + 1) ≡ entries_end l 0 0 k + length (entry_of name ps ret)
  ends_more =
      let s : k + 1 ≡ suc k = omega arith in
      ap (entries_end entered 0 0) s ∙ ends_last entered 0 k ∙ ap (entry_end entered 0) same_end ∙ end-written l (entries_end l 0 0 k) name ps ret room

-- ── Packages held ──

module _ {n : ℕ} (l l' : List ℕ) (e : AlikeFrom n l l') where
  entries-past : (at k : ℕ) → n ≤ at → entries_from l' 0 at k ≡ entries_from l 0 at k
  unfolding entries_from
  entries-past at zero h = refl
  entries-past at (suc k) h =
      rw (entry-same l l' at (λ j a b. e.from j (omega arith)), end_same l l' at (λ j a b. e.from j (omega arith)))
      (ap (λ fs. entry_at l 0 at ∷ fs) (entries-past (entry_end l 0 at) k (omega arith)))

  ends-past : (at k : ℕ) → n ≤ at → entries_end l' 0 at k ≡ entries_end l 0 at k
  unfolding entries_end
  ends-past at zero h = refl
  ends-past at (suc k) h = rw (end_same l l' at (λ j a b. e.from j (omega arith))) (ends-past (entry_end l 0 at) k (omega arith))

  held_same : (library : List ℕ) (at : ℕ) → n ≤ at → held_at library l' at ≡ held_at library l at
  unfolding held_at extern_at
  held_same library at h =
      rw (e.from at h, e.from (at + 1) (omega arith), e.from (at + 1 + 1) (omega arith), entries-past (at + 1 + 2) (get_or l (at + 1 + 1) 0) (omega arith))

  -- they go by the words from the first on
  pub held-past : (library : List ℕ) (at k : ℕ) → n ≤ at → held_from library l' at k ≡ held_from library l at k
  unfolding held_from
  held-past library at zero h = refl
  held-past library at (suc k) h =
      rw (held_same library at h, e.from at h) (ap (λ ps. held_at library l at ∷ ps) (held-past library (at + held_size (get_or l at 0)) k (omega arith)))

  pub reach-past : (at k : ℕ) → n ≤ at → held_reach l' at k ≡ held_reach l at k
  unfolding held_reach
  reach-past at zero h = refl
  reach-past at (suc k) h =
      rw (e.from at h, e.from (at + 2) (omega arith), ends-past (at + 3) (get_or l (at + 2) 0) (omega arith))
      (ap (max (package_reach l at)) (reach-past (at + held_size (get_or l at 0)) k (omega arith)))

pub reach-after : (l : List ℕ) (k at : ℕ) → at ≤ held_reach l at k
unfolding held_reach
reach-after l zero at = omega arith
reach-after l (suc k) at = omega (arith, reach-after l k (at + held_size (get_or l at 0)))

-- as far as where the next one would stand, or farther
pub reach-end : (l : List ℕ) (k at : ℕ) → held_end l at k ≤ held_reach l at k
unfolding held_reach held_end
reach-end l zero at = omega arith
reach-end l (suc k) at = omega (arith, reach-end l k (at + held_size (get_or l at 0)))

-- They go by the words below their reach: those from there on may change.
module _ (l l' : List ℕ) {n : ℕ} (e : (j : ℕ) → j < n → get_or l' j 0 ≡ get_or l j 0) where
  -- what one of them reads
  pub record Reads (library : List ℕ) (at : ℕ) : Type 0 where
    pub word : get_or l' at 0 ≡ get_or l at 0
    pub held : held_at library l' at ≡ held_at library l at
    pub reach : package_reach l' at ≡ package_reach l at

  reads_same : (library : List ℕ) (at : ℕ) → package_reach l at ≤ n → Reads library at
  unfolding held_at extern_at
  reads_same library at h = by (ltb (get_or l at 0) 8192) refl h
    where
      by : (b : Bool) → ltb (get_or l at 0) 8192 ≡ b → cond b (at + 1) (entries_end l 0 (at + 3) (get_or l (at + 2) 0)) ≤ n → Reads library at
      by true q h =
          let w = e at (omega arith) in
          record { word = w; held = rw (w, q) refl; reach = rw (w, q) refl }
      by false q h =
          let m = end_after l 0 (get_or l (at + 2) 0) (at + 3) in
          let w = e at (omega arith) in
          let a : at + 1 + 1 ≡ at + 2 = omega arith in
          let b : at + 1 + 2 ≡ at + 3 = omega arith in
          let c = e (at + 2) (omega arith) in
          record {
            word = w;
            held = rw (w, q, a, b, e (at + 1) (omega arith), c, entries-front l l' e (at + 3) (get_or l (at + 2) 0) h) refl;
            reach = rw (w, q, c) (ends-front l l' e (at + 3) (get_or l (at + 2) 0) h);
          }

  pub held_below : (library : List ℕ) (at k : ℕ) → held_reach l at k ≤ n → held_from library l' at k ≡ held_from library l at k
  unfolding held_from held_reach
  held_below library at zero h = refl
  held_below library at (suc k) h =
      let r = reads_same library at (omega arith) in
      rw (r.held, r.word) (ap (λ ps. held_at library l at ∷ ps) (held_below library (at + held_size (get_or l at 0)) k (omega arith)))

  pub reach-below : (at k : ℕ) → held_reach l at k ≤ n → held_reach l' at k ≡ held_reach l at k
  unfolding held_reach
  reach-below at zero h = refl
  reach-below at (suc k) h =
      let r = reads_same [] at (omega arith) in
      rw (r.reach, r.word) (ap (max (package_reach l at)) (reach-below (at + held_size (get_or l at 0)) k (omega arith)))

-- one more, of the library: a word before the first
module _ (library l : List ℕ) (at k w : ℕ) (low : w < 8192) (room : at < length l) where
  first-held : get_or (set l at w) at 0 ≡ w
  first-held = get_or-set_same l at w 0 room

  pub held_more : held_from library (set l at w) at (k + 1) ≡ package_at library w ∷ held_from library l (at + 1) k
  unfolding held_from held_at
  held_more =
      let s : k + 1 ≡ suc k = omega arith in
      rw (s, first-held, lt-ltb w 8192 low)
      (ap (λ ps. package_at library w ∷ ps) (held-past l (set l at w) (set-alike l at (at + 1) w (omega arith)) library (at + 1) k (omega arith)))

  pub reach-more : held_reach (set l at w) at (k + 1) ≡ held_reach l (at + 1) k
  unfolding held_reach
  reach-more =
      let s : k + 1 ≡ suc k = omega arith in
      let m = reach-after l k (at + 1) in
      let r : max (at + 1) (held_reach l (at + 1) k) ≡ held_reach l (at + 1) k = omega arith in
      rw (s, first-held, lt-ltb w 8192 low) (ap (max (at + 1)) (reach-past l (set l at w) (set-alike l at (at + 1) w (omega arith)) (at + 1) k (omega arith)) ∙ r)
