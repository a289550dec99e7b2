-- The entries of the functions buffer, read back: those of the own functions, in order, each at its place. By induction on the
-- functions. Assumes nothing.
use Prim.Native.Nat.{ℕ, zero, suc, ◌+◌, ◌*◌, ◌≤◌, ◌<◌}
use Rattle.std.proofs.Common.{add-zero, sym, ◌∙◌, get_or-append-add, lt-ltb, le-ltb}
use native.Mathlib.Omega.{arith}
use Rattle.std.specs.Prelude.{◌≡◌, take}
use Rattle.std.proofs.Math.Path.{refl, ap}
use mathlib.Core.List.{List, [], ◌∷◌, ◌++◌, append_assoc, append-nil}
use Rattle.std.proofs.Math.ListN.{get_or, length, length-append, get_or-append}
use Rattle.tok.specs.Text.{Texts, name_bytes}
use Rattle.ptype.specs.Words.{ty_of}
use Rattle.ptype.specs.Add.{Buffer, write}
use Rattle.library.specs.Package.{Param, Function}
use Rattle.rules.specs.Steps.{pairs_of, entry_of}
use Rattle.rules.specs.Promises.{Parameter, Entry, parameters_at, entry_at, entries_up_to}
use Rattle.tworuns.specs.Runs.{Runs, Each, end, and, SameParam, SameFunction, same-tree, each-length}
use Rattle.tworuns.specs.Entries.{words_of}
use Rattle.tworuns.specs.Written.{get_d_written}

-- a list stands in a buffer from a place on
pub record Stands (words : List ℕ) (at : ℕ) (l : List ℕ) : Type 0 where
  pub each : (i : ℕ) → i < length l → get_or words (at + i) 0 ≡ get_or l i 0

module _ {words : List ℕ} {at : ℕ} where
  pub stands-head : {x : ℕ} {l : List ℕ} → Stands words at (x ∷ l) → get_or words at 0 ≡ x
  stands-head h = ap (λ (p : ℕ). get_or words p 0) (sym (add-zero at)) ∙ h.each 0 (omega arith)

  pub stands-second : {x y : ℕ} {l : List ℕ} → Stands words at (x ∷ y ∷ l) → get_or words (at + 1) 0 ≡ y
  stands-second h = h.each 1 (omega arith)

  pub stands-rest : {x y : ℕ} {l : List ℕ} → Stands words at (x ∷ y ∷ l) → Stands words (at + 2) l
  stands-rest h = record { each = λ i k. ap (λ (p : ℕ). get_or words p 0) (omega arith) ∙ h.each (suc (suc i)) (omega arith) }

  pub stands-front : (a b : List ℕ) → Stands words at (a ++ b) → Stands words at a
  stands-front a b h = record { each = λ i k. h.each i (omega (arith, length-append a b)) ∙ get_or-append a b 0 i k }

  pub stands-back : (a b : List ℕ) → Stands words at (a ++ b) → Stands words (at + length a) b
  stands-back a b h = record { each = λ i k. ap (λ (p : ℕ). get_or words p 0) (omega arith) ∙ (h.each (length a + i) (omega (arith, length-append a b)) ∙ get_or-append-add a b i 0) }

-- functions in the order in which they were met, and their words
unfoldable pub forward : List Function → List Function
forward [] = []
forward (f ∷ fs) = forward fs ++ (f ∷ [])

abbrev pub entry : Function → List ℕ
entry f = entry_of f.name f.sig.params f.sig.ret

flat : List Function → List ℕ
flat [] = []
flat (f ∷ fs) = entry f ++ flat fs

flat_snoc : (fs : List Function) (f : Function) → flat (fs ++ (f ∷ [])) ≡ flat fs ++ entry f
unfolding flat
flat_snoc [] f = append-nil (entry f)
flat_snoc (g ∷ fs) f = rw (flat_snoc fs f) (sym (append_assoc (entry g) (flat fs) (entry f)))

flat-forward : (fs : List Function) → flat (forward fs) ≡ words_of fs
unfolding flat forward words_of
flat-forward [] = refl
flat-forward (f ∷ fs) = rw (flat_snoc (forward fs) f, flat-forward fs)

pub forward-append : (xs ys : List Function) → forward (xs ++ ys) ≡ forward ys ++ forward xs
unfolding forward
forward-append [] ys = sym (append-nil (forward ys))
forward-append (x ∷ xs) ys = rw (forward-append xs ys) (append_assoc (forward ys) (forward xs) (x ∷ []))

pub length_pairs : (ps : List Param) → length (pairs_of ps) ≡ 2 * length ps
unfolding pairs_of
length_pairs [] = refl
length_pairs (p ∷ ps) = let e = length_pairs ps in omega arith

pub length-entry : (f : Function) → length (entry f) ≡ 3 + 2 * length f.sig.params
unfolding entry_of
length-entry f = let e = length_pairs f.sig.params in omega (arith, length-append (f.name ∷ length f.sig.params ∷ pairs_of f.sig.params) (f.sig.ret ∷ []))

pub count-read : {words : List ℕ} (f : Function) (at : ℕ) → Stands words at (entry f) → get_or words (at + 1) 0 ≡ length f.sig.params
unfolding entry_of
count-read f at h = stands-second (stands-front (f.name ∷ length f.sig.params ∷ pairs_of f.sig.params) (f.sig.ret ∷ []) h)

module _ (t : Texts) (types : List ℕ) where
  unfoldable pub parameters_of : List Param → List Parameter
  parameters_of [] = []
  parameters_of (p ∷ ps) = record { name = name_bytes t p.name; type = ty_of t types p.type } ∷ parameters_of ps

  unfoldable pub entry_for : (place : ℕ) → Function → Entry
  entry_for at f = record { place = at; name = name_bytes t f.name; parameters = parameters_of f.sig.params; ret = ty_of t types f.sig.ret }

  -- the entries of functions from a place on
  unfoldable pub entries_at : (place : ℕ) → List Function → List Entry
  entries_at at [] = []
  entries_at at (f ∷ fs) = entry_for at f ∷ entries_at (at + 3 + 2 * length f.sig.params) fs

  module _ (words : List ℕ) where
    params-read : (ps : List Param) (at : ℕ) → Stands words at (pairs_of ps) → parameters_at t types words at (length ps) ≡ parameters_of ps
    unfolding parameters_at parameters_of pairs_of
    params-read [] at h = refl
    params-read (p ∷ ps) at h = rw (stands-head h, stands-second h, params-read ps (at + 2) (stands-rest h))

    entry_read : (f : Function) (at : ℕ) → Stands words at (entry f) → entry_at t types words at (length f.sig.params) ≡ entry_for at f
    unfolding entry_at entry_for entry_of
    entry_read f at h =
        let ps = f.sig.params in
        let front = stands-front (f.name ∷ length ps ∷ pairs_of ps) (f.sig.ret ∷ []) h in
        let back = stands-back (f.name ∷ length ps ∷ pairs_of ps) (f.sig.ret ∷ []) h in
        let place : at + 2 + 2 * length ps ≡ at + length (f.name ∷ length ps ∷ pairs_of ps) = omega (arith, length_pairs ps) in
        rw (stands-head front, params-read ps (at + 2) (stands-rest front), place, stands-head back)

    none_left_lem : (used m at : ℕ) → used ≤ at → entries_up_to t types words used (suc m) at ≡ []
    unfolding entries_up_to
    none_left_lem used m at l = rw (le-ltb at used l, entries_up_to)

    one_more : (used m at : ℕ) → at < used
        → entries_up_to t types words used (suc m) at ≡ entry_at t types words at (get_or words (at + 1) 0) ∷ entries_up_to t types words used m (at + 3 + 2 * get_or words (at + 1) 0)
    unfolding entries_up_to
    one_more used m at l = rw (lt-ltb at used l, entries_up_to)

    -- reading forward finds them
    entries-read : (fs : List Function) (used m at : ℕ) → Stands words at (flat fs) → used ≡ at + length (flat fs) → length (flat fs) ≤ m → entries_up_to t types words used m at ≡ entries_at at fs
    unfolding entries_up_to entries_at flat
    entries-read [] used zero at h e l = refl
    entries-read [] used (suc m) at h e l = none_left_lem used m at (omega arith)
    entries-read (f ∷ fs) used zero at h e l = absurd (omega (arith, length-append (entry f) (flat fs), length-entry f))
    entries-read (f ∷ fs) used (suc m) at h e l =
        let n = length-entry f in
        let k = length-append (entry f) (flat fs) in
        let this = stands-front (entry f) (flat fs) h in
        let next = stands-back (entry f) (flat fs) h in
        let place : at + length (entry f) ≡ at + 3 + 2 * length f.sig.params = omega arith in
        let next' : Stands words (at + 3 + 2 * length f.sig.params) (flat fs) = rw place at next in
        one_more used m at (omega arith)
        ∙ (ap (λ (c : ℕ). entry_at t types words at c ∷ entries_up_to t types words used m (at + 3 + 2 * c)) (count-read f at this)
        ∙ cc (entry_read f at this, entries-read fs used m (at + 3 + 2 * length f.sig.params) next' (omega arith) (omega arith)))

  -- the first of them
  pub entries-front : (fs gs : List Function) (at : ℕ) → take (length fs) (entries_at at (fs ++ gs)) ≡ entries_at at fs
  unfolding entries_at
  entries-front [] gs at = refl
  entries-front (f ∷ fs) gs at = ap (λ (l : List Entry). entry_for at f ∷ l) (entries-front fs gs (at + 3 + 2 * length f.sig.params))

  pub entries-length : (fs : List Function) (at : ℕ) → length (entries_at at fs) ≡ length fs
  unfolding entries_at
  entries-length [] at = refl
  entries-length (f ∷ fs) at = ap suc (entries-length fs (at + 3 + 2 * length f.sig.params))

  -- what the functions buffer holds after a walk
  pub entries-own : (before : List ℕ) (own : List Function) → length (words_of own) ≤ length before
      → entries_up_to t types (write before 0 (words_of own)) (length (words_of own)) (length (words_of own)) 0 ≡ entries_at 0 (forward own)
  entries-own before own fits =
      let e = flat-forward own in
      let n : length (flat (forward own)) ≡ length (words_of own) = ap (λ (l : List ℕ). length l) e in
      entries-read (write before 0 (words_of own)) (forward own) (length (words_of own)) (length (words_of own)) 0
      (record { each = λ i k. get_d_written before 0 (words_of own) (omega arith) i (omega arith) ∙ ap (λ (l : List ℕ). get_or l i 0) (sym e) }) (omega arith) (omega arith)

-- The same entries in two runs.
module _ (r : Runs) (b b' : Buffer) where
  params_same : {ps ps' : List Param} → Each (SameParam r b b') ps ps' → parameters_of r.first.texts b.words ps ≡ parameters_of r.second.texts b'.words ps'
  unfolding parameters_of
  params_same end = refl
  params_same (and h rest) = cc (h.name.bytes, same-tree r h.type, params_same rest)

  entry-same : (at : ℕ) {f f' : Function} → SameFunction r b b' f f' → entry_for r.first.texts b.words at f ≡ entry_for r.second.texts b'.words at f'
  unfolding entry_for
  entry-same at h = cc (h.name.bytes, params_same h.sig.params, same-tree r h.sig.ret)

  pub entries-same : {fs fs' : List Function} → Each (SameFunction r b b') fs fs' → (at : ℕ) → entries_at r.first.texts b.words at fs ≡ entries_at r.second.texts b'.words at fs'
  unfolding entries_at
  entries-same end at = refl
  entries-same (and {a = f} {b = f'} h rest) at =
      cc (entry-same at h, each-length h.sig.params, entries-same rest (at + 3 + 2 * length f.sig.params))

  each_join : {xs xs' ys ys' : List Function} → Each (SameFunction r b b') xs xs' → Each (SameFunction r b b') ys ys' → Each (SameFunction r b b') (xs ++ ys) (xs' ++ ys')
  each_join end k = k
  each_join (and h rest) k = and h (each_join rest k)

  pub forward-same : {fs fs' : List Function} → Each (SameFunction r b b') fs fs' → Each (SameFunction r b b') (forward fs) (forward fs')
  unfolding forward
  forward-same end = end
  forward-same (and h rest) = each_join (forward-same rest) (and h end)
