-- Reading the whole library as the code does: the counts, the pool, and where that is accepted the packages. Where one of them offends, the
-- library does. Assumes nothing.
use Prim.Native.Nat.{ℕ, ◌+◌, ◌*◌, ◌≤◌, ◌<◌, min}
use mathlib.Core.Path.{◌≡◌, refl, sym, ap, ap₂, subst, ◌∙◌}
use mathlib.Core.Bool.{Bool, true, false, cond}
use mathlib.Core.List.{List, []}
use mathlib.Core.Option.{some}
use native.Mathlib.Omega.{arith}
use native.Mathlib.Decide.{dec_lt}
use lib.ListN.{length, get_or, take, drop, length-take, length-drop}
use lib.Seq.{get_or-take, get_or-drop}
use lib.Dec.{ltb}
use Rattle.std.specs.Prelude.{Option, Some, None, Result, Ok, Err, IfSome, unwrap_or}
use Rattle.std.proofs.Common.{length-take-le}
use Rattle.tok.specs.Text.{Texts}
use Rattle.tok.specs.Step.{◌>>=◌, return}
use Rattle.tok.specs.Reader.{owing, many, ends, fault_of, most_bytes}
use Rattle.reader.specs.declared.Fault.{Fault}
use Rattle.reader.specs.Reading.{Reader, reading, beginning, next_word, onward, gave, offending, Comes}
use Rattle.reader.specs.Laws.{owed, onward_begun, onward_long, onward_last, fault-gave}
use Rattle.reader.specs.Reads.{Within, Reads, reads_word, onward-place, onward-shown, onward-within}
use Rattle.library.specs.Pool.{pool_at, pool_in, pool_from}
use Rattle.library.specs.PoolRead.{PoolFine, pool-reads}
use Rattle.library.specs.SlotSums.{sums_to, length-sums_to, sums_right}
use Rattle.library.specs.Package.{Package, pool_of}
use Rattle.library.specs.PackageRecords.{package_record}
use Rattle.library.specs.LibraryFault.{pool_read, library, library_read, library_fault}
use Rattle.library.specs.Accepted.{pool_in_lem}
use Rattle.library_slots.specs.Named.{SlotsNamed}
use Rattle.library_slots.specs.NamedLaws.{PoolAt, named-same}
use Rattle.library_read.specs.Ready.{PoolCame, Ready, Ordered}

begins-as : (n least : ℕ) (words : List ℕ) (from : Reader) → beginning n words least ≡ Ok from → (from.at ≡ 0) × (from.words ≡ words)
begins-as n least words from e = by (ltb most_bytes n) e
  where
    by : (b : Bool) → cond {A = Result Reader Fault} b (Err (record { 0 = 0 })) (Ok (reading words 0 least)) ≡ Ok from → (from.at ≡ 0) × (from.words ≡ words)
    by true e = cc
    by false e =
        let same : ◌≡◌ {A = Reader} (reading words 0 least) from = cc in
        (ap (λ (r : Reader). r.at) (sym same), ap (λ (r : Reader). r.words) (sym same))

pub sums_long : (types : List ℕ) (i : ℕ) {sums : List ℕ} → sums ≡ sums_to types i → 8193 ≡ length sums
sums_long types i e = sym (ap length e ∙ length-sums_to types i)

-- The slots by name, where there are any, and no slots where there are none.
pub slots_found : {t : Texts} {words order : List ℕ} (found : Option ℕ) {n : ℕ} → IfSome found (SlotsNamed t words order) → n ≡ unwrap_or found 0 → 0 < n → SlotsNamed t words order n
slots_found (Some k) h e l = rw e h
slots_found None h e l = absurd (omega arith)

-- Cut to as many as there are.
module _ {t : Texts} {words order : List ℕ} {n : ℕ} (named : 0 < n → SlotsNamed t words order n) where
  pub slots_few : n ≤ 8192
  slots_few = elim (dec_lt 0 n) [
    | yes l ↦ (named l).listed.few
    | no d ↦ omega arith
  ]

  pub slots_cut : n ≤ length order → 0 < length (take n order) → SlotsNamed t words (take n order) (length (take n order))
  slots_cut l z =
      let long = length-take-le n order l in
      rw long (named-same (λ i o. sym (get_or-take n order i 0 o)) (named (omega (arith, z, long))))

-- ── The counts and the pool ──

module _ (t : Texts) (words : List ℕ) where
  abbrev Stops : Fault → Type 0
  Stops fault = library_fault t words ≡ some fault.0

  pub text_stops : (fault : Fault) → beginning (length t.library) words 2 ≡ Err fault → Stops fault
  unfolding library_fault library_read gave fault_of
  text_stops fault e = ap fault_of (onward_long words (length t.library) 2 (library t words) fault [] e)

  module _ (c : Reader) (ec : beginning (length t.library) words 2 ≡ Ok c) (size n₁ : ℕ) (es : size ≡ next_word c) (en₁ : n₁ ≡ size) where
    begun : library_fault t words ≡ fault_of (onward c (library t words))
    unfolding library_fault library_read
    begun = ap fault_of (onward_begun words (length t.library) 2 (library t words) c ec)

    abbrev SizeIs : Result Reader Fault → Type 0
    SizeIs to = Comes c (owing (λ _. true) (λ _. n₁)) (next_word c) to

    size-read : (to : Result Reader Fault) → SizeIs to → onward c (owing (λ _. true) (λ p. p)) ≡ gave size to
    size-read to k = owed (λ _. true) (λ p. p) c to size n₁ true es refl en₁ k.0

    pub size_stops : (fault : Fault) → SizeIs (Err fault) → Stops fault
    unfolding library gave fault_of
    size_stops fault k = begun ∙ rw (size-read (Err fault) k) refl

    module _ (d : Reader) (k₁ : SizeIs (Ok d)) (count n₂ : ℕ) (eq : count ≡ next_word d) (en₂ : n₂ ≡ count) where
      abbrev CountIs : Result Reader Fault → Type 0
      CountIs to = Comes d (owing (λ _. true) (λ _. 2 * n₂)) (next_word d) to

      count-read : (to : Result Reader Fault) → CountIs to → onward d (owing (λ _. true) (λ k. 2 * k)) ≡ gave count to
      count-read to k = owed (λ _. true) (λ k. 2 * k) d to count (2 * n₂) true eq refl (ap (λ k. 2 * k) en₂) k.0

      pub package_count_stops : (fault : Fault) → CountIs (Err fault) → Stops fault
      unfolding library gave fault_of
      package_count_stops fault k = begun ∙ rw (size-read (Ok d) k₁, count-read (Err fault) k) refl

      module _ (e : Reader) (k₂ : CountIs (Ok e)) (pool : List ℕ) (ep : pool ≡ pool_of words) where
        abbrev PoolIs : Result Reader Fault → Type 0
        PoolIs to = Comes e (pool_from (pool_at t size pool) size 0) tt to

        first : (c.at ≡ 0) × (c.words ≡ words)
        first = begins-as (length t.library) 2 words c ec

        same_d : d.words ≡ words
        same_d = k₁.1 ∙ first.1

        same_e : e.words ≡ words
        same_e = k₂.1 ∙ same_d

        pool-is : pool ≡ take size (drop 2 words)
        pool-is = ep ∙ ap (λ n. take n (drop 2 words)) (sym (es ∙ ap₂ get_at first.1 first.0))
          where
            get_at : List ℕ → ℕ → ℕ
            get_at l i = get_or l i 0

        pool-read : (to : Result Reader Fault) → PoolIs to → onward e (pool_from (pool_read t words size) size 0) ≡ gave tt to
        pool-read to k = ap (λ l. onward e (pool_from (pool_at t size l) size 0)) (sym pool-is) ∙ k.0

        pub pool_stops : (fault : Fault) → PoolIs (Err fault) → Stops fault
        unfolding library gave fault_of
        pool_stops fault k = begun ∙ rw (size-read (Ok d) k₁, count-read (Ok e) k₂, pool-read (Err fault) k) refl

        -- else the pool is accepted
        module _ (f : Reader) (k₃ : PoolIs (Ok f)) where
          size-reads : Reads c.words (get_or c.words c.at 0) (c.at + 1) (true ≡ true) (onward c (owing (λ _. true) (λ p. p)))
          size-reads = reads_word (λ _. true) (λ p. p) c.words c.at c.least

          count-reads : Reads d.words (get_or d.words d.at 0) (d.at + 1) (true ≡ true) (onward d (owing (λ _. true) (λ k. 2 * k)))
          count-reads = reads_word (λ _. true) (λ k. 2 * k) d.words d.at d.least

          place_d : d.at ≡ 1
          place_d = onward-place _ _ size-reads (size-read (Ok d) k₁) ∙ ap (λ n. n + 1) first.0

          place_e : e.at ≡ 2
          place_e = onward-place _ _ count-reads (count-read (Ok e) k₂) ∙ ap (λ n. n + 1) place_d

          within_2 : Within words 2
          within_2 = subst (λ ws. Within ws 2) same_d (subst (Within d.words) (ap (λ n. n + 1) place_d) (onward-within _ _ count-reads (count-read (Ok e) k₂)))

          pool-shown : Reads words tt (size + 2) (PoolFine (pool_read t words size)) (onward e (pool_from (pool_read t words size) size 0))
          pool-shown = rw (same_e, place_e) (pool-reads (pool_read t words size) words (pool_in_lem t words size) e.least within_2)

          within : Within words (size + 2)
          within = onward-within _ _ pool-shown (pool-read (Ok f) k₃)

          pool-long : length pool ≡ size
          pool-long = rw pool-is (simp (length-take, length-drop) (omega (arith, within.in_list)))

          same-pool : pool_read t words size ≡ pool_in t pool
          same-pool = ap₂ (λ n ws. pool_at t n ws) (sym pool-long) (sym pool-is)

          pool-place : PoolAt words pool
          pool-place = record {
            there = λ i l.
                let q : 2 + i ≡ i + 2 = omega arith in
                ap (λ ws. get_or ws i 0) pool-is ∙ get_or-take size (drop 2 words) i 0 (omega (arith, pool-long)) ∙ get_or-drop 2 words i 0 ∙ ap (λ x. get_or words x 0) q;
            within = omega (arith, pool-long, within.in_list);
            room = omega (arith, pool-long, within.in_most);
          }

          pub pool-came : PoolCame t words count f
          unfolding library gave
          pool-came = record {
            fine = subst (λ l. PoolFine (pool_in t l)) ep (subst PoolFine same-pool (onward-shown f tt pool-shown (pool-read (Ok f) k₃)));
            there = subst (PoolAt words) ep pool-place;
            same = k₃.1 ∙ same_e;
            rest = begun ∙ rw (size-read (Ok d) k₁, count-read (Ok e) k₂, pool-read (Ok f) k₃, same-pool, ep) refl;
          }

-- ── The packages ──

module _ {t : Texts} {words : List ℕ} {count : ℕ} {at : Reader} (h : PoolCame t words count at) (pool : List ℕ) (ep : pool ≡ pool_of words) where
  place : PoolAt words pool
  place = rw ep h.there

  pub pool-ready : (sums : List ℕ) → sums ≡ sums_to pool (min (length pool) 8192) → Ready t pool sums
  pool-ready sums e =
      let fine : PoolFine (pool_in t pool) = rw ep h.fine in
      let room : length pool ≤ 8192 = omega (arith, place.room) in
      let m : min (length pool) 8192 ≡ length pool = omega arith in
      record { fine = fine; room = room; counts = λ j b. ap (λ s. get_or s j 0) (e ∙ ap (sums_to pool) m) ∙ sums_right t pool fine (length pool) (omega arith) room j b }

  pub slots-ordered : {order : List ℕ} {n : ℕ} → (0 < n → SlotsNamed t words order n) → n ≤ length order → Ordered t at.words pool (take n order) (length (take n order))
  slots-ordered named l = rw h.same (record { there = place; named = slots_cut named l })

  abbrev PackagesCome : List Package → Result Reader Fault → Type 0
  PackagesCome ps to = Comes at (many count (package_record (pool_in t pool))) ps to

  decides : library_fault t words ≡ fault_of (onward at (do
    ps ← many count (package_record (pool_in t pool))
    _ ← ends
    return ps))
  decides = rw ep h.rest

  pub packages_stop : (fault : Fault) (ps : List Package) → PackagesCome ps (Err fault) → library_fault t words ≡ some fault.0
  unfolding gave fault_of
  packages_stop fault ps k = decides ∙ rw k.0 refl

  pub library-is : (g : Reader) (ps : List Package) → PackagesCome ps (Ok g) → (to : Result Reader Fault) → Comes g ends tt to
      → library_fault t words ≡ offending to
  unfolding gave
  library-is g ps k to e = decides ∙ rw k.0 (ap fault_of (onward_last (λ _. ps) tt to _ e.0) ∙ fault-gave ps to)
