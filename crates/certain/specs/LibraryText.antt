-- A library is judged by its words and its own text alone: "Bit 24 is .. set throughout a library", so that every name which a rule compares
-- lies in the library text, and another script changes nothing. By what reading has shown of the words before. Assumes nothing.
use Prim.Native.Nat.{ℕ, zero, suc, ◌+◌, ◌*◌}
use Rattle.std.specs.Prelude.{Bool, true, false, ◌&&◌, ◌||◌, ◌≡◌, length}
use Rattle.std.proofs.Math.Bool.{not, and-eq-true_iff}
use Rattle.std.proofs.Math.Path.{refl, ap, ap₂}
use Rattle.std.proofs.Common.{sym, ◌∙◌, arith, lt-ltb, le-ltb}
use mathlib.Core.List.{List, [], ◌∷◌, ◌++◌, map, append-nil}
use Rattle.std.proofs.Math.Decide.{dec_lt}
use Rattle.std.proofs.Math.ListN.{get_or}
use Rattle.std.proofs.Math.Dec.{ltb, eqb}
use Rattle.tok.specs.Text.{texts_of, name_bytes, same_bytes}
use Rattle.tok.specs.Name.{good_name, in_library}
use Rattle.tok.proofs.NameLaws.{good_payload-true, good_name-payload, name_bytes-library}
use Rattle.tok.specs.Step.{Result, ok, refused, next}
use Rattle.tok.specs.Reader.{Cursor, Read, take_word, word, many, start, fault_of, most_bytes, unless_long}
use Rattle.reader.specs.Reading.{standing}
use Rattle.reader.specs.Reads.{Within, Reads, reads, faults, reads_word}
use Rattle.ptype.specs.Ty.{contains_slot}
use Rattle.ptype.proofs.GrowLaws.{unfolded-longer}
use Rattle.library.specs.Pool.{Pool, pool_at, good_wrapped, good_record, good_named, good_type, name, fields, good_pool_word, pairs_after, pool_from}
use Rattle.library.specs.Slots.{pool_ty, slot_names, no_slot, slot_names_of, all_among, return_stands}
use Rattle.library.specs.Package.{Param, Function, function_at, function_end}
use Rattle.library.specs.PackageRecords.{any_function, same_group, good_group, good_flag, good_signature_type, argument, good_return, function_record, function_records, package_record}
use Rattle.library.specs.LibraryFault.{pool_read, library, library_read, library_fault}
use Rattle.library.specs.Each.{Each}
use Rattle.library.specs.TypeWords.{good_type-true}
use Rattle.library.specs.PoolRead.{PoolFine, pool-reads}
use Rattle.library.specs.PoolTypes.{type-names}
use Rattle.library.specs.PackagesRead.{ParamFine, arguments-reads, function-reads, package_end, package_reads}
use Rattle.library.specs.Accepted.{pool_in_lem}

-- ── Rules that read the same ──

-- one rule after another: the second may rest on what the first has shown
shown-same : {A B : Type 0} {words : List ℕ} {a : A} {to : ℕ} {P : Type 0} {r : Result Cursor ℕ A} (f f' : A → Read B) → Reads words a to P r
    → ((least : ℕ) → Within words to → P → f a (standing words to least) ≡ f' a (standing words to least)) → next r f ≡ next r f'
shown-same f f' (reads least w p) h = h least w p
shown-same f f' (faults place) h = refl

then_same : {A B : Type 0} {words : List ℕ} {a : A} {to : ℕ} {P : Type 0} {r r' : Result Cursor ℕ A} (f f' : A → Read B) → Reads words a to P r → r ≡ r'
    → ((least : ℕ) → Within words to → P → f a (standing words to least) ≡ f' a (standing words to least)) → next r f ≡ next r' f'
then_same f f' h e g = shown-same f f' h g ∙ ap (λ r. next r f') e

-- where it does not
always_same : {A B : Type 0} (r : Result Cursor ℕ A) (f f' : A → Read B) → ((a : A) (c : Cursor) → f a c ≡ f' a c) → next r f ≡ next r f'
always_same (ok a c) f f' h = h a c
always_same (refused q) f f' h = refl

each_same : {A B : Type 0} {r r' : Result Cursor ℕ A} (f f' : A → Read B) → r ≡ r' → ((a : A) (c : Cursor) → f a c ≡ f' a c) → next r f ≡ next r' f'
each_same {r = r} f f' e h = always_same r f f' h ∙ ap (λ r. next r f') e

rule-same : (rule rule' : ℕ → Bool) → ((w : ℕ) → rule w ≡ rule' w) → (c : Cursor) → word rule c ≡ word rule' c
unfolding take_word
rule-same rule rule' h c = by c.rest
  where
    by : (l : List ℕ) → take_word rule (λ _. 0) c.at c.least l ≡ take_word rule' (λ _. 0) c.at c.least l
    by [] = refl
    by (w ∷ l) = rw (h w) refl

many-same : {A : Type 0} (m m' : Read A) → ((c : Cursor) → m c ≡ m' c) → (k : ℕ) (c : Cursor) → many k m c ≡ many k m' c
unfolding many
many-same m m' h zero c = refl
many-same m m' h (suc k) c = each_same _ _ (h c) λ a d. each_same _ _ (many-same m m' h k d) λ others e. refl

and_same : (a b b' : Bool) → (a ≡ true → b ≡ b') → (a && b) ≡ (a && b')
and_same true b b' h = h refl
and_same false b b' h = refl

some_same : (test test' : Function → Bool) (fs : List Function) → Each (λ f. test f ≡ test' f) fs → any_function test fs ≡ any_function test' fs
unfolding any_function Each
some_same test test' [] h = refl
some_same test test' (f ∷ fs) h = ap₂ ◌||◌ h.0 (some_same test test' fs h.1)

each_map : {A : Type 0} (P Q : A → Type 0) (xs : List A) → ((x : A) → P x → Q x) → Each P xs → Each Q xs
unfolding Each
each_map P Q [] f h = tt
each_map P Q (x ∷ xs) f h = (f x h.0, each_map P Q xs f h.1)

each_more : {A : Type 0} (P : A → Type 0) (xs : List A) (x : A) → Each P xs → P x → Each P (xs ++ (x ∷ []))
unfolding Each
each_more P [] x h p = (p, tt)
each_more P (y ∷ ys) x h p = (h.0, each_more P ys x h.1 p)

-- ── One pool beside two scripts, the one empty ──

module _ (s l : List ℕ) (size : ℕ) (pool : List ℕ) where
  abbrev alone : Pool
  alone = pool_at (texts_of [] l) size pool

  abbrev beside : Pool
  beside = pool_at (texts_of s l) size pool

  -- ── The pool ──

  type-same : (own w : ℕ) → good_type alone own w ≡ good_type beside own w
  unfolding good_type good_wrapped good_record good_named
  type-same own w = refl

  head-same : (i w : ℕ) → good_pool_word alone i w ≡ good_pool_word beside i w
  unfolding good_pool_word
  head-same i w = rw (type-same i w) refl

  fields-same : (n i : ℕ) (c : Cursor) → fields alone n i c ≡ fields beside n i c
  unfolding fields
  fields-same zero i c = refl
  fields-same (suc n) i c = always_same (name alone c) _ _ λ _ d. each_same _ _ (rule-same _ _ (type-same (i + 1)) d) λ _ e. fields-same n (i + 2) e

  pool-same : (turns i : ℕ) (c : Cursor) → pool_from alone turns i c ≡ pool_from beside turns i c
  unfolding pool_from
  pool-same zero i c = refl
  pool-same (suc turns) i c = elim (dec_lt i size) [
    | yes m ↦ rw (lt-ltb i size m) (each_same _ _ (rule-same _ _ (head-same i) c) λ w d. each_same _ _ (fields-same (pairs_after w) (i + 1) d) λ j e. pool-same turns j e)
    | no m ↦ rw (le-ltb i size (omega arith)) refl
  ]

  -- ── Names ──

  abbrev Named : Function → Type 0
  Named f = good_name in_library l f.name ≡ true

  name-same : (w : ℕ) → good_name in_library l w ≡ true → name_bytes (texts_of [] l) w ≡ name_bytes (texts_of s l) w
  name-same w g =
      let home = (good_payload-true in_library l w (good_name-payload in_library l w g)).home in
      name_bytes-library (texts_of [] l) w home ∙ sym (name_bytes-library (texts_of s l) w home)

  same-group : (group : ℕ) → good_name in_library l group ≡ true → (f : Function) → Named f → same_group (texts_of [] l) group f ≡ same_group (texts_of s l) group f
  same-group group g f h = ap₂ same_bytes (name-same group g) (name-same f.name h)

  group-same : (before : List Function) → Each Named before → (group : ℕ) → good_group alone before group ≡ good_group beside before group
  unfolding good_group
  group-same before h group =
      and_same (good_name in_library l group) _ _ λ g. ap not (some_same _ _ before (each_map Named _ before (λ f n. ap (λ b. b && f.sig.with_slots) (same-group group g f n)) h))

  flag_same : (before : List Function) → Each Named before → (group : ℕ) → good_name in_library l group ≡ true → (flag : ℕ)
      → good_flag alone before group flag ≡ good_flag beside before group flag
  unfolding good_flag
  flag_same before h group g flag = ap (λ b. ltb flag 2 && (eqb flag 0 || not b)) (some_same _ _ before (each_map Named _ before (same-group group g) h))

  -- ── Types ──

  module _ (fine : PoolFine alone) where
    abbrev Good : ℕ → Type 0
    Good w = good_type alone size w ≡ true

    tree-same : (w : ℕ) → Good w → pool_ty alone w ≡ pool_ty beside w
    unfolding pool_ty
    tree-same w g = rw (append-nil l) at (unfolded-longer (texts_of [] l) s [] pool (type-names fine (size + 1) w (good_type-true alone size w g)))

    signature-same : (flag w : ℕ) → good_signature_type alone flag w ≡ good_signature_type beside flag w
    unfolding good_signature_type no_slot
    signature-same flag w = rw (← (type-same size w)) (and_same (good_type alone size w) _ _ λ g. ap (λ t. eqb flag 1 || not (contains_slot t)) (tree-same w g))

    argument-same : (flag : ℕ) (c : Cursor) → argument alone flag c ≡ argument beside flag c
    unfolding argument
    argument-same flag c = always_same (name alone c) _ _ λ n d. each_same _ _ (rule-same _ _ (signature-same flag) d) λ t e. refl

    slots_same : (ws : List ℕ) → Each Good ws → slot_names_of alone ws ≡ slot_names_of beside ws
    unfolding slot_names_of Each
    slots_same [] h = refl
    slots_same (w ∷ ws) h = ap₂ (λ t ns. slot_names t ++ ns) (tree-same w h.0) (slots_same ws h.1)

    types-good : (with_slots : Bool) (args : List Param) → Each (ParamFine alone with_slots) args → Each Good (map (λ a. a.type) args)
    unfolding Each
    types-good b [] h = tt
    types-good b (a ∷ others) h = (h.0.type.good, types-good b others h.1)

    return-same : (flag : ℕ) (args : List Param) → Each (ParamFine alone (eqb flag 1)) args → (w : ℕ) → good_return alone flag args w ≡ good_return beside flag args w
    unfolding good_return return_stands good_signature_type
    return-same flag args h w =
        rw (← (signature-same flag w))
        (and_same (good_signature_type alone flag w) _ _ λ g.
        ap₂ (λ t ns. all_among (slot_names t) ns) (tree-same w ((and-eq-true_iff (good_type alone size w) _).0 g).0) (slots_same _ (types-good _ args h)))

    -- ── Functions and packages ──

    module _ (words : List ℕ) where
      function-same : (before : List Function) → Each Named before → (at least : ℕ)
          → function_record alone before (standing words at least) ≡ function_record beside before (standing words at least)
      unfolding function_record good_group
      function-same before h at least =
          then_same _ _ (reads_word (good_group alone before) (λ _. 0) words at least) (rule-same _ _ (group-same before h) _) λ l₁ w₁ f₁.
          let group : ℕ = get_or words at 0 in
          let good = ((and-eq-true_iff (good_name in_library l group) _).0 f₁).0 in
          then_same _ _ (reads_word (good_flag alone before group) (λ _. 0) words (at + 1) l₁) (rule-same _ _ (flag_same before h group good) _) λ l₂ w₂ f₂.
          let flag : ℕ = get_or words (at + 1) 0 in
          shown-same _ _ (reads_word (λ _. true) (λ n. 2 * n) words (at + 1 + 1) l₂) λ l₃ w₃ f₃.
          then_same _ _ (arguments-reads alone words flag _ (at + 1 + 1 + 1) l₃ _ refl (λ _. w₃)) (many-same _ _ (argument-same flag) _ _) λ l₄ w₄ f₄.
          each_same _ _ (rule-same _ _ (return-same flag _ f₄) _) λ ret c. refl

      functions-same : (k : ℕ) (before : List Function) → Each Named before → (at least : ℕ)
          → function_records alone k before (standing words at least) ≡ function_records beside k before (standing words at least)
      unfolding function_records
      functions-same zero before h at least = refl
      functions-same (suc k) before h at least =
          then_same _ _ (function-reads alone words before at least) (function-same before h at least) λ l₁ w₁ f₁.
          functions-same k (before ++ (function_at words at ∷ [])) (each_more Named before (function_at words at) h f₁.fine.name) (function_end words at) l₁

      package_same : (at least : ℕ) → package_record alone (standing words at least) ≡ package_record beside (standing words at least)
      unfolding package_record Each
      package_same at least =
          shown-same _ _ (reads_word (good_name in_library l) (λ _. 0) words at least) λ l₁ w₁ f₁.
          shown-same _ _ (reads_word (λ _. true) (λ k. 4 * k) words (at + 1) l₁) λ l₂ w₂ f₂.
          each_same _ _ (functions-same _ [] tt (at + 1 + 1) l₂) λ fs c. refl

      packages-same : (k at least : ℕ) → many k (package_record alone) (standing words at least) ≡ many k (package_record beside) (standing words at least)
      unfolding many
      packages-same zero at least = refl
      packages-same (suc k) at least =
          then_same _ _ (package_reads alone words at least) (package_same at least) λ l₁ w₁ f₁.
          each_same _ _ (packages-same k (package_end words at) l₁) λ others c. refl

-- ── The library ──

module _ (s l words : List ℕ) where
  library-same : library (texts_of [] l) words (start 2 words) ≡ library (texts_of s l) words (start 2 words)
  unfolding library
  library-same =
      let size : ℕ = get_or words 0 0 in
      let p : Pool = pool_read (texts_of [] l) words size in
      shown-same _ _ (reads_word (λ _. true) (λ p. p) words 0 2) λ l₁ w₁ f₁.
      shown-same _ _ (reads_word (λ _. true) (λ k. 2 * k) words 1 l₁) λ l₂ w₂ f₂.
      then_same _ _ (pool-reads p words (pool_in_lem (texts_of [] l) words size) l₂ w₂) (pool-same s l size p.words size 0 _) λ l₃ w₃ fine.
      each_same _ _ (packages-same s l size p.words fine words _ (size + 2) l₃) λ packages c. refl

  alone-same : library_fault (texts_of [] l) words ≡ library_fault (texts_of s l) words
  unfolding library_fault library_read
  alone-same = ap (λ r. fault_of (unless_long (ltb most_bytes (length l)) r)) library-same

-- THE LAW: whatever the script, a library has the same fault.
pub library-alone : (s s' l words : List ℕ) → library_fault (texts_of s' l) words ≡ library_fault (texts_of s l) words
library-alone s s' l words = sym (alone-same s' l words) ∙ alone-same s l words
