-- The words of an image are owed by its counts and lengths, each: so an image within the limit has its fault before word 8,192, and one that
-- offends at word 8,192 is an accepted image of 8,192 words with more after it. Assumes nothing.
use Rattle.std.specs.Prelude.{ℕ, zero, suc, ◌+◌, ◌*◌, ◌-◌, ◌/◌, ◌%◌, ◌≤◌, ◌<◌, Bool, true, ◌&&◌, ◌≡◌, refl, List, [], ◌∷◌, ◌++◌, length, leb, ltb, eqb}
use Rattle.std.proofs.Math.Bool.{and-eq-true_iff}
use Rattle.std.proofs.lemmas.Bool.{false≢true}
use Rattle.std.proofs.Common.{sym, arith, leb-true, eqb-true}
use Rattle.std.proofs.Math.Option.{some}
use Rattle.tok.specs.Word.{kind_of, payload_of}
use Rattle.tok.specs.Text.{Texts}
use Rattle.tok.specs.Step.{◌>>=◌}
use Rattle.tok.specs.Reader.{Read, word, many, start, most_words, most_bytes}
use Rattle.ast.specs.Outline.{Outline, Counts, Here, typed_name, typed_names}
use Rattle.ast.specs.NodeRecords.{atom, ident, bin, unary, binding, good_arguments, fn, cases, match, call, field, cast, imports}
use Rattle.ast.specs.NodeRecords.{good_extern_count, extern_functions, good_function_count, extern, named_part, record_node, array}
use Rattle.ast.specs.Nodes.{Kind, node_kinds, node_kind, good_node_head, node, nodes}
use Rattle.ast.specs.TypeRecords.{TypeKind, TypeRule, type_atom, type_foreign, type_inner, type_field, type_record, type_kinds, type_kind, good_type_head, type_expression, type_expressions}
use Rattle.ast.specs.ImageFault.{image, image_read, image_fault}
use Rattle.library.specs.Each.{Each}
use Rattle.certain.specs.Owed.{Owed, owed_as, owed-return, owed-then, owing-then, owed-word, owed-last, owed-words, owed-pairs, owed-ends, paid-fault, GoesOn, goes_on}
use Rattle.certain.specs.ImageCertain.{each_of, image_certain}

-- ── Node records: n words after the slot ──

typed-names : (c : Counts) (n : ℕ) → Owed (2 * n) (typed_names c n)
unfolding typed_name
typed-names c n = owed-pairs n _ (owed-word 1 _ _ λ _ _. owed-last _)

atom-owed : (h : Here) → Owed 2 (atom h)
unfolding atom
atom-owed h = owed-word 1 _ _ λ _ _. owed-word 0 _ _ λ _ _. owed-return _ tt

ident-owed : (h : Here) → Owed 1 (ident h)
unfolding ident
ident-owed h = owed-word 0 _ _ λ _ _. owed-return _ tt

bin-owed : (h : Here) → Owed 4 (bin h)
unfolding bin
bin-owed h = owed-word 3 _ _ λ _ _. owed-word 2 _ _ λ _ _. owed-word 1 _ _ λ l _. owed-word 0 _ _ λ r _. owed-return _ tt

unary-owed : (h : Here) → Owed 3 (unary h)
unfolding unary
unary-owed h = owed-word 2 _ _ λ _ _. owed-word 1 _ _ λ _ _. owed-word 0 _ _ λ r _. owed-return _ tt

let_owed : (h : Here) → Owed 2 (binding h)
unfolding binding
let_owed h = owed-word 1 _ _ λ _ _. owed-word 0 _ _ λ r _. owed-return _ tt

field-owed : (h : Here) → Owed 2 (field h)
unfolding field
field-owed h = owed-word 1 _ _ λ target _. owed-word 0 _ _ λ _ _. owed-return _ tt

cast-owed : (h : Here) → Owed 3 (cast h)
unfolding cast
cast-owed h = owed-word 2 _ _ λ _ _. owed-word 1 _ _ λ l _. owed-word 0 _ _ λ _ _. owed-return _ tt

-- words of one rule, and nothing after
words_last : {B : Type 0} (n : ℕ) (rule : ℕ → Bool) (f : List ℕ → Read B) → ((ws : List ℕ) → Owed 0 (f ws)) → Owed n (◌>>=◌ (many n (word rule)) f)
words_last n rule f h = owed_as (n + 0) n (omega arith) (owed-then n 0 _ f (owed-words n rule) λ ws _. h ws)

fn-owed : (h : Here) (n : ℕ) → h.left ≡ 3 + n → Owed (3 + n) (fn h)
unfolding fn good_arguments
fn-owed h n e =
    owed_as (suc (suc (suc n))) (3 + n) (omega arith)
    (owed-word (suc (suc n)) _ _ λ _ _. owed-word (suc n) _ _ λ _ _. owed-word n _ _ λ k g.
    let l : 2 * k ≤ h.left - 3 = leb-true _ _ ((and-eq-true_iff (leb (2 * k) (h.left - 3)) _).0 g).0 in
    let s : 2 * k + (h.left - 3 - 2 * k) ≡ n = omega arith in
    owed_as (2 * k + (h.left - 3 - 2 * k)) n s (owed-then (2 * k) _ _ _ (typed-names h.counts k) λ _ _. words_last _ _ _ λ body. owed-return _ tt))

cases-owed : (h : Here) (count left : ℕ) → 3 * count + 1 ≤ left → Owed left (cases h count left)
unfolding cases
cases-owed h zero left l =
    let e : suc (left - 1) ≡ left = omega arith in
    owed_as (suc (left - 1)) left e (owed-word (left - 1) _ _ λ _ _. owed-words (left - 1) _)
cases-owed h (suc count) left l =
    let e : suc (suc (suc (left - 3))) ≡ left = omega arith in
    owed_as (suc (suc (suc (left - 3)))) left e
    (owed-word (suc (suc (left - 3))) _ _ λ _ _. owed-word (suc (left - 3)) _ _ λ condition _. owed-word (left - 3) _ _ λ n g.
    let m : n + 3 * count + 1 ≤ left - 3 = leb-true _ _ g in
    let s : n + (left - 3 - n) ≡ left - 3 = omega arith in
    owed_as (n + (left - 3 - n)) (left - 3) s
    (owed-then n (left - 3 - n) _ _ (owed-words n _) λ body _.
    owed_as (left - 3 - n + 0) (left - 3 - n) (omega arith) (owed-then (left - 3 - n) 0 _ _ (cases-owed h count (left - 3 - n) (omega arith)) λ others _. owed-return _ tt)))

match-owed : (h : Here) (n : ℕ) → h.left ≡ suc n → Owed (suc n) (match h)
unfolding match
match-owed h n e =
    owed-word n _ _ λ count g.
    let l : 3 * count + 1 ≤ h.left - 1 = leb-true _ _ g in
    let s : h.left - 1 + 0 ≡ n = omega arith in
    owed_as (h.left - 1 + 0) n s (owed-then (h.left - 1) 0 _ _ (cases-owed h count (h.left - 1) l) λ ps _. owed-return _ tt)

-- a word, then words of one rule
list-owed : {B : Type 0} (rule rule' : ℕ → Bool) (left n : ℕ) (f : ℕ → List ℕ → Read B) → left ≡ suc n → ((w : ℕ) (ws : List ℕ) → Owed 0 (f w ws))
    → Owed (suc n) (◌>>=◌ (word rule) (λ w. ◌>>=◌ (many (left - 1) (word rule')) (f w)))
list-owed rule rule' left n f e h =
    owed-word n _ _ λ w _.
    let s : left - 1 ≡ n = omega arith in
    owed_as (left - 1) n s (words_last (left - 1) rule' (f w) (h w))

call-owed : (h : Here) (n : ℕ) → h.left ≡ suc n → Owed (suc n) (call h)
unfolding call
call-owed h n e = list-owed _ _ h.left n _ e λ target args. owed-return _ tt

import_owed : (h : Here) (n : ℕ) → h.left ≡ suc n → Owed (suc n) (imports h)
unfolding imports
import_owed h n e = list-owed _ _ h.left n _ e λ _ _. owed-return _ tt

array-owed : (h : Here) (n : ℕ) → h.left ≡ suc n → Owed (suc n) (array h)
unfolding array
array-owed h n e = list-owed _ _ h.left n _ e λ _ members. owed-return _ tt

-- Extern: "The last one's count uses the record up."
extern-count : (others left n : ℕ) → good_extern_count others left n ≡ true → (2 * n + 3 * others ≤ left) × (others ≡ 0 → left ≡ 2 * n)
unfolding good_extern_count
extern-count zero left n e = let z = eqb-true (2 * n) left e in (omega arith, λ _. omega arith)
extern-count (suc others) left n e = (leb-true _ _ e, λ z. absurd (omega arith))

function-count : (left n : ℕ) → good_function_count left n ≡ true → (3 * n ≤ left) × (n ≡ 0 → left ≡ 0)
unfolding good_function_count
function-count left zero e =
    let h = (and-eq-true_iff (leb (3 * 0) left) _).0 e in
    let z : left ≡ 0 = eqb-true left 0 h.1 in
    (omega arith, λ _. z)
function-count left (suc n) e = (leb-true _ _ ((and-eq-true_iff (leb (3 * suc n) left) _).0 e).0, λ z. absurd (omega arith))

functions-owed : (h : Here) (count left : ℕ) → 3 * count ≤ left → (count ≡ 0 → left ≡ 0) → Owed left (extern_functions h count left)
unfolding extern_functions
functions-owed h zero left l z = owed_as 0 left (sym (z refl)) (owed-return tt tt)
functions-owed h (suc others) left l z =
    let e : suc (suc (suc (left - 3))) ≡ left = omega arith in
    owed_as (suc (suc (suc (left - 3)))) left e
    (owed-word (suc (suc (left - 3))) _ _ λ _ _. owed-word (suc (left - 3)) _ _ λ _ _. owed-word (left - 3) _ _ λ n g.
    let f = extern-count others (left - 3) n g in
    let m = f.0 in
    let s : 2 * n + (left - 3 - 2 * n) ≡ left - 3 = omega arith in
    owed_as (2 * n + (left - 3 - 2 * n)) (left - 3) s
    (owed-then (2 * n) (left - 3 - 2 * n) _ _ (typed-names h.counts n) λ _ _.
    functions-owed h others (left - 3 - 2 * n) (omega arith) (λ y. let w = f.1 y in omega arith)))

extern-owed : (h : Here) (n : ℕ) → h.left ≡ 3 + n → Owed (3 + n) (extern h)
unfolding extern
extern-owed h n e =
    owed_as (suc (suc (suc n))) (3 + n) (omega arith)
    (owed-word (suc (suc n)) _ _ λ _ _. owed-word (suc n) _ _ λ _ _. owed-word n _ _ λ count g.
    let f = function-count (h.left - 3) count g in
    let s : h.left - 3 + 0 ≡ n = omega arith in
    owed_as (h.left - 3 + 0) n s (owed-then (h.left - 3) 0 _ _ (functions-owed h count (h.left - 3) f.0 f.1) λ _ _. owed-return _ tt))

record_owed : (h : Here) (n : ℕ) → h.left ≡ 1 + 2 * n → Owed (1 + 2 * n) (record_node h)
unfolding record_node named_part
record_owed h n e =
    let s : 2 * ((h.left - 1) / 2) + 0 ≡ 2 * n = omega arith in
    owed_as (suc (2 * n)) (1 + 2 * n) (omega arith)
    (owed-word (2 * n) _ _ λ _ _.
    owed_as (2 * ((h.left - 1) / 2) + 0) (2 * n) s
    (owed-then (2 * ((h.left - 1) / 2)) 0 _ _ (owed-pairs ((h.left - 1) / 2) _ (owed-word 1 _ _ λ _ _. owed-last _)) λ values _. owed-return _ tt))

-- ── Nodes ──

-- what a length that a kind may have says
abbrev KindOwed : Kind → Type 0
KindOwed kind = (k : ℕ) → kind.long k ≡ true → (3 ≤ k) × ((h : Here) → h.left ≡ k - 2 → Owed (k - 2) (kind.rest h))

exact : (n : ℕ) (r : Here → Read Outline) → 3 ≤ n → ((h : Here) → Owed (n - 2) (r h)) → KindOwed (record { long = λ k. eqb k n; rest = r })
exact n r l f k e =
    let z : k ≡ n = eqb-true k n e in
    (omega arith, λ h _. owed_as (n - 2) (k - 2) (omega arith) (f h))

-- d words after the slot, and more
at_least : (n d : ℕ) (r : Here → Read Outline) → 3 ≤ n → d + 2 ≤ n → ((h : Here) (m : ℕ) → h.left ≡ d + m → Owed (d + m) (r h)) → KindOwed (record { long = λ k. leb n k; rest = r })
at_least n d r l b f k e =
    let z : n ≤ k = leb-true n k e in
    (omega arith, λ h g. owed_as (d + (k - 2 - d)) (k - 2) (omega arith) (f h (k - 2 - d) (omega arith)))

one_more : (r : Here → Read Outline) → ((h : Here) (n : ℕ) → h.left ≡ suc n → Owed (suc n) (r h)) → (h : Here) (m : ℕ) → h.left ≡ 1 + m → Owed (1 + m) (r h)
one_more r f h m e = owed_as (suc m) (1 + m) (omega arith) (f h m (omega arith))

record_kind_lem : KindOwed (record { long = λ k. leb 3 k && eqb ((k - 3) % 2) 0; rest = record_node })
record_kind_lem k e =
    let b = (and-eq-true_iff (leb 3 k) _).0 e in
    let l : 3 ≤ k = leb-true 3 k b.0 in
    let z : (k - 3) % 2 ≡ 0 = eqb-true _ _ b.1 in
    (l, λ h g. owed_as (1 + 2 * ((k - 3) / 2)) (k - 2) (omega arith) (record_owed h ((k - 3) / 2) (omega arith)))

kinds-owed : Each KindOwed node_kinds
unfolding Each node_kinds
kinds-owed = (
  exact 4 atom (omega arith) atom-owed,
  (
    exact 3 ident (omega arith) ident-owed,
    (
      exact 6 bin (omega arith) bin-owed,
      (
        exact 5 unary (omega arith) unary-owed,
        (
          exact 4 binding (omega arith) let_owed,
          (
            at_least 5 3 fn (omega arith) (omega arith) fn-owed,
            (
              at_least 4 1 match (omega arith) (omega arith) (one_more match match-owed),
              (
                at_least 3 1 call (omega arith) (omega arith) (one_more call call-owed),
                (
                  exact 4 field (omega arith) field-owed,
                  (
                    exact 5 cast (omega arith) cast-owed,
                    (
                      at_least 3 1 imports (omega arith) (omega arith) (one_more imports import_owed),
                      (
                        at_least 5 3 extern (omega arith) (omega arith) extern-owed,
                        (
                          record_kind_lem,
                          (at_least 3 1 array (omega arith) (omega arith) (one_more array array-owed), tt),
                        ),
                      ),
                    ),
                  ),
                ),
              ),
            ),
          ),
        ),
      ),
    ),
  ),
)

kind-owed : (head : ℕ) → KindOwed (node_kind head)
unfolding node_kind
kind-owed head = each_of KindOwed node_kinds _ kinds-owed (λ k e. absurd (false≢true e)) (kind_of head)

node-owed : (c : Counts) (before : List Outline) (i : ℕ) → Owed 3 (node c before i)
unfolding node good_node_head
node-owed c before i =
    owing-then 2 _ _ _ λ head g.
    let f = kind-owed head (payload_of head) g in
    let l : 3 ≤ payload_of head = f.0 in
    owed_as (suc (payload_of head - 2)) (2 + (payload_of head - 3)) (omega arith) (owed-word (payload_of head - 2) _ _ λ slot _. f.1 _ refl)

nodes-owed : (c : Counts) (count i : ℕ) (before : List Outline) → Owed (3 * count) (nodes c count i before)
unfolding nodes
nodes-owed c zero i before = owed-return before tt
nodes-owed c (suc count) i before =
    owed_as (3 + 3 * count) (3 * suc count) (omega arith) (owed-then 3 (3 * count) _ _ (node-owed c before i) λ o _. nodes-owed c count (i + 1) (before ++ (o ∷ [])))

-- ── Type records ──

abbrev TypeOwed : TypeKind → Type 0
TypeOwed kind = (k : ℕ) → kind.long k ≡ true → (2 ≤ k) × ((c : Counts) (number left : ℕ) → left ≡ k - 1 → Owed (k - 1) (kind.rest c number left))

exact-type : (n : ℕ) (r : TypeRule) → 2 ≤ n → ((c : Counts) (number left : ℕ) → Owed (n - 1) (r c number left)) → TypeOwed (record { long = λ k. eqb k n; rest = r })
exact-type n r l f k e =
    let z : k ≡ n = eqb-true k n e in
    (omega arith, λ c number left _. owed_as (n - 1) (k - 1) (omega arith) (f c number left))

atom-type : (c : Counts) (number left : ℕ) → Owed 2 (type_atom c number left)
unfolding type_atom
atom-type c number left = owed-word 1 _ _ λ _ _. owed-word 0 _ _ λ _ _. owed-return tt tt

foreign-type : (c : Counts) (number left : ℕ) → Owed 1 (type_foreign c number left)
unfolding type_foreign
foreign-type c number left = owed-word 0 _ _ λ _ _. owed-return tt tt

inner_type : (c : Counts) (number left : ℕ) → Owed 1 (type_inner c number left)
unfolding type_inner
inner_type c number left = owed-word 0 _ _ λ _ _. owed-return tt tt

record_type : TypeOwed (record { long = λ k. leb 2 k && eqb (k % 2) 0; rest = type_record })
unfolding type_record type_field
record_type k e =
    let b = (and-eq-true_iff (leb 2 k) _).0 e in
    let l : 2 ≤ k = leb-true 2 k b.0 in
    let z : k % 2 ≡ 0 = eqb-true _ _ b.1 in (
      l,
      λ c number left g.
          let s : 2 * ((left - 1) / 2) + 0 ≡ k - 2 = omega arith in
          owed_as (suc (k - 2)) (k - 1) (omega arith)
          (owed-word (k - 2) _ _ λ _ _.
          owed_as (2 * ((left - 1) / 2) + 0) (k - 2) s
          (owed-then (2 * ((left - 1) / 2)) 0 _ _ (owed-pairs ((left - 1) / 2) _ (owed-word 1 _ _ λ _ _. owed-last _)) λ _ _. owed-return tt tt)),
    )

types-kinds : Each TypeOwed type_kinds
unfolding Each type_kinds
types-kinds = (
  exact-type 3 type_atom (omega arith) atom-type,
  (
    exact-type 2 type_foreign (omega arith) foreign-type,
    (
      exact-type 2 type_inner (omega arith) inner_type,
      (
        exact-type 2 type_inner (omega arith) inner_type,
        (record_type, tt),
      ),
    ),
  ),
)

type-kind : (head : ℕ) → TypeOwed (type_kind head)
unfolding type_kind
type-kind head = each_of TypeOwed type_kinds _ types-kinds (λ k e. absurd (false≢true e)) (kind_of head)

type-owed : (c : Counts) (number : ℕ) → Owed 2 (type_expression c number)
unfolding type_expression good_type_head
type-owed c number =
    owing-then 1 _ _ _ λ head g.
    let f = type-kind head (payload_of head) g in
    let l : 2 ≤ payload_of head = f.0 in
    owed_as (payload_of head - 1) (1 + (payload_of head - 2)) (omega arith) (f.1 c number _ refl)

types-owed : (c : Counts) (count number : ℕ) → Owed (2 * count) (type_expressions c count number)
unfolding type_expressions
types-owed c zero number = owed-return tt tt
types-owed c (suc count) number = owed_as (2 + 2 * count) (2 * suc count) (omega arith) (owed-then 2 (2 * count) _ _ (type-owed c number) λ _ _. types-owed c count (number + 1))

-- ── The image ──

image-owed : (t : Texts) → Owed 4 (image t)
unfolding image
image-owed t =
    owing-then 3 _ _ _ λ n _.
    owed_as (suc (2 + 3 * n)) (3 + 3 * n) (omega arith)
    (owing-then (2 + 3 * n) _ _ _ λ types _.
    owed_as (suc (1 + 3 * n + 2 * types)) (2 + 3 * n + 2 * types) (omega arith)
    (owing-then (1 + 3 * n + 2 * types) _ _ _ λ r _.
    owed_as (suc (3 * n + 2 * types + r)) (1 + 3 * n + 2 * types + r) (omega arith)
    (owing-then (3 * n + 2 * types + r) _ _ _ λ v _.
    owed_as (r + (3 * n + (2 * types + 0))) (3 * n + 2 * types + r + 0) (omega arith)
    (owed-then r (3 * n + (2 * types + 0)) _ _ (owed-words r _) λ roots _.
    owed-then (3 * n) (2 * types + 0) _ _ (nodes-owed _ n 0 []) λ found _.
    owed-then (2 * types) 0 _ _ (types-owed _ types 0) λ _ _.
    owed-then 0 0 _ _ owed-ends λ _ _. owed-return _ tt))))

-- THE LAWS: an image within the limit has its fault before word 8,192.
pub image-before : (t : Texts) (words : List ℕ) (p : ℕ) → length words ≤ most_words → image_fault t words ≡ some p → p < most_words
unfolding image_fault image_read
image-before t words p l e =
    paid-fault _ p (ltb most_bytes (length t.script)) ((image-owed t).pays 0 (start 4 words) (record { owed = omega arith; in_most = omega arith; in_list = omega arith })) e

-- At word 8,192 an image offends only if its first 8,192 words are an accepted image, and a word follows.
pub image-goes-on : (t : Texts) (words : List ℕ) → image_fault t words ≡ some most_words → GoesOn (image_fault t) words
image-goes-on t words e = goes_on (image_fault t) (image_certain t) (image-before t) words e
