-- Refusal 3: an image that agrees with a refused one up to and including the offending word is refused at the same word. Each rule of the
-- image's words reads forward. Assumes nothing.
use Prim.Native.Nat.{ℕ, zero, suc, ◌+◌, ◌*◌, ◌-◌, ◌≤◌, ◌<◌}
use Rattle.std.specs.Prelude.{Bool, ◌≡◌, refl, List, [], ◌∷◌, ◌++◌, length, get_or, take, ltb}
use Rattle.std.proofs.Common.{sym, arith, take-take, length-take-le}
use Rattle.std.proofs.Math.Option.{none, some}
use Rattle.tok.specs.Word.{kind_of, payload_of}
use Rattle.tok.specs.Text.{Texts}
use Rattle.tok.specs.Step.{◌>>=◌}
use Rattle.tok.specs.Reader.{Read, word, many, start, most_bytes}
use Rattle.ast.specs.Outline.{Outline, Counts, Here, typed_name, typed_names}
use Rattle.ast.specs.NodeRecords.{atom, ident, bin, unary, binding, fn, cases, match, call, field, cast, imports, extern_functions, extern, named_part, record_node, array}
use Rattle.ast.specs.Nodes.{Kind, node_kinds, node_kind, node, nodes}
use Rattle.ast.specs.TypeRecords.{TypeKind, type_atom, type_foreign, type_inner, type_field, type_record, type_kinds, type_kind, type_expression, type_expressions}
use Rattle.ast.specs.ImageFault.{image, image_read, image_fault}
use Rattle.library.specs.Each.{Each}
use Rattle.certain.specs.Forward.{Agree, ForwardTo, Forward, forward-return, forward-then, forward-many, forward-word, forward-ends}
use Rattle.certain.specs.Forward.{PlaceIn, place_in, alike-fault, alike-after, long-fault, long-place, long_after}

-- what holds of each of a list, and of what stands for those past its end
pub each_of : {A : Type 0} (P : A → Type 0) (l : List A) (d : A) → Each P l → P d → (i : ℕ) → P (get_or l i d)
unfolding Each
each_of P [] d h p i = p
each_of P (x ∷ xs) d h p zero = h.0
each_of P (x ∷ xs) d h p (suc i) = each_of P xs d h.1 p i

module _ {k : ℕ} {words words' : List ℕ} (agree : Agree k words words') where
  -- a word of any rule, and the rest after it
  word-then : {B : Type 0} (rule : ℕ → Bool) (f : ℕ → Read B) → ((w : ℕ) → Forward k words words' (f w)) → Forward k words words' (◌>>=◌ (word rule) f)
  word-then rule f h = forward-then (word rule) f (forward-word agree rule (λ _. 0)) h

  -- a number of words of one rule, and the rest after them
  words-then : {B : Type 0} {P : ℕ → Type 0} (n : ℕ) (rule : ℕ → Bool) (f : List ℕ → Read B) → ((ws : List ℕ) → ForwardTo k words words' P (f ws))
      → ForwardTo k words words' P (◌>>=◌ (many n (word rule)) f)
  words-then n rule f h = forward-then (many n (word rule)) f (forward-many n (word rule) (forward-word agree rule (λ _. 0))) h

  typed-names : (c : Counts) (n : ℕ) → Forward k words words' (typed_names c n)
  unfolding typed_name
  typed-names c n = forward-many n _ (word-then _ _ λ _. forward-word agree _ _)

  -- ── Node records ──

  atom-forward : (h : Here) → Forward k words words' (atom h)
  unfolding atom
  atom-forward h = word-then _ _ λ _. word-then _ _ λ _. forward-return _

  ident-forward : (h : Here) → Forward k words words' (ident h)
  unfolding ident
  ident-forward h = word-then _ _ λ _. forward-return _

  bin-forward : (h : Here) → Forward k words words' (bin h)
  unfolding bin
  bin-forward h = word-then _ _ λ _. word-then _ _ λ _. word-then _ _ λ l. word-then _ _ λ r. forward-return _

  unary-forward : (h : Here) → Forward k words words' (unary h)
  unfolding unary
  unary-forward h = word-then _ _ λ _. word-then _ _ λ _. word-then _ _ λ r. forward-return _

  let_forward : (h : Here) → Forward k words words' (binding h)
  unfolding binding
  let_forward h = word-then _ _ λ _. word-then _ _ λ r. forward-return _

  fn-forward : (h : Here) → Forward k words words' (fn h)
  unfolding fn
  fn-forward h = word-then _ _ λ _. word-then _ _ λ _. word-then _ _ λ n. forward-then _ _ (typed-names h.counts n) λ _. words-then _ _ _ λ body. forward-return _

  cases-forward : (h : Here) (count left : ℕ) → Forward k words words' (cases h count left)
  unfolding cases
  cases-forward h zero left = word-then _ _ λ _. forward-many _ _ (forward-word agree _ _)
  cases-forward h (suc count) left =
      word-then _ _ λ _. word-then _ _ λ condition. word-then _ _ λ n. words-then _ _ _ λ body.
      forward-then _ _ (cases-forward h count (left - 3 - n)) λ others. forward-return _

  match-forward : (h : Here) → Forward k words words' (match h)
  unfolding match
  match-forward h = word-then _ _ λ count. forward-then _ _ (cases-forward h count (h.left - 1)) λ ps. forward-return _

  call-forward : (h : Here) → Forward k words words' (call h)
  unfolding call
  call-forward h = word-then _ _ λ target. words-then _ _ _ λ args. forward-return _

  field-forward : (h : Here) → Forward k words words' (field h)
  unfolding field
  field-forward h = word-then _ _ λ target. word-then _ _ λ _. forward-return _

  cast-forward : (h : Here) → Forward k words words' (cast h)
  unfolding cast
  cast-forward h = word-then _ _ λ _. word-then _ _ λ l. word-then _ _ λ _. forward-return _

  import_forward : (h : Here) → Forward k words words' (imports h)
  unfolding imports
  import_forward h = word-then _ _ λ _. words-then _ _ _ λ _. forward-return _

  functions-forward : (h : Here) (count left : ℕ) → Forward k words words' (extern_functions h count left)
  unfolding extern_functions
  functions-forward h zero left = forward-return tt
  functions-forward h (suc others) left =
      word-then _ _ λ _. word-then _ _ λ _. word-then _ _ λ n. forward-then _ _ (typed-names h.counts n) λ _. functions-forward h others (left - 3 - 2 * n)

  extern-forward : (h : Here) → Forward k words words' (extern h)
  unfolding extern
  extern-forward h = word-then _ _ λ _. word-then _ _ λ _. word-then _ _ λ count. forward-then _ _ (functions-forward h count (h.left - 3)) λ _. forward-return _

  named-part : (h : Here) → Forward k words words' (named_part h)
  unfolding named_part
  named-part h = word-then _ _ λ _. forward-word agree _ _

  record_forward : (h : Here) → Forward k words words' (record_node h)
  unfolding record_node
  record_forward h = word-then _ _ λ _. forward-then _ _ (forward-many _ _ (named-part h)) λ values. forward-return _

  array-forward : (h : Here) → Forward k words words' (array h)
  unfolding array
  array-forward h = word-then _ _ λ _. words-then _ _ _ λ members. forward-return _

  -- ── Nodes ──

  abbrev KindForward : Kind → Type 0
  KindForward kind = (h : Here) → Forward k words words' (kind.rest h)

  kinds-forward : Each KindForward node_kinds
  unfolding Each node_kinds
  kinds-forward = (
    atom-forward,
    (
      ident-forward,
      (
        bin-forward,
        (
          unary-forward,
          (
            let_forward,
            (
              fn-forward,
              (
                match-forward,
                (
                  call-forward,
                  (
                    field-forward,
                    (
                      cast-forward,
                      (
                        import_forward,
                        (
                          extern-forward,
                          (
                            record_forward,
                            (array-forward, tt),
                          ),
                        ),
                      ),
                    ),
                  ),
                ),
              ),
            ),
          ),
        ),
      ),
    ),
  )

  kind-forward : (head : ℕ) (h : Here) → Forward k words words' ((node_kind head).rest h)
  unfolding node_kind
  kind-forward head = each_of KindForward node_kinds _ kinds-forward (λ h. forward-return _) (kind_of head)

  node-forward : (c : Counts) (before : List Outline) (i : ℕ) → Forward k words words' (node c before i)
  unfolding node
  node-forward c before i = forward-then _ _ (forward-word agree _ _) λ head. word-then _ _ λ slot. kind-forward head _

  nodes-forward : (c : Counts) (count i : ℕ) (before : List Outline) → Forward k words words' (nodes c count i before)
  unfolding nodes
  nodes-forward c zero i before = forward-return before
  nodes-forward c (suc count) i before = forward-then _ _ (node-forward c before i) λ o. nodes-forward c count (i + 1) (before ++ (o ∷ []))

  -- ── Type records ──

  abbrev TypeForward : TypeKind → Type 0
  TypeForward kind = (c : Counts) (number left : ℕ) → Forward k words words' (kind.rest c number left)

  atom-type : (c : Counts) (number left : ℕ) → Forward k words words' (type_atom c number left)
  unfolding type_atom
  atom-type c number left = word-then _ _ λ _. word-then _ _ λ _. forward-return tt

  foreign-type : (c : Counts) (number left : ℕ) → Forward k words words' (type_foreign c number left)
  unfolding type_foreign
  foreign-type c number left = word-then _ _ λ _. forward-return tt

  inner_type : (c : Counts) (number left : ℕ) → Forward k words words' (type_inner c number left)
  unfolding type_inner
  inner_type c number left = word-then _ _ λ _. forward-return tt

  type-field : (c : Counts) (number : ℕ) → Forward k words words' (type_field c number)
  unfolding type_field
  type-field c number = word-then _ _ λ _. forward-word agree _ _

  record_type : (c : Counts) (number left : ℕ) → Forward k words words' (type_record c number left)
  unfolding type_record
  record_type c number left = word-then _ _ λ _. forward-then _ _ (forward-many _ _ (type-field c number)) λ _. forward-return tt

  types-forward : Each TypeForward type_kinds
  unfolding Each type_kinds
  types-forward = (atom-type, (foreign-type, (inner_type, (inner_type, (record_type, tt)))))

  type-kind : (head : ℕ) → TypeForward (type_kind head)
  unfolding type_kind
  type-kind head = each_of TypeForward type_kinds _ types-forward (λ c number left. forward-return tt) (kind_of head)

  type-forward : (c : Counts) (number : ℕ) → Forward k words words' (type_expression c number)
  unfolding type_expression
  type-forward c number = forward-then _ _ (forward-word agree _ _) λ head. type-kind head c number (payload_of head - 1)

  expressions_forward : (c : Counts) (count number : ℕ) → Forward k words words' (type_expressions c count number)
  unfolding type_expressions
  expressions_forward c zero number = forward-return tt
  expressions_forward c (suc count) number = forward-then _ _ (type-forward c number) λ _. expressions_forward c count (number + 1)

  -- ── The image ──

  image-forward : (t : Texts) → ForwardTo k words words' (λ to. length words' ≤ to) (image t)
  unfolding image
  image-forward t =
      forward-then _ _ (forward-word agree _ _) λ n.
      forward-then _ _ (forward-word agree _ _) λ types.
      forward-then _ _ (forward-word agree _ _) λ r.
      forward-then _ _ (forward-word agree _ _) λ v.
      words-then _ _ _ λ roots.
      forward-then _ _ (nodes-forward _ n 0 []) λ found.
      forward-then _ _ (expressions_forward _ types 0) λ _. forward-ends agree _

-- THE LAWS: the words up to and including the offending word decide it.
pub image_certain : (t : Texts) (words words' : List ℕ) (p : ℕ) → image_fault t words ≡ some p → take (p + 1) words' ≡ take (p + 1) words → image_fault t words' ≡ some p
unfolding image_fault image_read
image_certain t words words' p e a =
    let agree : Agree (p + 1) words words' = record { front = a } in
    long-fault _ _ p (ltb most_bytes (length t.script)) (alike-fault p (omega arith) ((image-forward agree t).alike 0 4 (omega arith))) e

-- It is a word of the image or the image's length, and no later than word 8,192.
pub image-place_in : (t : Texts) (words : List ℕ) (p : ℕ) → image_fault t words ≡ some p → PlaceIn words p
unfolding image_fault image_read
image-place_in t words p e =
    let agree : Agree 0 words words = record { front = refl } in
    long-place _ words p (ltb most_bytes (length t.script)) (place_in words p ((image-forward agree t).onward.inside (length words) (start 4 words) (omega arith) (omega arith))) e

-- "nothing after": where the first n words are an accepted image, a word after them offends, the first. So, with n = 8,192, "a buffer over
-- 8,192 words offends at word 8,192".
pub image-after : (t : Texts) (words : List ℕ) (n : ℕ) → n < length words → image_fault t (take n words) ≡ none → image_fault t words ≡ some n
unfolding image_fault image_read
image-after t words n l e =
    let agree : Agree n (take n words) words = record { front = sym (take-take n n words (omega arith)) } in
    let long : length (take n words) ≡ n = length-take-le n words (omega arith) in
    let reads = image-forward agree t in
    long_after _ _ n (ltb most_bytes (length t.script))
    (alike-after (sym long) l (reads.onward.inside (length (take n words)) (start 4 (take n words)) (omega arith) (omega arith)) (reads.alike 0 4 (omega arith))) e
