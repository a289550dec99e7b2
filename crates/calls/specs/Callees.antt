-- What a call's target says, by the words of the image, and the rule of a call as its visits and what comes after them. Definitions and laws.
-- Assumes nothing.
use Rattle.std.specs.Prelude.{ℕ, zero, suc, ◌+◌, ◌≤◌, ◌≡◌, refl, Bool, false, ◌||◌, List, get_or}
use Rattle.std.proofs.Math.Path.{sym, ap}
use Rattle.std.proofs.Common.{◌∙◌, true≢false, arith, ne_eqb, eqb-true}
use Rattle.std.proofs.Math.Bool.{true}
use Rattle.std.proofs.Math.Dec.{eqb}
use Rattle.tok.specs.Word.{kind_of}
use Rattle.tok.specs.Step.{◌>>=◌, return}
use Rattle.ast.specs.Image.{word_at, node_place, record_kind}
use Rattle.ast.specs.Node.{Node, readers, read_absent, tree_within, tree_of}
use Rattle.image_laws.specs.OutlineAt.{outline_at}
use Rattle.image_laws.specs.RecordWords.{CallWords}
use Rattle.places.specs.Readable.{node-there}
use Rattle.places.specs.NodesAt.{NodeReady, counts_of, part-ready, record_room, node-ident, node-field, words-call, words-field}
use Rattle.onerun.specs.Proper.{ProperCallee}
use Rattle.rules.specs.declared.Answer.{Answer}
use Rattle.rules.specs.declared.Answer.TheVariants.{Poison}
use Rattle.rules.specs.World.{Ctx, World, Walk}
use Rattle.rules.specs.Calls.{Callee, own_function, package_function, through_field, no_callee, field_callee, callee_of, Provided, resolve_call, resolve_pkg_call, call}
use Rattle.calls.specs.declared.Target.{Target}
use Rattle.calls.specs.declared.Target.TheVariants.{Own, OfPackage, Field}

-- the target of the call at word `at`
abbrev pub callee_at : (image : List ℕ) → (at : ℕ) → Callee
callee_at image at = callee_of (tree_of image (word_at image (at + 2)))

-- as the code tells it
abbrev pub target_callee : Target → Callee
target_callee (Own name) = own_function name
target_callee (OfPackage pkg name) = package_function pkg name
target_callee (Field name) = through_field name

unfoldable pub is_through_field : Callee → Bool
is_through_field (own_function name) = false
is_through_field (package_function pkg name) = false
is_through_field (through_field name) = true
is_through_field no_callee = false

-- The Call arm once all arguments are visited, of whether one is poisoned. The last two visit none, and are never asked for.
unfoldable pub call_end : Ctx → (n slot : ℕ) → Callee → List Provided → (poisoned : Bool) → Walk Answer
call_end c n slot (own_function name) given poisoned = resolve_call c n slot name given
call_end c n slot (package_function pkg name) given poisoned = resolve_pkg_call c n slot pkg name given poisoned
call_end c n slot (through_field name) given poisoned = return Poison
call_end c n slot no_callee given poisoned = return Poison

-- The record of a call stands at a place.
pub record CallAt (image places : List ℕ) (at : ℕ) : Type 0 where
  pub node : ℕ
  pub ready : NodeReady image places node
  pub place : at ≡ get_or places node 0
  pub kind : kind_of (get_or image at 0) ≡ 7

-- and it is a call through a field
pub record FieldCall (image places : List ℕ) (at : ℕ) : Type 0 where
  pub call : CallAt image places at
  pub through : is_through_field (callee_at image at) ≡ true

-- ── The rule, by its callee ──

pub call-parts : (c : Ctx) (n slot : ℕ) (f : Callee) (given : List Provided) (visits : Walk Bool) (s : World) → is_through_field f ≡ false → (P N : ℕ → Type 0) → ProperCallee P N f
    → call c n slot f given visits s ≡ ◌>>=◌ visits (call_end c n slot f given) s
unfolding is_through_field call_end call ProperCallee
call-parts c n slot (own_function name) given visits s h P N k = refl
call-parts c n slot (package_function pkg name) given visits s h P N k = refl
call-parts c n slot (through_field name) given visits s h P N k = absurd (true≢false h)
call-parts c n slot no_callee given visits s h P N k = absurd k

-- ── The target, as the code finds it ──

-- a node that is no Ident
no-ident : (name k : ℕ) → (k ≡ 1 → ⊥) → (go : ℕ → Node) (image : List ℕ) (n at : ℕ) → field_callee name (get_or readers k read_absent go image n at) ≡ through_field name
unfolding field_callee readers
no-ident name zero d go image n at = refl
no-ident name (suc zero) d go image n at = absurd (d refl)
no-ident name (suc (suc zero)) d go image n at = refl
no-ident name (suc (suc (suc zero))) d go image n at = refl
no-ident name (suc (suc (suc (suc zero)))) d go image n at = refl
no-ident name (suc (suc (suc (suc (suc zero))))) d go image n at = refl
no-ident name (suc (suc (suc (suc (suc (suc zero)))))) d go image n at = refl
no-ident name (suc (suc (suc (suc (suc (suc (suc zero))))))) d go image n at = refl
no-ident name (suc (suc (suc (suc (suc (suc (suc (suc zero)))))))) d go image n at = refl
no-ident name (suc (suc (suc (suc (suc (suc (suc (suc (suc zero))))))))) d go image n at = refl
no-ident name (suc (suc (suc (suc (suc (suc (suc (suc (suc (suc zero)))))))))) d go image n at = refl
no-ident name (suc (suc (suc (suc (suc (suc (suc (suc (suc (suc (suc zero))))))))))) d go image n at = refl
no-ident name (suc (suc (suc (suc (suc (suc (suc (suc (suc (suc (suc (suc zero)))))))))))) d go image n at = refl
no-ident name (suc (suc (suc (suc (suc (suc (suc (suc (suc (suc (suc (suc (suc zero))))))))))))) d go image n at = refl
no-ident name (suc (suc (suc (suc (suc (suc (suc (suc (suc (suc (suc (suc (suc (suc k)))))))))))))) d go image n at = refl

field-of-other : (image : List ℕ) (name n : ℕ) → (record_kind image (node_place image n) ≡ 1 → ⊥) → field_callee name (tree_of image n) ≡ through_field name
unfolding tree_of tree_within
field-of-other image name n d = no-ident name (record_kind image (node_place image n)) d (tree_within image n) image n (node_place image n)

-- the other of two kinds
second-kind : (k : ℕ) → (k ≡ 1 → ⊥) → (eqb k 1 || eqb k 8) ≡ true → k ≡ 8
second-kind k d h = eqb-true k 8 (rest (eqb k 1) (ne_eqb k 1 d) h)
  where
    rest : (a : Bool) {b : Bool} → a ≡ false → (a || b) ≡ true → b ≡ true
    rest true e f = absurd (true≢false e)
    rest false e f = f

-- The target t, whose record begins at p.
module _ {image places : List ℕ} {at : ℕ} (c : CallAt image places at) {t p : ℕ} (et : t ≡ get_or image (at + 2) 0) (ep : p ≡ get_or places t 0) where
  words-here : CallWords (counts_of c.ready) image c.node at
  words-here = words-call c.ready c.place refl refl c.kind

  target : NodeReady image places t
  target = (part-ready c.ready words-here.target et).ready

  -- an Ident
  pub callee_own : record_kind image p ≡ 1 → callee_at image at ≡ own_function (get_or image (p + 2) 0)
  unfolding callee_of
  callee_own q = ap (λ i. callee_of (tree_of image i)) (sym et) ∙ ap callee_of (node-ident target ep refl refl q)

  module _ (d : record_kind image p ≡ 1 → ⊥) where
    -- "target (Ident or Field)"
    is_field : record_kind image p ≡ 8
    unfolding outline_at
    is_field =
        let e : node_place image t ≡ p = sym (node-there target.readable target.below ep) in
        let w : (eqb (record_kind image (node_place image t)) 1 || eqb (record_kind image (node_place image t)) 8) ≡ true = rw (← et) at words-here.callable in
        second-kind (record_kind image p) d (rw e at w)

    of_field : callee_at image at ≡ field_callee (get_or image (p + 3) 0) (tree_of image (get_or image (p + 2) 0))
    unfolding callee_of
    of_field = ap (λ i. callee_of (tree_of image i)) (sym et) ∙ ap callee_of (node-field target ep refl refl is_field)

    -- a Field of the node x, whose record begins at q
    module _ {x q : ℕ} (ex : x ≡ get_or image (p + 2) 0) (eq : q ≡ get_or places x 0) where
      inner : NodeReady image places x
      inner = (part-ready target (words-field target ep refl refl is_field).target ex).ready

      pub callee_package : record_kind image q ≡ 1 → callee_at image at ≡ package_function (get_or image (q + 2) 0) (get_or image (p + 3) 0)
      unfolding field_callee
      callee_package i = of_field ∙ ap (λ m. field_callee (get_or image (p + 3) 0) (tree_of image m)) (sym ex) ∙ ap (field_callee (get_or image (p + 3) 0)) (node-ident inner eq refl refl i)

      pub callee_field : (record_kind image q ≡ 1 → ⊥) → callee_at image at ≡ through_field (get_or image (p + 3) 0)
      callee_field i =
          let e : q ≡ node_place image x = node-there inner.readable inner.below eq in
          of_field
          ∙ ap (λ m. field_callee (get_or image (p + 3) 0) (tree_of image m)) (sym ex)
          ∙ field-of-other image (get_or image (p + 3) 0) x (λ z. i (ap (record_kind image) e ∙ z))
