-- Where the loops over fields stand, over variables for what the calls gave: `it` are the fields that are left of `fs`. By unfolding the
-- definitions, the laws of a Record added in parts, and that of sizes. Assumes nothing.
use Rattle.std.specs.Prelude.{ℕ, ◌+◌, ◌*◌, ◌≤◌, ◌<◌, ◌≡◌, refl, List, [], ◌∷◌, length, max, Ok, Err}
use Rattle.std.proofs.Common.{arith, sym, ap, ◌∙◌}
use Rattle.tok.specs.Word.{payload_of}
use Rattle.tok.specs.Text.{Texts, texts_of}
use Rattle.tok.specs.Step.{Result, ok, refused, Step, Refusal, next, return}
use Rattle.ptype.specs.Add.{Buffer, write, add_record}
use Rattle.add.specs.declared.AddError.{AddError}
use Rattle.add.specs.declared.Arena.{Arena}
use Rattle.add.specs.Answer.{buffer_of, Allocates}
use Rattle.add.specs.Goes.{Goes, goes_all, goes_next}
use Rattle.add.specs.Parts.{opened, paired, record_from}
use Rattle.add.specs.StepLaws.{next-ok}
use Rattle.add.specs.WriteLaws.{write_nil, write-append, length-write}
use Rattle.ast.specs.TypeExpr.{no_type, type_field}
use Rattle.ast.specs.TypeFrom.{type_from, fields_from_exprs}
use Rattle.places.specs.Levels.{levels_of, most_levels}
use Rattle.type_expr.specs.Trees.{Numbered, tree, trees}
use Rattle.type_expr.specs.LevelLaws.{Atoms, deep-refused}
use Rattle.type_expr.specs.Onward.{Onward}
use Rattle.type_expr.specs.Sizes.{fields_in, size_of, sizes_of, word_before, pairs_after}
use Rattle.type_expr.specs.SizeLaws.{opened-room, size-fields}

abbrev pub Listed : Type 0
Listed = List (ℕ × Numbered)

-- the fields that are left are a field and others
pub trees-first : {it rest : Listed} {name : ℕ} {x : Numbered} → it ≡ (name, x) ∷ rest → trees it ≡ type_field name (tree x) (trees rest)
unfolding trees
trees-first e = rw e

pub trees_none : {it : Listed} → it ≡ [] → trees it ≡ no_type
unfolding trees
trees_none e = rw e

pub most-first : {it rest : Listed} {name : ℕ} {x : Numbered} → it ≡ (name, x) ∷ rest → most_levels (trees it) ≡ max (levels_of (tree x)) (most_levels (trees rest))
unfolding levels_of
most-first e = ap most_levels (trees-first e)

pub most-none : {it : Listed} → it ≡ [] → most_levels (trees it) ≡ 0
unfolding levels_of
most-none e = ap most_levels (trees_none e)

pub sizes-first : {it rest : Listed} {name : ℕ} {x : Numbered} → it ≡ (name, x) ∷ rest → sizes_of (trees it) ≡ size_of (tree x) + sizes_of (trees rest)
unfolding size_of
sizes-first e = ap sizes_of (trees-first e)

pub sizes_none : {it : Listed} → it ≡ [] → sizes_of (trees it) ≡ 0
unfolding size_of
sizes_none e = ap sizes_of (trees_none e)

pub fields-long : (fs : Listed) → fields_in (trees fs) ≡ length fs
unfolding trees fields_in
fields-long [] = refl
fields-long (p ∷ ps) = omega (arith, fields-long ps)

module _ (T : Texts) (n : ℕ) where
  abbrev pub steps : Listed → Step Buffer Refusal (List ℕ)
  steps fs = fields_from_exprs T n (trees fs)

  pub first-is : {it rest : Listed} {name : ℕ} {x : Numbered} (b : Buffer) → it ≡ (name, x) ∷ rest
      → steps it b ≡ next (type_from T n (tree x) b) (λ new s. next (steps rest s) (λ others. return (name ∷ new ∷ others)))
  unfolding fields_from_exprs
  first-is b e = ap (λ f. fields_from_exprs T n f b) (trees-first e)

  -- two words for each field
  pub two-each : (fs : Listed) (b : Buffer) (pairs : List ℕ) (b' : Buffer) → steps fs b ≡ ok pairs b' → length pairs ≡ 2 * length fs
  unfolding trees fields_from_exprs
  two-each [] b pairs b' e =
      let h : [] ≡ pairs = cc in
      rw (← h)
  two-each (p ∷ ps) b pairs b' e =
      let rest : ℕ → Step Buffer Refusal (List ℕ) = λ new s. next (steps ps s) (λ others. return (p.0 ∷ new ∷ others)) in
      let x = next-ok (type_from T n (tree p.1) b) rest pairs b' e in
      let y = next-ok (steps ps x.1) (λ others. return (p.0 ∷ x.0 ∷ others)) pairs b' x.3 in
      let l : p.0 ∷ x.0 ∷ y.0 ≡ pairs = cc y.3 in
      rw (← l) (omega (arith, two-each ps x.1 y.0 y.1 y.2))

-- After the loop: the pairs are those that go by the words used.
module _ (T : Texts) (n : ℕ) (fs it : Listed) (b b' : Buffer) (h : Goes (steps T n fs b) (steps T n it b')) (z : it ≡ []) where
  whole_is : steps T n fs b ≡ ok (h.before []) b'
  unfolding fields_from_exprs trees
  whole_is = h.is ∙ rw z

  used-after : b'.used ≡ b.used + sizes_of (trees fs)
  used-after = (size-fields T n (trees fs) b (h.before []) b' whole_is).used

  after_is : steps T n fs b ≡ ok (pairs_after b.used (trees fs)) b'
  after_is = whole_is ∙ rw (size-fields T n (trees fs) b (h.before []) b' whole_is).are

-- the types of those before are added
pub record Building (fs : Listed) (a₀ : Arena) (it : Listed) (a : Arena) : Type 0 where
  pub goes : (T : Texts) (n : ℕ) → Goes (steps T n fs (buffer_of a₀)) (steps T n it (buffer_of a))
  pub lent : a.words.ghost_name ≡ a₀.words.ghost_name
  pub keeps : length a.words.now ≡ length a₀.words.now
  pub most : most_levels (trees it) ≤ most_levels (trees fs)

pub building_all : (a : Arena) {fs it : Listed} → it ≡ fs → Building fs a it a
building_all a e = rw e record { goes = λ T n. goes_all _; lent = refl; keeps = refl; most = omega arith }

abbrev pub record-steps : Listed → Texts → (n : ℕ) → Step Buffer Refusal ℕ
record-steps fs T n = record_from n (length fs) 0 (steps T n fs)

module _ {fs it : Listed} {a₀ a : Arena} (h : Building fs a₀ it a) where
  module _ {rest : Listed} {name : ℕ} {x : Numbered} (e : it ≡ (name, x) ∷ rest) where
    pub building_levels : levels_of (tree x) ≤ most_levels (trees fs)
    building_levels = omega (arith, h.most, most-first e)

    module _ {a₁ : Arena} where
      pub building_stop : {y : AddError} → Allocates (λ T n. type_from T n (tree x)) a (Err y) a₁ → Allocates (record-steps fs) a₀ (Err y) a₁
      unfolding record_from
      building_stop g = record { lent = g.lent ∙ h.lent; keeps = g.keeps ∙ h.keeps; result = λ T n. rw ((h.goes T n).is, first-is T n (buffer_of a) e, g.result T n) }

      pub building_next : {w : ℕ} → Allocates (λ T n. type_from T n (tree x)) a (Ok w) a₁ → Building fs a₀ rest a₁
      building_next {w} g = record {
        goes = λ T n. goes_next (steps T n rest) name w (buffer_of a₁) (h.goes T n) (first-is T n (buffer_of a) e ∙ rw (g.result T n));
        lent = g.lent ∙ h.lent;
        keeps = g.keeps ∙ h.keeps;
        most = omega (arith, h.most, most-first e);
      }

  module _ (z : it ≡ []) {a₁ : Arena} where
    pub record_stop : {y : AddError} → Allocates (λ T n. opened n (length fs)) a (Err y) a₁ → Allocates (record-steps fs) a₀ (Err y) a₁
    unfolding record_from
    record_stop g = record { lent = g.lent ∙ h.lent; keeps = g.keeps ∙ h.keeps; result = λ T n. rw (after_is T n fs it (buffer_of a₀) (buffer_of a) (h.goes T n) z, g.result T n) }

    module _ {w : ℕ} (g : Allocates (λ T n. opened n (length fs)) a (Ok w) a₁) where
      pub record_room : a₀.used + sizes_of (trees fs) ≤ 8192
      record_room =
          let T = texts_of [] [] in
          omega (arith, used-after T 0 fs it (buffer_of a₀) (buffer_of a) (h.goes T 0) z, opened-room 0 (length fs) a.words.now a.used w (buffer_of a₁) (g.result T 0))

      pub record_put : {q : ℕ} {a₂ : Arena} → q ≡ payload_of w → a₂.words.ghost_name ≡ a₁.words.ghost_name → a₂.used ≡ a₁.used
          → a₂.words.now ≡ write a₁.words.now (q + 1) (pairs_after a₀.used (trees fs)) → Allocates (record-steps fs) a₀ (Ok w) a₂
      unfolding record_from paired
      record_put {q} hq el eu h₂ =
          let place : payload_of w + 1 + 2 * 0 ≡ payload_of w + 1 = omega arith in
          record {
            lent = el ∙ g.lent ∙ h.lent;
            keeps = ap length h₂ ∙ length-write a₁.words.now (q + 1) (pairs_after a₀.used (trees fs)) ∙ g.keeps ∙ h.keeps;
            result = λ T n. rw (after_is T n fs it (buffer_of a₀) (buffer_of a) (h.goes T n) z, g.result T n, h₂, eu, hq, place);
          }

-- the pairs of those before are set: all that are written are those of the fields that are left, written from `to` on over what was set
pub record Writing (fs : Listed) (l₀ : List ℕ) (used place : ℕ) (it : Listed) (l : List ℕ) (end to : ℕ) : Type 0 where
  pub fits : end + sizes_of (trees it) ≤ 8192
  pub room : to + 2 * length it ≡ place + 2 * length fs
  pub is : write l₀ place (pairs_after used (trees fs)) ≡ write l to (pairs_after end (trees it))

pub writing_all : (l : List ℕ) {used place : ℕ} {fs it : Listed} → it ≡ fs → used + sizes_of (trees fs) ≤ 8192 → Writing fs l used place it l used place
writing_all l e f = rw e record { fits = f; room = refl; is = refl }

module _ {fs : Listed} {l₀ : List ℕ} {used place : ℕ} {it : Listed} {l : List ℕ} {end to : ℕ} (h : Writing fs l₀ used place it l end to) where
  pub writing_end : it ≡ [] → l ≡ write l₀ place (pairs_after used (trees fs))
  unfolding pairs_after
  writing_end z = sym (h.is ∙ rw (trees_none z) (write_nil l to))

  module _ {rest : Listed} {name : ℕ} {x : Numbered} (e : it ≡ (name, x) ∷ rest) where
    pub writing_fits : end + size_of (tree x) ≤ 8192
    writing_fits = omega (arith, h.fits, sizes-first e)

    pub writing_room : to + 2 ≤ place + 2 * length fs
    writing_room = omega (arith, h.room, ap length e)

    pub writing_next : {size w : ℕ} {l' : List ℕ} → size ≡ size_of (tree x) → w ≡ word_before (end + size) (tree x) → l' ≡ write l to (name ∷ w ∷ [])
        → Writing fs l₀ used place rest l' (end + size) (to + 2)
    unfolding pairs_after
    writing_next {size} {w} es ew el =
        let after = pairs_after (end + size) (trees rest) in
        record {
          fits = omega (arith, h.fits, es, sizes-first e);
          room = omega (arith, h.room, ap length e);
          is = h.is ∙ rw (trees-first e, ← es, ← ew, el) (write-append l to (name ∷ w ∷ []) after);
        }

-- one of the fields that are left has more than 32 levels
pub record Before (fs : Listed) (a₀ : Arena) (it : Listed) (a : Arena) : Type 0 where
  pub building : Building fs a₀ it a
  pub deep : 32 < most_levels (trees it)

module _ {fs it : Listed} {a₀ a : Arena} (h : Before fs a₀ it a) where
  -- the steps of the Record
  abbrev whole : Texts → (n : ℕ) → Step Buffer Refusal ℕ
  whole T n b = next (steps T n fs b) (add_record T n)

  pub before-end : it ≡ [] → ⊥
  before-end z = omega (arith, most-none z, h.deep)

  module _ {rest : Listed} {name : ℕ} {x : Numbered} (e : it ≡ (name, x) ∷ rest) {levels : ℕ} (f : (levels ≡ levels_of (tree x)) × Atoms (tree x)) where
    -- this one is too deep: what it meets is what the Record meets
    pub before-deep : 32 < levels → Onward (1 + most_levels (trees fs)) whole a₀ (Ok x) a
    before-deep d = record {
      lent = h.building.lent;
      keeps = h.building.keeps;
      is = λ T n. meets T n (type_from T n (tree x) (buffer_of a)) refl;
      part = λ p z. let y : ◌≡◌ {A = Numbered} x p = cc in rw y at below;
    }
      where
        below : levels_of (tree x) < 1 + most_levels (trees fs)
        below = omega (arith, building_levels h.building e)

        meets : (T : Texts) (n : ℕ) (r : Result Buffer Refusal ℕ) → type_from T n (tree x) (buffer_of a) ≡ r → whole T n (buffer_of a₀) ≡ type_from T n (tree x) (buffer_of a)
        meets T n (ok w b) z = absurd (deep-refused T n (tree x) (buffer_of a) w b f.1 (omega (arith, f.0)) z)
        meets T n (refused y) z = rw ((h.building.goes T n).is, first-is T n (buffer_of a) e, z)

    module _ (d : levels ≤ 32) {a₁ : Arena} where
      pub before-stop : {y : AddError} → Allocates (λ T n. type_from T n (tree x)) a (Err y) a₁ → Onward (1 + most_levels (trees fs)) whole a₀ (Err y) a₁
      before-stop g = record {
        lent = g.lent ∙ h.building.lent;
        keeps = g.keeps ∙ h.building.keeps;
        is = λ T n. rw ((h.building.goes T n).is, first-is T n (buffer_of a) e, g.result T n);
        part = λ p z. let y : ◌≡◌ {A = ℕ} 0 1 = cc in absurd (omega arith);
      }

      pub before-next : {w : ℕ} → Allocates (λ T n. type_from T n (tree x)) a (Ok w) a₁ → Before fs a₀ rest a₁
      before-next g = record { building = building_next h.building e g; deep = omega (arith, h.deep, most-first e, f.0) }
