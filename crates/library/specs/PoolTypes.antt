-- The types of an accepted library, all the way down: they refer into the pool, their names lie in the library text, and so their trees are
-- the same where pool and texts are lengthened at their ends. By induction on the levels. Assumes nothing.
use Rattle.std.specs.Prelude.{ℕ, zero, suc, ◌+◌, ◌*◌, ◌≤◌, ◌≡◌, List, ◌++◌, length}
use Rattle.std.proofs.Common.{sym, ◌∙◌, arith}
use Rattle.std.proofs.lemmas.List.{take-append-le}
use Rattle.tok.specs.Word.{payload_of}
use Rattle.tok.specs.Text.{longer}
use Rattle.tok.specs.Name.{in_library}
use Rattle.tok.proofs.NameLaws.{good_name-payload}
use Rattle.ptype.specs.Words.{unfolded}
use Rattle.ptype.specs.Inside.{Inside, wrapped, in_field, below, level, Within, Agree, NamesLie, NamesIn}
use Rattle.ptype.proofs.InsideLaws.{backward_within}
use Rattle.ptype.proofs.GrowLaws.{unfolded_grow, unfolded-longer, accepted-lies}
use Rattle.library.specs.Pool.{Pool}
use Rattle.library.specs.TypeWords.{TypeWord, good_type-true}
use Rattle.library.specs.PoolRead.{PoolFine}
use Rattle.library.specs.PoolTrees.{type-refers, pool_backward}

-- a word that refers below an index refers below a larger one
pub type-more : {p : Pool} {own more w : ℕ} → own ≤ more → TypeWord p own w → TypeWord p more w
type-more l t = record {
  kind = t.kind;
  empty = t.empty;
  inner = λ k. record { below = omega (arith, (t.inner k).below); type = (t.inner k).type };
  list = λ k. record { below = omega (arith, (t.list k).below); count = (t.list k).count; whole = omega (arith, (t.list k).whole) };
  name = t.name;
}

module _ {p : Pool} (fine : PoolFine p) where
  -- It refers into the pool.
  pub type-within : (deep w : ℕ) → TypeWord p p.size w → Within p.words p.size deep w
  type-within deep w t = backward_within (pool_backward fine) deep w (type-refers t)

  -- The types inside are type words too.
  pub type-inside : {w v : ℕ} → TypeWord p p.size w → Inside p.words w v → TypeWord p p.size v
  type-inside {w} t (wrapped k) =
      let b = t.inner k in
      type-more (omega (arith, b.below)) (good_type-true p (payload_of w) _ ((fine.each (payload_of w) b.below).type b.type))
  type-inside {w} t (in_field k i l) =
      let b = t.list k in
      type-more (omega (arith, b.whole)) (good_type-true p (payload_of w + 1 + 2 * i + 1) _ (((fine.each (payload_of w) b.below).list b.count).pairs i l).type)

  pub names_lie : {w : ℕ} → TypeWord p p.size w → NamesLie p.texts p.words w
  names_lie {w} t = record {
    own = λ k. accepted-lies p.texts in_library w (t.name k);
    of_fields = λ k i l.
        let b = t.list k in
        accepted-lies p.texts in_library _
        (good_name-payload in_library p.texts.library _ (((fine.each (payload_of w) b.below).list b.count).pairs i l).name);
  }

  -- The names in it lie in the library text.
  pub type-names : (deep w : ℕ) → TypeWord p p.size w → NamesIn p.texts p.words deep w
  type-names zero w t = below
  type-names (suc f) w t = level (names_lie t) (λ v i. type-names f v (type-inside t i))

  -- THE LAW: its tree does not change when texts and pool are lengthened at their ends.
  pub type-kept : (s l more : List ℕ) (deep w : ℕ) → length p.words ≡ p.size → TypeWord p p.size w
      → unfolded (longer p.texts s l) (p.words ++ more) deep w ≡ unfolded p.texts p.words deep w
  type-kept s l more deep w e t =
      let agree : Agree p.size p.words (p.words ++ more) = record { front = sym (take-append-le p.size p.words more (omega arith)) } in
      sym (unfolded-longer p.texts s l p.words (type-names deep w t) ∙ unfolded_grow agree (longer p.texts s l) (type-within deep w t))
