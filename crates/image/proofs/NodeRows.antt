-- The nodes one after the other, as the code's loop reads them: the list of outlines that the definition collects, and which of them may
-- be called, which the code keeps. Assumes nothing.
use Prim.Native.Nat.{ℕ, suc, ◌+◌, ◌-◌, ◌≤◌, ◌<◌}
use mathlib.Core.Path.{◌≡◌, refl, sym, ap, ◌∙◌}
use mathlib.Core.Bool.{Bool, false, ◌||◌}
use mathlib.Core.List.{List, [], ◌∷◌, ◌++◌}
use native.Mathlib.Nat.{not-suc-le-zero}
use native.Mathlib.Omega.{arith}
use native.Mathlib.Decide.{dec_lt}
use lib.Dec.{eqb}
use lib.ListN.{length, set, length-append, get_or-append}
use lib.Seq.{get_or-set_same, get_or-set_other, get_or_at}
use Rattle.tok.specs.Word.{kind_of}
use Rattle.std.specs.Prelude.{Ok, Err}
use Rattle.reader.specs.declared.Fault.{Fault}
use Rattle.reader.specs.Reading.{Reader, next_word, gave, Comes}
use Rattle.ast.specs.Outline.{Outline, Counts}
use Rattle.ast.specs.NodeRecords.{no_node, callable}
use Rattle.ast.specs.Nodes.{node, nodes}
use Rattle.image_laws.specs.OutlineAt.{outline_from}
use Rattle.image_words.specs.Leads.{unanswered, Leads, Left}
use Rattle.image_nodes.specs.Site.{Kept}

-- the loop before node i: the outlines of the nodes before, of which it is kept whether they may be called; and what the others lead to, all lead to
pub record Before (from : Reader) (c : Counts) (n : ℕ) (called : List Bool) (to : Reader) (i : ℕ) : Type 0 where
  pub outlines : List Outline
  pub many : length outlines ≡ i
  pub kept : Kept called outlines i
  pub rest : Left from (nodes c n 0 []) to (nodes c (n - i) i outlines)

pub at_first : {from : Reader} {c : Counts} {n : ℕ} (called : List Bool) → Before from c n called from 0
at_first {n = n} called =
    let e : n - 0 ≡ n = omega arith in
    record { outlines = []; many = refl; kept = record { kept = λ p h. absurd (not-suc-le-zero h) }; rest = (rw e refl, refl) }

-- one more
keep : (called : List Bool) (before : List Outline) (i : ℕ) (o : Outline) → length before ≡ i → i < length called → Kept called before i
    → Kept (set called i (callable o)) (before ++ (o ∷ [])) (i + 1)
keep called before i o e fits k =
    record {
      kept =
          λ p h. elim (dec_lt p i) [
            | yes l ↦
                get_or-set_other called i p (callable o) false (λ q. omega arith) ∙ k.kept p l
                ∙ ap callable (sym (get_or-append before (o ∷ []) no_node p (rw e l)))
            | no l ↦
                let q : p ≡ i = omega arith in
                rw q (get_or-set_same called i (callable o) false fits ∙ ap callable (sym (get_or_at before o [] no_node i e)))
          ];
    }

module _ {from to : Reader} {c : Counts} {n : ℕ} {called : List Bool} {i : ℕ} (b : Before from c n called to i) where
  module _ (h : i < n) where
    pub one_more : (mid : Reader) (may : Bool) → i < length called → may ≡ (eqb (kind_of (next_word to)) 1 || eqb (kind_of (next_word to)) 8)
        → ((before : List Outline) → Kept called before i → Comes to (node c before i) (outline_from to.words to.at) (Ok mid))
        → Before from c n (set called i may) mid (i + 1)
    unfolding nodes gave
    one_more mid may fits k read =
        let o : Outline = outline_from to.words to.at in
        let e : n - i ≡ suc (n - (i + 1)) = omega arith in
        record {
          outlines = b.outlines ++ (o ∷ []);
          many = length-append b.outlines (o ∷ []) ∙ rw b.many refl;
          kept = rw k (keep called b.outlines i o b.many fits b.kept);
          rest = let r = read b.outlines b.kept in (rw (e, r.0) at b.rest.0, r.1 ∙ b.rest.1);
        }

    pub stops_there : (fault : Fault)
        → ((before : List Outline) → Kept called before i → Comes to (node c before i) (outline_from to.words to.at) (Err fault))
        → Leads from (nodes c n 0 []) (Err fault)
    unfolding nodes gave unanswered
    stops_there fault read =
        let e : n - i ≡ suc (n - (i + 1)) = omega arith in
        (sym (rw (e, (read b.outlines b.kept).0) at b.rest.0), tt)

  pub at_last : n ≤ i → Leads from (nodes c n 0 []) (Ok to)
  unfolding nodes gave unanswered
  at_last h = let e : n - i ≡ 0 = omega arith in (sym (rw e at b.rest.0), b.rest.1)
