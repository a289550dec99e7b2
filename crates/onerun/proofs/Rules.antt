-- The rules of each node kind, but for the visits of parts. One lemma for each. Assumes nothing.
use Rattle.std.specs.Prelude.{ℕ, ◌+◌, ◌<◌, ◌≡◌, Bool, true, get_or}
use Rattle.std.proofs.Common.{arith, sym, ap, ◌∙◌, true≢false, eqb-true}
use Rattle.std.proofs.Math.Path.{refl}
use Rattle.std.proofs.Math.Bool.{false≢true}
use Rattle.std.proofs.Math.Option.{Option, none, some}
use mathlib.Core.List.{List, [], ◌∷◌}
use Rattle.tok.specs.Word.{kind_of, payload_of}
use Rattle.tok.specs.Step.{return}
use Rattle.tok.specs.declared.Span.{Span}
use Rattle.ptype.specs.Ty.{Ty}
use Rattle.ptype.specs.Words.{unknown_word, field_count}
use Rattle.ptype.specs.Add.{Buffer}
use Rattle.ptype.specs.Kinds.{wraps, names}
use Rattle.err.proofs.WellFormedLaws.{members_differ-well, no_binding-well, let_void-well, no_record-well, no_field_of-well, bad_condition-well, match_cases-well, empty_import-well, no_import-well}
use Rattle.rules.specs.declared.Answer.{Answer}
use Rattle.rules.specs.declared.Answer.TheVariants.{Known, Poison}
use Rattle.rules.specs.World.{World}
use Rattle.rules.specs.Steps.{on_option, set_known, ty, tree, ty_tree}
use Rattle.rules.specs.declared.Member.{Member}
use Rattle.rules.specs.declared.Member.TheVariants.{Alike as alike, Silent as silent, Differs as differs}
use Rattle.rules.specs.Rules.{ident, let_binding, field_type, field, value_type, member_types, member, array_of, condition, Branch, compare_branches, matched, import_one, import_all}
use Rattle.tworuns.specs.Means.{Means}
use Rattle.tworuns.specs.Means as M
use Rattle.onerun.specs.Claim.{Run, All, end, and, OfNames, NameAt, Fine, flat, Good, Bound, poisoned, bound, Recorded, Holds, AnswerOk, poison}
use Rattle.onerun.specs.Claim as C
use Rattle.onerun.specs.Grows.{all_map, typed-names, typed-known}
use Rattle.onerun.specs.Logic.{Claimed, Silent, before, After, Gives, g_next, g_return, g_when, g_option, g_map, g_on_types, g_known, g_if_known, g_set, Own, own-poison, answer-later}
use Rattle.onerun.proofs.Report.{g_report, g_poison}
use Rattle.onerun.proofs.Scope.{Any, g_hold, g_each}
use Rattle.onerun.proofs.Types.{t_wrap_good, unknown-good}
use Rattle.onerun.specs.Inner.{fields-typed}
use Rattle.onerun.specs.Find.{local_found, package_found, field_found}
use Rattle.onerun.proofs.Operators.{slot-good}
use Rattle.onerun.specs.Proper.{ProperNames}

module _ (r : Run) where
  -- where nothing may be Unknown, no kind is
  kind-known : {b : Buffer} {w : ℕ} {x : Ty} → r.clean → Means r.ctx.texts b.words b.used w x → Fine r x → kind_of w ≡ 11 → ⊥
  kind-known q (M.flat e p z) (flat l u) k = u q (sym e ∙ k)
  kind-known q (M.wrapped e h l m) f k = true≢false (sym h ∙ ap wraps (sym e ∙ k))
  kind-known q (M.recorded e l m) f k = let i = sym e ∙ k in omega arith
  kind-known q (M.called e h n) f k = true≢false (sym h ∙ ap names (sym e ∙ k))

  pub g_ident : (n slot name : ℕ) → slot < r.ctx.void → NameAt r name → {s : World} → Claimed r s → Gives r (Own r slot) s (ident r.ctx n slot name s)
  unfolding ident
  g_ident n slot name own m {s} h =
      g_option r _ _ (λ _. g_poison r h n (λ l z. no_binding-well name _ (m l)))
      (λ o e. at o (λ z. local_found r _ (h z).env e))
    where
      of_names : {b : Buffer} → Bound r b none → OfNames r
      of_names (poisoned l) = l

      good : {b : Buffer} {w : ℕ} → Bound r b (some w) → Good r b w
      good (bound g) = g

      at : (o : Option ℕ) → (Silent r s → Bound r s.types o) → Gives r (Own r slot) s (on_option o (return Poison) (λ w. set_known slot w) s)
      at o k = g_option r _ _ (λ e. g_return r h (λ z. own-poison r (of_names (rw e at (k z))))) (λ w e. g_set r slot own h (λ z. good (rw e at (k z))))

  pub g_let : (n name : ℕ) {a : Answer} {s : World} → Claimed r s → (Silent r s → AnswerOk r s a) → Gives r (λ u o. Bound r u.types o) s (let_binding n name a s)
  unfolding let_binding ty
  g_let n name {a = Known a} {s = s} h k =
      g_when r _ _ (λ _. g_next r _ (g_report r h n (λ l z. let_void-well name)) (λ _ u t x. g_return r (λ z. (x z).holds) (λ z. poisoned (x z).value)))
      (λ _. g_return r h (λ z. bound (good (h z) (k z))))
    where
      good : Holds r s → AnswerOk r s (Known a) → Good r s.types (get_or s.slots a 0)
      good h (C.known e) = h.slots a e
  g_let n name {a = Poison} h k = g_return r h (λ z. of_names (k z))
    where
      of_names : {s : World} → AnswerOk r s Poison → Bound r s.types none
      of_names (poison l) = poisoned l

  module _ {s : World} (h : Claimed r s) where
    g_field_type : (slot : ℕ) {w : ℕ} → slot < r.ctx.void → (Silent r s → Good r s.types w) → Gives r (Own r slot) s (field_type slot w s)
    unfolding field_type
    g_field_type slot {w} own g =
        g_when r _ _
        (λ e. let l : Silent r s → OfNames r = λ z q. kind-known q (g z).is.means (g z).is.fine (eqb-true (kind_of w) 11 e) in
        g_next r _ (g_set r slot own h (λ z. unknown-good r s.types (l z))) (λ _ u t x. g_return r (λ z. (x z).holds) (λ z. own-poison r (l (before r t z)))))
        (λ _. g_set r slot own h g)

    pub g_field : (n slot name : ℕ) → slot < r.ctx.void → NameAt r name → {a : ℕ} → (Silent r s → Recorded r s a) → Gives r (Own r slot) s (field r.ctx n slot name a s)
    unfolding field ty tree
    g_field n slot name own m {a} ea =
        let g = slot-good r h ea in
        g_when r _ _
        (λ k. g_option r _ _ (λ _. g_poison r h n (λ l z. no_field_of-well name _ _ (typed-names r (g z) l) (m l)))
        (λ w e. g_field_type slot own (λ z. field_found r _ (field_count s.types.words (get_or s.slots a 0)) (payload_of (get_or s.slots a 0) + 1)
        (fields-typed r (g z) (eqb-true (kind_of (get_or s.slots a 0)) 8 k)) e)))
        (λ _. g_poison r h n (λ l z. no_record-well name _ (typed-names r (g z) l)))

    pub g_value : {a : Answer} → (Silent r s → AnswerOk r s a) → Gives r (λ u w. Good r u.types w) s (value_type a s)
    unfolding value_type ty
    g_value {a = Known a} k = g_return r h (λ z. good (h z) (k z))
      where
        good : Holds r s → AnswerOk r s (Known a) → Good r s.types (get_or s.slots a 0)
        good h (C.known e) = h.slots a e
    g_value {a = Poison} k = g_return r h (λ z. of_names (k z))
      where
        of_names : AnswerOk r s Poison → Good r s.types unknown_word
        of_names (poison l) = unknown-good r s.types l

    pub g_condition : (n token : ℕ) {a : Answer} → (Silent r s → AnswerOk r s a) → Gives r (Any r) s (condition r.ctx n token a s)
    unfolding condition ty_tree ty tree
    g_condition n token k =
        g_if_known r _ h k (λ z. tt) (λ a e. g_when r _ _ (λ _. g_return r h (λ z. tt))
        (λ _. g_map r (λ u _ t x z. tt) (g_report r h n (λ o z. bad_condition-well token _ (typed-names r (slot-good r h e z) o)))))

    pub g_array_of : (n slot : ℕ) → slot < r.ctx.void → {a : Answer} → (Silent r s → AnswerOk r s a)
        → (b : Bool) → (Silent r s → b ≡ true → OfNames r) → Gives r (Own r slot) s (array_of r.ctx n slot a b s)
    unfolding array_of ty
    g_array_of n slot own k b l =
        g_known r _ h k (λ o. own-poison r o) (λ a ea. g_when r _ _ (λ e. g_return r h (λ z. own-poison r (l z e)))
        (λ _. g_next r _ (g_on_types r {Q = Good r} _ h (λ z. t_wrap_good r n 7 _ refl (slot-good r h ea z))) (λ w u t x. g_set r slot own (λ z. (x z).holds) (λ z. (x z).value))))

  -- ── Members of an array ──

  -- a member is alike, or it is names that are claimed
  pub data MemberOk : Member → Type 0 where
    is_alike : MemberOk alike
    is_silent : OfNames r → MemberOk silent
    is_different : OfNames r → MemberOk differs

  g_members : (n : ℕ) (span : Span) (a b : ℕ) {s : World} → Claimed r s → (Silent r s → Good r s.types (get_or s.slots a 0)) → (Silent r s → Good r s.types (get_or s.slots b 0))
      → Gives r (λ _ m. MemberOk m) s (member_types r.ctx n span a b s)
  unfolding member_types ty_tree ty tree
  g_members n span a b h x y =
      g_when r _ _ (λ e. g_return r h (λ z. is_silent (λ q. false≢true (rw (typed-known r (y z) q, typed-known r (x z) q) at e))))
      (λ _. g_when r _ _ (λ _. g_return r h (λ z. is_alike))
      (λ _. g_next r _ (g_report r h n (λ l z. members_differ-well span _ _ (typed-names r (x z) l) (typed-names r (y z) l)))
      (λ _ u t f. g_return r (λ z. (f z).holds) (λ z. is_different (f z).value))))

  pub g_member : (n : ℕ) (span : Span) {a b : Answer} {s : World} → Claimed r s
      → (Silent r s → AnswerOk r s a) → (Silent r s → AnswerOk r s b) → Gives r (λ _ m. MemberOk m) s (member r.ctx n span a b s)
  unfolding member
  g_member n span {a = Known a} {b = Known b} {s = s} h k l = g_members n span a b h (λ z. good (h z) (k z)) (λ z. good (h z) (l z))
    where
      good : {x : ℕ} → Holds r s → AnswerOk r s (Known x) → Good r s.types (get_or s.slots x 0)
      good {x} h (C.known e) = h.slots x e
  g_member n span {a = Known a} {b = Poison} h k l = g_return r h (λ z. of_names (l z))
    where
      of_names : {s : World} → AnswerOk r s Poison → MemberOk silent
      of_names (poison o) = is_silent o
  g_member n span {a = Poison} {b = b} h k l = g_return r h (λ z. of_names (k z))
    where
      of_names : {s : World} → AnswerOk r s Poison → MemberOk silent
      of_names (poison o) = is_silent o

  -- ── Branches of a match ──

  pub record BranchOk (s : World) (b : Branch) : Type 0 where
    pub answer : AnswerOk r s b.answer

  pub branch-later : {A : Type 0} {Q : World → A → Type 0} {s u : World} {a : A} → After r Q s u a → (b : Branch) → BranchOk s b → BranchOk u b
  branch-later h b x = record { answer = answer-later r h x.answer }

  g_branches : (n d : ℕ) (bs : List Branch) {s : World} → Claimed r s → (Silent r s → Recorded r s d) → (Silent r s → All (BranchOk s) bs)
      → Gives r (Any r) s (compare_branches r.ctx n d bs s)
  unfolding compare_branches ty_tree ty tree
  g_branches n d [] h e k = g_return r h (λ z. tt)
  g_branches n d (b ∷ bs) h e k =
      g_next r _
      (g_if_known r {Q = Any r} _ h (λ z. (first (k z)).answer) (λ z. tt) (λ a ea. g_when r _ _ (λ _. g_return r h (λ z. tt))
      (λ _. g_map r (λ u _ t x z. tt) (g_report r h n (λ o z. match_cases-well b.token _ _ (typed-names r (slot-good r h e z) o) (typed-names r (slot-good r h ea z) o))))))
      (λ _ u t x. g_branches n d bs (λ z. (x z).holds) (λ z. (x z).recorded d (e (before r t z))) (λ z. all_map (branch-later (x z)) (rest (k (before r t z)))))
    where
      first : {s : World} → All (BranchOk s) (b ∷ bs) → BranchOk s b
      first (and x xs) = x

      rest : {s : World} → All (BranchOk s) (b ∷ bs) → All (BranchOk s) bs
      rest (and x xs) = xs

  pub g_matched : (n slot : ℕ) → slot < r.ctx.void → (bs : List Branch) {a : Answer} {s : World} → Claimed r s → (Silent r s → All (BranchOk s) bs) → (Silent r s → AnswerOk r s a)
      → Gives r (Own r slot) s (matched r.ctx n slot bs a s)
  unfolding matched ty
  g_matched n slot own bs h k i =
      g_known r _ h i (λ o. own-poison r o) (λ d e. g_next r _ (g_branches n d bs h e k) (λ _ u t x.
      g_set r slot own (λ z. (x z).holds) (λ z. (x z).holds.slots d ((x z).recorded d (e (before r t z))))))

  -- ── Imports ──

  g_import : (n path : ℕ) → NameAt r path → (s : World) → Claimed r s → Gives r (Any r) s (import_one r.ctx n path s)
  unfolding import_one
  g_import n path m s h =
      g_option r _ _
      (λ _. g_option r _ _ (λ _. g_map r (λ u _ t x z. tt) (g_report r h n (λ l z. no_import-well path _ (m l)))) (λ p e. g_hold r p h (λ z. package_found r _ (h z).library e)))
      (λ _ _. g_return r h (λ z. tt))

  names-all : (P : ℕ → Type 0) (ps : List ℕ) → ProperNames P (NameAt r) ps → All (NameAt r) ps
  unfolding ProperNames
  names-all P [] h = end
  names-all P (p ∷ ps) h = and h.0 (names-all P ps h.1)

  pub g_imports : (P : ℕ → Type 0) (n token : ℕ) (ps : List ℕ) → ProperNames P (NameAt r) ps → {s : World} → Claimed r s → Gives r (Any r) s (import_all r.ctx n token ps s)
  unfolding import_all
  g_imports P n token [] m h = g_map r (λ u _ t x z. tt) (g_report r h n (λ l z. empty_import-well token))
  g_imports P n token (p ∷ ps) m h =
      g_next r _ (g_each r (NameAt r) (λ b x. Unit {0}) (λ b d g x y. tt) _ (λ a i s k. g_import n a i s k) (names-all P (p ∷ ps) m) h) (λ _ u t x. g_return r (λ z. (x z).holds) (λ z. tt))
