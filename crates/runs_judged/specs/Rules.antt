-- Rules of the miniature, but for the visits of parts: what each leaves is what is judged. One lemma for each. Assumes nothing.
use Rattle.std.specs.Prelude.{ℕ, ◌+◌, ◌≤◌, ◌<◌, Bool, false, ◌&&◌, ◌||◌, List, ◌∷◌, leb, get_or}
use native.Mathlib.Omega.{arith}
use Rattle.std.proofs.Math.Path.{◌≡◌, refl, sym, ap}
use Rattle.std.proofs.Common.{◌∙◌}
use Rattle.std.proofs.Math.Bool.{true, and-eq-true_iff}
use Rattle.std.proofs.Math.Logic.{inl, inr}
use Rattle.std.proofs.Math.Option.{Option, none, some}
use Rattle.std.proofs.Math.Dec.{eqb}
use borrow.Author.Tests.{eqb-true, eqb-false}
use Rattle.tok.specs.Word.{kind_of, payload_of, word_of}
use Rattle.tok.specs.Text.{name_bytes, same_bytes}
use Rattle.tok.specs.Step.{ok}
use Rattle.ast.specs.TypeExpr.{TypeExpr, AtomType, ForeignType, OptionType, ArrayType, RecordType}
use Rattle.ast.specs.TypeFrom.{type_from}
use Rattle.tok.proofs.WordLaws.{kind_of-word_of}
use Rattle.ptype.specs.Ty.{Ty, Fields, plain, rec, depth_of, deepest, kind_of_ty}
use Rattle.ptype.specs.Words.{ty_of, unknown_word, field_count}
use Rattle.ptype.specs.Add.{Buffer}
use Rattle.ptype.specs.Kinds.{one_of}
use Rattle.rules.specs.declared.Answer.{Answer}
use Rattle.rules.specs.declared.Answer.TheVariants.{Known}
use Rattle.rules.specs.World.{Ctx, Local, World, with_env}
use Rattle.rules.specs.Steps.{Done, ty, tree, type_from_expr, env_get, env_insert}
use Rattle.rules.specs.Operators.{result_kind, fuse, unary, castable, cast}
use Rattle.rules.specs.Rules.{ident, let_binding, find_field, field_type, field}
use Rattle.tworuns.specs.Means as M
use Rattle.tworuns.specs.Operators.{plain-low, result_low}
use Rattle.onerun.specs.Claim.{NameAt, Is, Good, Bound, poisoned, bound, Recorded, Holds, AnswerOk}
use Rattle.onerun.specs.Claim as C
use Rattle.onerun.specs.Grows.{is-tree}
use Rattle.onerun.specs.Logic.{Claimed, Silent, before, Gives, gives, g_next, g_return, g_when, g_option}
use Rattle.onerun.proofs.Scope.{g_insert}
use Rattle.onerun.proofs.Types.{low-good}
use Rattle.onerun.specs.Find.{local_found, field_found}
use Rattle.onerun.specs.Inner.{fields-typed}
use Rattle.runs_laws.specs.Judged.{type_found, field_ty, BinOk, UnaryOk, CastOk, FieldOk}
use Rattle.runs_laws.specs.Values.{castable-to}
use Rattle.rules.specs.Functions.{type_meant}
use Rattle.runs.specs.Running.{cast_kind}
use Rattle.onerun.specs.Proper.{ProperType}
use Rattle.onerun.proofs.Functions.{Below}
use Rattle.runs_judged.specs.Exprs.{t_expr}
use Rattle.runs_laws.specs.Judged as J
use Rattle.runs_judged.specs.Claim.{silent, Same, OwnAnswer, is_known, is_poison, Fixed, Tells, earlier, h_map, h_report}
use Rattle.runs_judged.specs.Claim.{h_poison, told-set, no-poison, Built, h_on_types, h_set, EnvRel, no_local, one_local}

-- a word of nothing but a kind
pub low-tree : (c : Ctx) (b : Buffer) (k : ℕ) → 1 ≤ k → k ≤ 5 → ty_of c.texts b.words (word_of k 0) ≡ plain k
unfolding depth_of
low-tree c b k l h = M.means-ty_of {used = b.used} (M.flat (kind_of-word_of k 0 (omega arith)) (plain-low k h) (λ e. rw e)) (omega arith)

bin-ok : (op : ℕ) {l r x : Ty} {a b : ℕ} → kind_of_ty l ≡ a → kind_of_ty r ≡ b → (result_kind op a b ≡ 0 → ⊥) → x ≡ plain (result_kind op a b) → BinOk op l r x
bin-ok op p q h e = record { has = rw (p, q) h; is = rw (p, q) e }

unary-ok : (op : ℕ) {r x : Ty} {a : ℕ} → kind_of_ty r ≡ a → (leb op 1 && (eqb a 3 || eqb a 4)) ≡ true → x ≡ plain a → UnaryOk op r x
unary-ok op p h e = record { has = rw p h; is = rw p e }

module _ (c : Ctx) (type : ℕ → Ty) where
  -- the kind of a type that a slot has
  pub type-kind : {s : World} {a : ℕ} → Holds (silent c) s → Recorded (silent c) s a → Fixed c type s → kind_of_ty (type a) ≡ kind_of (get_or s.slots a 0)
  type-kind {s} {a} h e f = let g = h.slots a e in ap kind_of_ty (f.at a e ∙ is-tree (silent c) g.is) ∙ sym (M.means-kind g.is.means)

  -- what a rule leaves: its own slot has a type, the names in scope are as they were
  pub record Rule (slot : ℕ) (s : World) (Ok : Type 0) (u : World) (a : Answer) : Type 0 where
    pub ok : Ok
    pub same : Same s u

  module _ {s : World} (h : Claimed (silent c) s) (n slot token : ℕ) (own : slot < c.void) (unset : Silent (silent c) s → get_or s.slots slot 0 ≡ 0) where
    module _ (op : ℕ) {a : ℕ} (ea : Silent (silent c) s → Recorded (silent c) s a) where
      pub h_fuse : {b : ℕ} → (Silent (silent c) s → Recorded (silent c) s b) → Tells c type (Rule slot s (BinOk op (type a) (type b) (type slot))) s (fuse c n slot token op a b s)
      unfolding fuse ty tree
      h_fuse {b} eb =
          g_when (silent c) _ _ (λ _. g_when (silent c) _ _ (λ _. h_poison c type h n _) (λ _. h_poison c type h n _))
          (λ e. let k : result_kind op (kind_of (get_or s.slots a 0)) (kind_of (get_or s.slots b 0)) ≡ 0 → ⊥ = eqb-false _ 0 e in
          let m = result_low op (kind_of (get_or s.slots a 0)) (kind_of (get_or s.slots b 0)) in
          h_map c type (λ u v t p z q.
          let z₀ = before (silent c) t z in
          let f = earlier c type (h z₀) (p z) q in
          let w = (p z).value.fact q in
          let ka = type-kind (h z₀) (ea z₀) f in
          let kb = type-kind (h z₀) (eb z₀) f in
          record {
            ok = bin-ok op ka kb k (w.is ∙ low-tree c s.types _ (omega (arith, k)) m);
            same = w.same;
          })
          (h_set c type slot own unset h (λ z. low-good (silent c) s.types _ (omega (arith, k)) m)))

      pub h_unary : Tells c type (Rule slot s (UnaryOk op (type a) (type slot))) s (unary c n slot token op a s)
      unfolding unary ty tree
      h_unary =
          g_when (silent c) _ _ (λ e.
          h_map c type (λ u v t p z q.
          let z₀ = before (silent c) t z in
          let w = (p z).value.fact q in
          let ka = type-kind (h z₀) (ea z₀) (earlier c type (h z₀) (p z) q) in
          record { ok = unary-ok op ka e (w.is ∙ low e); same = w.same })
          (h_set c type slot own unset h (λ z. good e)))
          (λ _. h_poison c type h n _)
        where
          low : (leb op 1 && (eqb (kind_of (get_or s.slots a 0)) 3 || eqb (kind_of (get_or s.slots a 0)) 4)) ≡ true
              → ty_of c.texts s.types.words (word_of (kind_of (get_or s.slots a 0)) 0) ≡ plain (kind_of (get_or s.slots a 0))
          low e = elim (one_of 3 4 (kind_of (get_or s.slots a 0)) ((and-eq-true_iff (leb op 1) _).0 e).1) [
            | inl i ↦ low-tree c s.types _ (omega arith)
                (omega arith)
            | inr i ↦ low-tree c s.types _ (omega arith) (omega arith)
          ]

          good : (leb op 1 && (eqb (kind_of (get_or s.slots a 0)) 3 || eqb (kind_of (get_or s.slots a 0)) 4)) ≡ true → Good (silent c) s.types (word_of (kind_of (get_or s.slots a 0)) 0)
          good e = elim (one_of 3 4 (kind_of (get_or s.slots a 0)) ((and-eq-true_iff (leb op 1) _).0 e).1) [
            | inl i ↦ low-good (silent c) s.types _ (omega arith)
                (omega arith)
            | inr i ↦ low-good (silent c) s.types _ (omega arith) (omega arith)
          ]

  -- a name found has the type that the known one has
  env-found : (name : List ℕ) {b : Buffer} {ls : List Local} {ks : List J.Known} {w : ℕ} → EnvRel c type b ls ks → env_get c.texts name ls ≡ some (some w)
      → type_found c.texts name ks ≡ some (ty_of c.texts b.words w)
  unfolding env_get type_found
  env-found name no_local e = absurd (none-some e)
    where
      none-some : {w : ℕ} → ◌≡◌ {A = Option (Option ℕ)} none (some (some w)) → ⊥
      none-some q = let z : ◌≡◌ {A = ℕ} 0 1 = cc q in omega arith
  env-found name {b} {w = w} (one_local {l = l} {k = k} {ls = ls} {ks = ks} {w = v} n t i rest) e = by (λ q. env-found name rest q) (same_bytes name (name_bytes c.texts l.name)) refl e
    where
      some_is : {o : Option ℕ} → ◌≡◌ {A = Option (Option ℕ)} (some o) (some (some w)) → o ≡ some w
      some_is q = cc q

      word-is : some v ≡ some w → v ≡ w
      word-is q = cc q

      by : (env_get c.texts name ls ≡ some (some w) → type_found c.texts name ks ≡ some (ty_of c.texts b.words w)) → (d : Bool) → same_bytes name (name_bytes c.texts l.name) ≡ d
          → elim d [ true ↦ some l.type | false ↦ env_get c.texts name ls ] ≡ some (some w)
          → elim (same_bytes name (name_bytes c.texts k.name)) [ true ↦ some k.type | false ↦ type_found c.texts name ks ] ≡ some (ty_of c.texts b.words w)
      by go true d q = rw (← n, d) (ap some (sym (is-tree (silent c) i) ∙ ap (ty_of c.texts b.words) (word-is (sym t ∙ some_is q))))
      by go false d q = rw (← n, d) (go q)

  module _ {s : World} (h : Claimed (silent c) s) (n slot name : ℕ) (own : slot < c.void) (unset : Silent (silent c) s → get_or s.slots slot 0 ≡ 0) {ks : List J.Known}
      (env : Silent (silent c) s → Fixed c type s → EnvRel c type s.types s.env ks) where
    pub h_ident : Tells c type (Rule slot s (type_found c.texts (name_bytes c.texts name) ks ≡ some (type slot))) s (ident c n slot name s)
    unfolding ident
    h_ident =
        g_option (silent c) _ _ (λ _. h_poison c type h n _)
        (λ o e. g_option (silent c) _ _
        (λ q. gives {u = s} (record { more = omega arith }) (λ z. absurd (no-poison (rw q at (local_found (silent c) _ (h z).env e)))))
        (λ w q. h_map c type (λ u v t p z f.
        let z₀ = before (silent c) t z in
        let y = (p z).value.fact f in
        record { ok = env-found _ (env z₀ (earlier c type (h z₀) (p z) f)) (e ∙ ap some q) ∙ ap some (sym y.is); same = y.same })
        (h_set c type slot own unset h (λ z. good (rw q at (local_found (silent c) _ (h z).env e))))))
      where
        no-poison : {b : Buffer} → Bound (silent c) b none → ⊥
        no-poison (poisoned l) = l tt

        good : {b : Buffer} {w : ℕ} → Bound (silent c) b (some w) → Good (silent c) b w
        good (bound g) = g

  -- ── Let ──

  pub record Binds (s : World) (i : ℕ) (u : World) (o : Option ℕ) : Type 0 where
    pub same : u ≡ s
    pub is : o ≡ some (get_or s.slots i 0)

  pub h_let : (n name : ℕ) {i : ℕ} {a : Answer} {s : World} → Claimed (silent c) s → OwnAnswer i a → (Silent (silent c) s → AnswerOk (silent c) s a)
      → Gives (silent c) (Binds s i) s (let_binding n name a s)
  unfolding let_binding ty
  h_let n name {i} {s = s} h is_known k =
      g_when (silent c) _ _ (λ _. g_next (silent c) _ (h_report c type {Q = λ _ _. ⊥} h n _) (λ _ u t p. gives {u = u} (record { more = omega arith }) (λ z. absurd (p z).value)))
      (λ _. g_return (silent c) h (λ z. record { same = refl; is = refl }))
  h_let n name {s = s} h is_poison k = g_return (silent c) h (λ z. absurd (no-poison (k z)))

  pub h_insert : (name : ℕ) {o : Option ℕ} {s : World} → Claimed (silent c) s → (Silent (silent c) s → Bound (silent c) s.types o)
      → Gives (silent c) (λ u (_ : Done). u ≡ with_env s (record { name = name; type = o } ∷ s.env)) s (env_insert name o s)
  unfolding env_insert
  h_insert name {o} {s} h k = up (g_insert (silent c) name h k)
    where
      up : Gives (silent c) (λ u a. Unit {0}) s (ok (tt {0}) (with_env s (record { name = name; type = o } ∷ s.env)))
          → Gives (silent c) (λ u (_ : Done). u ≡ with_env s (record { name = name; type = o } ∷ s.env)) s (ok tt (with_env s (record { name = name; type = o } ∷ s.env)))
      up (gives t p) = gives t (λ z. let x = p z in record { grown = x.grown; recorded = x.recorded; holds = x.holds; value = refl })

  -- ── Cast ──

  -- a type made of an expression
  pub h_type_from : (n : ℕ) (e : TypeExpr) → ProperType (Below (silent c)) (NameAt (silent c)) e → {s : World} → Claimed (silent c) s
      → Gives (silent c) (Built c type (λ d w. Is (silent c) d w (type_meant c.texts e)) s) s (type_from_expr c n e s)
  unfolding type_from_expr
  h_type_from n e p {s} h = h_on_types c type (type_from c.texts n e) h (λ z. t_expr (silent c) n e p s.types)

  cast_ok : (e : TypeExpr) {l x : Ty} {a b : ℕ} → kind_of_ty l ≡ a → kind_of_ty (type_meant c.texts e) ≡ b → castable a b ≡ true → x ≡ type_meant c.texts e → CastOk (cast_kind e) l x
  unfolding type_meant cast_kind kind_of_ty
  cast_ok (AtomType token k) p q h e = record { has = rw (p, q) h; is = e }
  cast_ok (ForeignType token) p q h e = absurd (let i = castable-to _ _ h in omega (arith, i.1, q))
  cast_ok (OptionType t) p q h e = absurd (let i = castable-to _ _ h in omega (arith, i.1, q))
  cast_ok (ArrayType t) p q h e = absurd (let i = castable-to _ _ h in omega (arith, i.1, q))
  cast_ok (RecordType token fs) p q h e = absurd (let i = castable-to _ _ h in omega (arith, i.1, q))

  pub h_cast : {s : World} (h : Claimed (silent c) s) (n slot token : ℕ) → slot < c.void → (Silent (silent c) s → get_or s.slots slot 0 ≡ 0)
      → (e : TypeExpr) {a to : ℕ} → (Silent (silent c) s → Recorded (silent c) s a)
      → (Silent (silent c) s → Is (silent c) s.types to (type_meant c.texts e)) → (Silent (silent c) s → Good (silent c) s.types to)
      → Tells c type (Rule slot s (CastOk (cast_kind e) (type a) (type slot))) s (cast c n slot token a to s)
  unfolding cast ty tree
  h_cast {s} h n slot token own unset e {a} {to} ea i g =
      g_when (silent c) _ _ (λ q.
      h_map c type (λ u v t p z fx.
      let z₀ = before (silent c) t z in
      let w = (p z).value.fact fx in
      let ka = type-kind (h z₀) (ea z₀) (earlier c type (h z₀) (p z) fx) in
      record { ok = cast_ok e ka (sym (M.means-kind (i z₀).means)) q (w.is ∙ is-tree (silent c) (i z₀)); same = w.same })
      (h_set c type slot own unset h g))
      (λ _. g_when (silent c) _ _
      (λ _. g_next (silent c) _ (h_report c type {Q = λ _ _. ⊥} h n _) (λ _ u t p. told-set c type slot to (λ z. (p z).value)))
      (λ _. h_poison c type h n _))

  -- ── Field ──

  -- a field found in the words has the type of the first field of that name
  field-tree : (name : List ℕ) (b : Buffer) {at k : ℕ} {fs : Fields} {w : ℕ} → M.FieldsMean c.texts b.words b.used at k fs → deepest fs ≤ 32
      → find_field c.texts b.words name at k ≡ some w
      → field_ty name fs ≡ some (ty_of c.texts b.words w)
  unfolding find_field field_ty deepest
  field-tree name b M.no_more l e = absurd (let z : ◌≡◌ {A = ℕ} 0 1 = cc e in omega arith)
  field-tree name b {at} {w = w} (M.one_more {k = k} {n = n} {x = x} {fs = fs} q u m rest) l e =
      by (λ i. field-tree name b rest (omega arith) i) (same_bytes name (name_bytes c.texts (get_or b.words at 0))) refl e
    where
      some_is : {v : ℕ} → ◌≡◌ {A = Option ℕ} (some v) (some w) → v ≡ w
      some_is i = cc i

      by : (find_field c.texts b.words name (at + 2) k ≡ some w → field_ty name fs ≡ some (ty_of c.texts b.words w)) → (d : Bool)
          → same_bytes name (name_bytes c.texts (get_or b.words at 0)) ≡ d
          → ◌≡◌ {A = Option ℕ} (elim d [ true ↦ some (get_or b.words (at + 1) 0) | false ↦ find_field c.texts b.words name (at + 2) k ]) (some w)
          → ◌≡◌ {A = Option Ty} (elim (same_bytes name n) [ true ↦ some x | false ↦ field_ty name fs ]) (some (ty_of c.texts b.words w))
      by go true d i = rw (← q, d) (ap some (sym (M.means-ty_of m (omega arith)) ∙ ap (ty_of c.texts b.words) (some_is i)))
      by go false d i = rw (← q, d) (go i)

  -- the fields of a slot that has a record
  record Opened (b : Buffer) (w : ℕ) (x : Ty) : Type 0 where
    fields : Fields
    is : x ≡ rec fields
    mean : M.FieldsMean c.texts b.words b.used (payload_of w + 1) (field_count b.words w) fields
    low : deepest fields ≤ 32

  opened : {b : Buffer} {w : ℕ} {x : Ty} → M.Means c.texts b.words b.used w x → depth_of x ≤ 32 → kind_of w ≡ 8 → Opened b w x
  unfolding depth_of
  opened (M.flat e p z) l k = absurd (p.no_record (sym e ∙ k))
  opened (M.wrapped {k = j₀} e h l m) d k = absurd (elim (one_of 6 7 j₀ h) [ inl i ↦ (let j = sym e ∙ k in omega arith) | inr i ↦ (let j = sym e ∙ k in omega arith) ])
  opened (M.recorded {fs = fs} e l m) d k = record { fields = fs; is = refl; mean = m; low = omega arith }
  opened (M.called {k = j₀} e h n) d k = absurd (elim (one_of 9 10 j₀ h) [ inl i ↦ (let j = sym e ∙ k in omega arith) | inr i ↦ (let j = sym e ∙ k in omega arith) ])

  field-ok : {b : Buffer} {w v : ℕ} {x l y : Ty} (name : List ℕ) → l ≡ x → Opened b w x
      → find_field c.texts b.words name (payload_of w + 1) (field_count b.words w) ≡ some v → y ≡ ty_of c.texts b.words v → FieldOk name l y
  field-ok {b} name p o e q = record { fields = o.fields; record' = p ∙ o.is; has = field-tree name b o.mean o.low e ∙ ap some (sym q) }

  -- nothing is Unknown
  known-kind : {b : Buffer} {w : ℕ} {x : Ty} → M.Means c.texts b.words b.used w x → C.Fine (silent c) x → kind_of w ≡ 11 → ⊥
  known-kind (M.flat e p z) (C.flat l u) k = u tt (sym e ∙ k)
  known-kind (M.wrapped {k = j₀} e h l m) f k = elim (one_of 6 7 j₀ h) [ inl i ↦ (let j = sym e ∙ k in omega arith) | inr i ↦ (let j = sym e ∙ k in omega arith) ]
  known-kind (M.recorded e l m) f k = let j = sym e ∙ k in omega arith
  known-kind (M.called {k = j₀} e h n) f k = elim (one_of 9 10 j₀ h) [ inl i ↦ (let j = sym e ∙ k in omega arith) | inr i ↦ (let j = sym e ∙ k in omega arith) ]

  pub h_field : {s : World} (h : Claimed (silent c) s) (n slot name : ℕ) → slot < c.void → (Silent (silent c) s → get_or s.slots slot 0 ≡ 0)
      → {a : ℕ} → (Silent (silent c) s → Recorded (silent c) s a)
      → Tells c type (Rule slot s (FieldOk (name_bytes c.texts name) (type a) (type slot))) s (field c n slot name a s)
  unfolding field field_type ty tree
  h_field {s} h n slot name own unset {a} ea =
      g_when (silent c) _ _
      (λ k. g_option (silent c) _ _ (λ _. h_poison c type h n _) (λ w e.
      let good : Silent (silent c) s → Good (silent c) s.types w = λ z. field_found (silent c) _ (field_count s.types.words (get_or s.slots a 0)) (payload_of (get_or s.slots a 0) + 1)
      (fields-typed (silent c) ((h z).slots a (ea z)) (eqb-true (kind_of (get_or s.slots a 0)) 8 k)) e in
      g_when (silent c) _ _ (λ u. g_next (silent c) _ (told-set c type {Q = λ _ _. ⊥} slot unknown_word
      (λ z. let g = good z in known-kind g.is.means g.is.fine (eqb-true (kind_of w) 11 u))) (λ _ v t y. g_return (silent c) (λ z. (y z).holds) (λ z. absurd (y z).value)))
      (λ _. h_map c type (λ u v t p z fx.
      let z₀ = before (silent c) t z in
      let y = (p z).value.fact fx in
      let g = (h z₀).slots a (ea z₀) in
      let f = earlier c type (h z₀) (p z) fx in
      record { ok = field-ok _ (f.at a (ea z₀) ∙ is-tree (silent c) g.is) (opened g.is.means g.is.low (eqb-true (kind_of (get_or s.slots a 0)) 8 k)) e y.is; same = y.same })
      (h_set c type slot own unset h good))))
      (λ _. h_poison c type h n _)
