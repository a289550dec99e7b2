-- A relation of worlds that every primitive step of the walk keeps: what that is, what is asked of the relation, and that each step of the
-- types buffer then keeps it. `RulesKeep` says it of the rules.
use Rattle.std.specs.Prelude.{ℕ, ◌+◌, Bool, ◌≡◌, set, length, leb, eqb}
use Rattle.std.proofs.Math.Bool.{true, false}
use Rattle.std.proofs.Math.Path.{refl}
use mathlib.Core.List.{List, [], ◌∷◌}
use Rattle.tok.specs.Text.{Texts}
use Rattle.ptype.specs.Words.{ty_of}
use Rattle.tok.specs.Step.{Result, ok, refused, Step, Refusal, next, ◌>>=◌, return, when}
use Rattle.ptype.specs.Add.{Buffer, append, type_room, add_type, add_wrap, add_record}
use Rattle.tok.specs.Word.{word_of}
use Rattle.ptype.specs.Ty.{depth_of, Ty, Fields, plain, wrap, rec, named, no_field}
use Rattle.ptype.specs.Ty as T
use Rattle.ptype.specs.Slots.{Binding, bound_or, bound_to, apply_slot_binding, apply_fields}
use Rattle.ast.specs.TypeFrom.{type_from, fields_from_exprs}
use Rattle.ast.specs.TypeExpr.{TypeExpr, TypeFields, AtomType, ForeignType, OptionType, ArrayType, RecordType, no_type, type_field}
use Rattle.err.specs.Message.{Diagnostic}
use Rattle.err.specs.Report.{six_words, bytes_of, has_room, one_more}
use Rattle.library.specs.Package.{Param, signature, function, Package}
use Rattle.rules.specs.World.{Local, World, with_slots, with_functions, with_types, with_told, with_env, with_packages, Log, with_log}
use Rattle.rules.specs.Steps.{raised, output_of, entry_of}

-- from s, a result whose world has R, or a refusal whose number has Q
pub data Keeps (R : World → World → Type 0) (Q : ℕ → Type 0) (s : World) {A : Type 0} : Result World Refusal A → Type 0 where
  kept : {a : A} {u : World} → R s u → Keeps R Q s (ok a u)
  stopped : {r : Refusal} → Q r.number → Keeps R Q s (refused r)

-- what a step of the log comes to: a log, or a refusal whose number has Q
pub data Logs (Q : ℕ → Type 0) {A : Type 0} : Result Log Refusal A → Type 0 where
  logged : {a : A} {l : Log} → Logs Q (ok a l)
  unlogged : {r : Refusal} → Q r.number → Logs Q (refused r)

-- any step does so where every number has Q
pub logs-all : {Q : ℕ → Type 0} → ((k : ℕ) → Q k) → {A : Type 0} (r : Result Log Refusal A) → Logs Q r
logs-all h (ok a l) = logged
logs-all h (refused r) = unlogged (h r.number)

-- What is asked of R and Q: a preorder with the primitive steps in it, but for `enter`, and the three refusals of the walk.
pub record StepsKeep (R : World → World → Type 0) (Q P : ℕ → Type 0) : Type 0 where
  pub same : (s : World) → R s s
  pub trans : {s t u : World} → R s t → R t u → R s u
  pub slot : (slot word : ℕ) (s : World) → P slot → R s (with_slots s (set s.slots slot word))
  pub type : (texts : Texts) (kind : ℕ) (new : List ℕ) (s : World) → leb (s.types.used + length new) (type_room s.types) ≡ true
      → leb (depth_of (ty_of texts (append s.types new).words (word_of kind s.types.used))) 32 ≡ true → R s (with_types s (append s.types new))
  pub told : (d : Diagnostic) (s : World) → has_room (output_of s) d ≡ true
      → R s (with_told s (one_more s.diagnostics (six_words d s.messages.used)) (append s.messages (bytes_of d)))
  pub binds : (l : Local) (s : World) → R s (with_env s (l ∷ s.env))
  pub frame : {s u : World} → R s u → R s (with_env u s.env)
  pub alone : {s u : World} → R (with_env s []) u → R s (with_env u s.env)
  pub holds : (p : Package) (s : World) → R s (with_packages s (p ∷ s.packages))
  pub logs : (l : Log) (s : World) → R s (with_log s l)
  pub types_full : Q 7
  pub too_deep : Q 8
  pub told_full : Q 9

-- and `enter`, which Fn's rule alone takes
pub record Enters (R : World → World → Type 0) : Type 0 where
  pub enters : (name : ℕ) (ps : List Param) (ret : ℕ) (s : World) → R s (with_functions s (append s.functions (entry_of name ps ret)) (function name (signature ps ret false) ∷ s.own))

module _ {R : World → World → Type 0} {Q P : ℕ → Type 0} (law : StepsKeep R Q P) where
  pub more : {A : Type 0} {s u : World} {r : Result World Refusal A} → R s u → Keeps R Q u r → Keeps R Q s r
  more p (kept q) = kept (law.trans p q)
  more p (stopped q) = stopped q

  -- steps of the types buffer
  abbrev pub InT : {A : Type 0} → Step Buffer Refusal A → Type 0
  InT m = (s : World) → Keeps R Q s (raised s (m s.types))

  pub t_next : {A B : Type 0} (m : Step Buffer Refusal A) (f : A → Step Buffer Refusal B) → InT m → ((a : A) → InT (f a)) → InT (◌>>=◌ m f)
  unfolding raised
  t_next {A} {B} m f h k s = go (m s.types) (h s)
    where
      over : (t : Buffer) (r : Result Buffer Refusal B) → Keeps R Q s (raised (with_types s t) r) → Keeps R Q s (raised s r)
      over t (ok b v) h = h
      over t (refused i) h = h

      go : (r : Result Buffer Refusal A) → Keeps R Q s (raised s r) → Keeps R Q s (raised s (next r f))
      go (ok a t) (kept p) = over t (f a t) (more p (k a (with_types s t)))
      go (refused i) (stopped q) = stopped q

  pub t_return : {A : Type 0} (a : A) → InT (return a)
  unfolding raised
  t_return a s = kept (law.same s)

  pub t_at-when : {A : Type 0} (b : Bool) (x y : Step Buffer Refusal A) (s : World)
      → (b ≡ true → Keeps R Q s (raised s (x s.types))) → (b ≡ false → Keeps R Q s (raised s (y s.types))) → Keeps R Q s (raised s (when b x y s.types))
  unfolding when
  t_at-when true x y s h k = h refl
  t_at-when false x y s h k = k refl

  pub t_when : {A : Type 0} (b : Bool) (x y : Step Buffer Refusal A) → InT x → InT y → InT (when b x y)
  t_when b x y h k s = t_at-when b x y s (λ _. h s) (λ _. k s)

  pub t_add : (texts : Texts) (n kind : ℕ) (new : List ℕ) → InT (add_type texts n kind new)
  unfolding add_type raised
  t_add texts n kind new s =
      t_at-when _ _ _ s (λ e. t_at-when _ _ _ s (λ d. kept (law.type texts kind new s e d)) (λ _. stopped law.too_deep)) (λ _. stopped law.types_full)

  pub t_wrap : (texts : Texts) (n kind inner : ℕ) → InT (add_wrap texts n kind inner)
  unfolding add_wrap
  t_wrap texts n kind inner = t_add texts n kind (inner ∷ [])

  pub t_record : (texts : Texts) (n : ℕ) (pairs : List ℕ) → InT (add_record texts n pairs)
  unfolding add_record
  t_record texts n pairs = t_add texts n 8 _

  pub t_elim : {A : Type 0} (b : Bool) (x y : Step Buffer Refusal A) → InT x → InT y → InT {A = A} (elim b [ true ↦ x | false ↦ y ])
  t_elim true x y h k = h
  t_elim false x y h k = k

  mutual
    unfolding apply_slot_binding

    pub t_apply : (texts : Texts) (n : ℕ) (bs : List Binding) (t : Ty) (w : ℕ) → InT (apply_slot_binding texts n bs t w)
    t_apply texts n bs (plain k) w = t_return w
    t_apply texts n bs (wrap k t) w = t_when _ _ _ (λ s. t_next _ _ (t_apply texts n bs t _) (λ inner. t_wrap texts n k inner) s) (t_return w)
    t_apply texts n bs (rec fs) w = t_when _ _ _ (t_next _ _ (t_fields texts n bs fs _) λ pairs. t_record texts n pairs) (t_return w)
    t_apply texts n bs (named k x) w = t_elim (eqb k 10) _ _ (t_return (bound_or w (bound_to x bs))) (t_return w)

    pub t_fields : (texts : Texts) (n : ℕ) (bs : List Binding) (fs : Fields) (at : ℕ) → InT (apply_fields texts n bs fs at)
    t_fields texts n bs no_field at = t_return []
    t_fields texts n bs (T.field name t fs) at = λ s. t_next _ _ (t_apply texts n bs t _) (λ new. t_next _ _ (t_fields texts n bs fs _) λ rest. t_return _) s

  mutual
    unfolding type_from

    pub t_type_from : (texts : Texts) (n : ℕ) (t : TypeExpr) → InT (type_from texts n t)
    t_type_from texts n (AtomType token k) = t_return _
    t_type_from texts n (ForeignType token) = t_return _
    t_type_from texts n (OptionType t) = t_next _ _ (t_type_from texts n t) λ inner. t_wrap texts n 6 inner
    t_type_from texts n (ArrayType t) = t_next _ _ (t_type_from texts n t) λ inner. t_wrap texts n 7 inner
    t_type_from texts n (RecordType token fs) = t_next _ _ (t_fields_from texts n fs) λ pairs. t_record texts n pairs

    pub t_fields_from : (texts : Texts) (n : ℕ) (fs : TypeFields) → InT (fields_from_exprs texts n fs)
    t_fields_from texts n no_type = t_return []
    t_fields_from texts n (type_field name t fs) = t_next _ _ (t_type_from texts n t) λ w. t_next _ _ (t_fields_from texts n fs) λ rest. t_return _
