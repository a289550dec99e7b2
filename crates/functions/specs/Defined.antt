-- Node::Fn in parts: whether the name was met, what comes before the body, and what comes after. Laws of it. Assumes nothing.
use Rattle.std.specs.Prelude.{ℕ, ◌+◌, ◌≡◌, Bool, Option, Some, None, List, []}
use Rattle.std.proofs.Math.Path.{refl, ap}
use Rattle.std.proofs.Common.{sym, ◌∙◌}
use Rattle.std.proofs.Math.Bool.{true, false}
use Rattle.std.proofs.Math.Option as O
use Rattle.tok.specs.Step.{Result, ok, refused, Refusal, next, return, look, when, ◌>>=◌, ◌>>◌}
use Rattle.ptype.specs.Ty.{same_ty}
use Rattle.err.specs.Message.{Diagnostic, defined_already}
use Rattle.err.specs.Report.{Output, tell}
use Rattle.ast.specs.TypeExpr.{TypeExpr, Arg}
use Rattle.library.specs.Package.{Param, Signature, find_function}
use Rattle.rules.specs.declared.Answer.{Answer}
use Rattle.rules.specs.declared.Answer.TheVariants as A
use Rattle.rules.specs.World.{Ctx, name_in, Local, World, Walk, with_env}
use Rattle.rules.specs.Steps.{Done, skip, if_known, on_option, ty, tree, ty_tree, set_known, raised_told, report, poison, output_of, framed, apart, enter, type_from_expr}
use Rattle.rules.specs.Rules.{fn_arguments, check_return, fn, unless_defined}

-- if self.functions.contains_key(inner_name): 8; whether the name is new
unfoldable pub is_new : Ctx → (n name : ℕ) → Walk Bool
is_new c n name = do
  s ← look
  on_option (find_function c.texts (name_in c name) s.own) (return true) (λ _. report n (defined_already name (name_in c name)) >> return false)

-- before the body, of the first argument's slot
unfoldable pub fn_begin : Ctx → (n slot name : ℕ) → TypeExpr → List Arg → Walk ℕ
fn_begin c n slot name retExpr args = do
  params ← fn_arguments c n slot args
  ret ← type_from_expr c n retExpr
  enter name params ret
  return ret

-- after the body, with the names in scope that were there before it
unfoldable pub fn_end : Ctx → (n slot name : ℕ) → TypeExpr → (ret : ℕ) → (computed : Answer) → Walk Answer
fn_end c n slot name retExpr ret computed = do
  check_return c n name retExpr ret computed
  set_known slot ret

-- Node::Fn up to its body, where the name is new, of the node's slot: with no name in scope but the arguments
abbrev pub fn_apart : Ctx → (n slot name : ℕ) → TypeExpr → List Arg → Walk (Option ℕ)
fn_apart c n slot name retExpr args = λ w. next (fn_begin c n (slot + 1) name retExpr args (with_env w [])) (λ ret. return (Some ret))

-- Node::Fn up to its body: the return type's word, or none where the name was met
unfoldable pub fn_to_body : Ctx → (n slot name : ℕ) → TypeExpr → List Arg → Walk (Option ℕ)
fn_to_body c n slot name retExpr args = do
  new ← is_new c n name
  when new (fn_apart c n slot name retExpr args) (return None)

-- what follows: Poison where the name was met; else the body, and the part after it with the names in scope that were there before
unfoldable pub body_and_end : Ctx → (n slot name : ℕ) → TypeExpr → (body : Walk Answer) → (before : List Local) → Option ℕ → Walk Answer
body_and_end c n slot name retExpr body before None = return A.Poison
body_and_end c n slot name retExpr body before (Some ret) = λ w. next (body w) (λ computed. λ w₁. fn_end c n slot name retExpr ret computed (with_env w₁ before))

-- ── A new name ──

module _ (c : Ctx) (n name : ℕ) (w : World) where
  unlike : {w' : World} (r : Result World Refusal Done) → next r (λ _. return false) ≡ ok true w' → w' ≡ w
  unlike (ok d s) e = cc
  unlike (refused x) e = cc

  -- it changes nothing
  pub new_same : {w' : World} → is_new c n name w ≡ ok true w' → w' ≡ w
  unfolding is_new on_option
  new_same {w'} e = by (find_function c.texts (name_in c name) w.own) e
    where
      by : (found : O.Option Signature) → on_option found (return true) (λ _. report n (defined_already name (name_in c name)) >> return false) w ≡ ok true w' → w' ≡ w
      by O.none e = cc
      by (O.some f) e = unlike (report n (defined_already name (name_in c name)) w) e

-- ── The rule is its parts ──

-- a result with other names in scope
unfoldable scoped : {A : Type 0} → List Local → Result World Refusal A → Result World Refusal A
scoped e r = next r (λ a. λ s. ok a (with_env s e))

module _ (c : Ctx) (n : ℕ) (e : List Local) where
  told-scoped : (w : World) (r : Result Output Refusal Done) → raised_told (with_env w e) r ≡ scoped e (raised_told w r)
  unfolding raised_told scoped
  told-scoped w (ok a o) = refl
  told-scoped w (refused x) = refl

  when-scoped : (b : Bool) (d : Diagnostic) (w : World) → when b skip (report n d) (with_env w e) ≡ scoped e (when b skip (report n d) w)
  unfolding when report scoped
  when-scoped true d w = refl
  when-scoped false d w = told-scoped w (tell n d (output_of w))

  -- the return is checked in any names
  check_scoped : (name : ℕ) (retExpr : TypeExpr) (ret : ℕ) (computed : Answer) (w : World)
      → check_return c n name retExpr ret computed (with_env w e) ≡ scoped e (check_return c n name retExpr ret computed w)
  unfolding check_return if_known tree ty_tree ty scoped
  check_scoped name retExpr ret A.Poison w = refl
  check_scoped name retExpr ret (A.Known slot) w = when-scoped (same_ty _ _) _ w

module _ (c : Ctx) (n slot name : ℕ) (retExpr : TypeExpr) (e : List Local) where
  ended : (ret : ℕ) (r : Result World Refusal Done) → next (scoped e (next r (λ _. return ret))) (λ ret. set_known slot ret) ≡ next (scoped e r) (λ _. set_known slot ret)
  unfolding scoped
  ended ret (ok a w) = refl
  ended ret (refused x) = refl

  after-body : (ret : ℕ) (r : Result World Refusal Answer)
      → next (scoped e (next r (λ computed. λ w. next (check_return c n name retExpr ret computed w) (λ _. return ret)))) (λ ret. set_known slot ret)
      ≡ next r (λ computed. λ w. fn_end c n slot name retExpr ret computed (with_env w e))
  unfolding scoped fn_end
  after-body ret (ok computed w) = ended ret (check_return c n name retExpr ret computed w) ∙ ap (λ r. next r (λ _. set_known slot ret)) (sym (check_scoped c n e name retExpr ret computed w))
  after-body ret (refused x) = refl

  module _ (body : Walk Answer) where
    abbrev rest : ℕ → Walk Answer
    rest ret = λ w. next (body w) (λ computed. λ w. fn_end c n slot name retExpr ret computed (with_env w e))

    after-type : (params : List Param) (r : Result World Refusal ℕ)
        → next (scoped e (next r (λ ret. λ w. next (enter name params ret w) (λ _. λ w. next (body w) (λ computed. λ w. next (check_return c n name retExpr ret computed w) (λ _. return ret))))))
        (λ ret. set_known slot ret)
        ≡ next (next r (λ ret. λ w. next (enter name params ret w) (λ _. return ret))) rest
    unfolding enter scoped
    after-type params (ok ret w) = after-body ret (body _)
    after-type params (refused x) = refl

    after-arguments : (r : Result World Refusal (List Param))
        → next (scoped e (next r (λ params. λ w. next (type_from_expr c n retExpr w)
        (λ ret. λ w. next (enter name params ret w) (λ _. λ w. next (body w) (λ computed. λ w. next (check_return c n name retExpr ret computed w) (λ _. return ret)))))))
        (λ ret. set_known slot ret)
        ≡ next (next r (λ params. λ w. next (type_from_expr c n retExpr w) (λ ret. λ w. next (enter name params ret w) (λ _. return ret)))) rest
    unfolding scoped
    after-arguments (ok params w) = after-type params (type_from_expr c n retExpr w)
    after-arguments (refused x) = refl

-- THE LAW: the part before the body sees no names; the body follows; then, with the names of before, the part after it
pub fn-parts : (c : Ctx) (n slot name : ℕ) (retExpr : TypeExpr) (args : List Arg) (body : Walk Answer) (w : World)
    → fn c n slot name retExpr args body w
    ≡ next (fn_begin c n (slot + 1) name retExpr args (with_env w [])) (λ ret. λ w₁. next (body w₁) (λ computed. λ w₂. fn_end c n slot name retExpr ret computed (with_env w₂ w.env)))
unfolding fn apart framed fn_begin scoped
fn-parts c n slot name retExpr args body w = after-arguments c n slot name retExpr w.env body (fn_arguments c n (slot + 1) args (with_env w []))

module _ (c : Ctx) (n slot name : ℕ) (retExpr : TypeExpr) (body : Walk Answer) (e : List Local) where
  -- the word that the first part gives is due to what follows
  follows : (r : Result World Refusal ℕ)
      → next r (λ ret. λ w. next (body w) (λ computed. λ w₁. fn_end c n slot name retExpr ret computed (with_env w₁ e)))
      ≡ next (next r (λ ret. return (Some ret))) (body_and_end c n slot name retExpr body e)
  unfolding body_and_end
  follows (ok ret w) = refl
  follows (refused x) = refl

  poisoned : (args : List Arg) (r : Result World Refusal Done)
      → next r (λ _. return A.Poison)
      ≡ next (next (next r (λ _. return false)) (λ new. when new (fn_apart c n slot name retExpr args) (return None))) (body_and_end c n slot name retExpr body e)
  unfolding when body_and_end
  poisoned args (ok d w) = refl
  poisoned args (refused x) = refl

-- THE LAW: Node::Fn is its parts
pub fn-begun : (c : Ctx) (n slot name : ℕ) (retExpr : TypeExpr) (args : List Arg) (body : Walk Answer) (w : World)
    → unless_defined c n name (fn c n slot name retExpr args body) w ≡ next (fn_to_body c n slot name retExpr args w) (body_and_end c n slot name retExpr body w.env)
unfolding unless_defined fn_to_body is_new on_option poison when
fn-begun c n slot name retExpr args body w = by (defined_already name (name_in c name)) (find_function c.texts (name_in c name) w.own)
  where
    by : (d : Diagnostic) (found : O.Option Signature)
        → on_option found (fn c n slot name retExpr args body) (λ _. poison n d) w
        ≡ next (next (on_option found (return true) (λ _. report n d >> return false) w) (λ new. when new (fn_apart c n slot name retExpr args) (return None)))
        (body_and_end c n slot name retExpr body w.env)
    by d O.none = fn-parts c n slot name retExpr args body w ∙ follows c n slot name retExpr body w.env (fn_begin c n (slot + 1) name retExpr args (with_env w []))
    by d (O.some f) = poisoned c n slot name retExpr body w.env args (report n d w)
