-- What a rule leaves of the environment, the packages and the own functions: more in front, the rest as it was. An instance of `Keeps`. Assumes nothing.
use Rattle.std.specs.Prelude.{ℕ, ◌≡◌, refl, List, [], ◌∷◌, ◌++◌}
use Rattle.std.proofs.Common.{sym, ap, ◌∙◌, append_assoc}
use Rattle.ast.specs.Node.{Node, Nodes}
use Rattle.library.specs.Package.{Function, Package}
use Rattle.rules.specs.World.{Ctx, Local, World}
use Rattle.rules.specs.Rules.{node}
use Rattle.laws.specs.SlotsOf.{all_slots}
use Rattle.laws.specs.Keeps.{Keeps, StepsKeep, Enters}
use Rattle.laws.specs.RulesKeep.{in_node}

pub record Front {A : Type 0} (old new : List A) : Type 0 where
  pub part : List A
  pub whole : new ≡ part ++ old

front_same : {A : Type 0} (l : List A) → Front l l
front_same l = record { part = []; whole = refl }

front-one : {A : Type 0} (a : A) (l : List A) → Front l (a ∷ l)
front-one a l = record { part = a ∷ []; whole = refl }

front-trans : {A : Type 0} {l m n : List A} → Front l m → Front m n → Front l n
front-trans {A} {l} {m} {n} x y = record {
  part = y.part ++ x.part;
  whole = y.whole ∙ (ap (λ (e : List A). y.part ++ e) x.whole ∙ sym (append_assoc y.part x.part l));
}

pub record Scope (s u : World) : Type 0 where
  pub env : Front s.env u.env
  pub packages : Front s.packages u.packages
  pub own : Front s.own u.own

abbrev Any : ℕ → Type 0
Any k = Unit {0}

still : (s : World) → Scope s s
still s = record { env = front_same s.env; packages = front_same s.packages; own = front_same s.own }

pub scope_kept : StepsKeep Scope Any Any
scope_kept = record {
  same = still;
  trans = λ {s} {t} {u} x y. record { env = front-trans x.env y.env; packages = front-trans x.packages y.packages; own = front-trans x.own y.own };
  slot = λ i w s p. record { env = (still s).env; packages = (still s).packages; own = (still s).own };
  type = λ texts k new s e deep. record { env = (still s).env; packages = (still s).packages; own = (still s).own };
  told = λ d s e. record { env = (still s).env; packages = (still s).packages; own = (still s).own };
  binds = λ l s. record { env = front-one l s.env; packages = (still s).packages; own = (still s).own };
  frame = λ {s} {u} h. record { env = (still s).env; packages = h.packages; own = h.own };
  alone = λ {s} {u} h. record { env = (still s).env; packages = h.packages; own = h.own };
  holds = λ p s. record { env = (still s).env; packages = front-one p s.packages; own = (still s).own };
  logs = λ l s. record { env = (still s).env; packages = (still s).packages; own = (still s).own };
  types_full = tt;
  too_deep = tt;
  told_full = tt;
}

pub scope_enters : Enters Scope
scope_enters = record { enters = λ name ps ret s. record { env = (still s).env; packages = (still s).packages; own = front-one _ s.own } }

pub node_scope : (c : Ctx) (t : Node) (s : World) → Keeps Scope Any s (node c t s)
node_scope c t s = in_node scope_kept scope_enters c t (all_slots (λ _. tt) t) s
