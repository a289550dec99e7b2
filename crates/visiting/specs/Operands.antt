-- The rules of one and two operands, put together of visits: one law for each way out of the code. Assumes nothing.
use Rattle.std.specs.Prelude.{ℕ, ◌≡◌, List, Ok, Err}
use Rattle.std.proofs.Common.{arith}
use Rattle.ast.specs.Node.{Node, Bin, Unary, Field}
use Rattle.rules.specs.declared.Answer.{Answer}
use Rattle.rules.specs.declared.Answer.TheVariants.{Known, Poison}
use Rattle.tok.specs.Step.{◌>>=◌}
use Rattle.rules.specs.World.{Ctx, Walk}
use Rattle.rules.specs.Steps.{known}
use Rattle.rules.specs.Operators.{fuse, unary}
use Rattle.rules.specs.Rules.{field, node}
use Rattle.state.specs.declared.Refusal.{Refusal}
use Rattle.visit.specs.declared.State.{State}
use Rattle.visit.specs.Whole.{Lent, Visit}
use Rattle.visit.specs.Within.{Visits}
use Rattle.room_laws.specs.Room.{room, rows}
use Rattle.visiting.specs.Then.{visits-stop, visits-then, visits-known, visits-poison, visits-most}

-- what a function that visits a tree has for its contract
abbrev pub Visiting : Ctx → (library : List ℕ) → Node → State → (b b' : Lent) → Visit Answer → Type 0
Visiting c library x st b b' v = Visits (node c x) (room x) (rows x) library st b b' v

module _ (c : Ctx) (n slot token op : ℕ) (x y : Node) {library : List ℕ} {st : State} {b b₁ : Lent} where
  pub bin-left-stops : {e : Refusal} → Visiting c library x st b b₁ (Err e) → Visiting c library (Bin n slot token op x y) st b b₁ (Err e)
  unfolding node
  bin-left-stops left = visits-stop _ left _ _

  module _ {l : Answer} {st₁ : State} (left : Visiting c library x st b b₁ (Ok (l, st₁))) {b₂ : Lent} where
    pub bin-right-stops : {e : Refusal} → Visiting c library y st₁ b₁ b₂ (Err e) → Visiting c library (Bin n slot token op x y) st b b₂ (Err e)
    unfolding node room rows
    bin-right-stops right = visits-then _ left (visits-stop _ right (room y) (rows y))

    module _ {r : Answer} {st₂ : State} (right : Visiting c library y st₁ b₁ b₂ (Ok (r, st₂))) where
      pub bin-left-poisoned : l ≡ Poison → Visiting c library (Bin n slot token op x y) st b b₂ (Ok (Poison, st₂))
      unfolding node room rows
      bin-left-poisoned e = visits-then _ left (visits-most (omega arith) (omega arith) (visits-then _ right (visits-poison _ library st₂ b₂ e)))

      pub bin-right-poisoned : {i : ℕ} → l ≡ Known i → r ≡ Poison → Visiting c library (Bin n slot token op x y) st b b₂ (Ok (Poison, st₂))
      unfolding node room rows
      bin-right-poisoned e f = visits-then _ left (visits-most (omega arith) (omega arith) (visits-then _ right (visits-known _ e (visits-poison _ library st₂ b₂ f))))

      pub bin_fused : {i j : ℕ} {b₃ : Lent} {v₃ : Visit Answer} → l ≡ Known i → r ≡ Known j → Visits (fuse c n slot token op i j) 0 0 library st₂ b₂ b₃ v₃
          → Visiting c library (Bin n slot token op x y) st b b₃ v₃
      unfolding node room rows
      bin_fused e f z = visits-then _ left (visits-most (omega arith) (omega arith) (visits-then _ right (visits-known _ e (visits-known _ f z))))

-- ── One operand ──

-- A rule that visits one part and goes on with its slot: Unary, Field, and what is left of Cast.
abbrev goes_with : Ctx → Node → (ℕ → Walk Answer) → Walk Answer
goes_with c x g = ◌>>=◌ (node c x) (λ a. known a g)

module _ (c : Ctx) (x : Node) (g : ℕ → Walk Answer) {library : List ℕ} {st : State} {b b₁ : Lent} where
  pub operand-stops : {e : Refusal} → Visiting c library x st b b₁ (Err e) → Visits (goes_with c x g) (room x) (rows x) library st b b₁ (Err e)
  operand-stops part = visits-stop _ part (room x) (rows x)

  module _ {a : Answer} {st₁ : State} (part : Visiting c library x st b b₁ (Ok (a, st₁))) where
    pub operand-poisoned : a ≡ Poison → Visits (goes_with c x g) (room x) (rows x) library st b b₁ (Ok (Poison, st₁))
    operand-poisoned e = visits-most (omega arith) (omega arith) (visits-then _ part (visits-poison _ library st₁ b₁ e))

    pub operand-goes : {i : ℕ} {b₂ : Lent} {v₂ : Visit Answer} → a ≡ Known i → Visits (g i) 0 0 library st₁ b₁ b₂ v₂ → Visits (goes_with c x g) (room x) (rows x) library st b b₂ v₂
    operand-goes e z = visits-most (omega arith) (omega arith) (visits-then _ part (visits-known _ e z))

-- the rules that are one
pub unary-is : (c : Ctx) (n slot token op : ℕ) (x : Node) {library : List ℕ} {st : State} {b b' : Lent} {v : Visit Answer}
    → Visits (◌>>=◌ (node c x) (λ a. known a (λ i. unary c n slot token op i))) (room x) (rows x) library st b b' v → Visiting c library (Unary n slot token op x) st b b' v
unfolding node room rows
unary-is c n slot token op x h = record { step = h.step; keeps = h.keeps }

pub field_is : (c : Ctx) (n slot name : ℕ) (x : Node) {library : List ℕ} {st : State} {b b' : Lent} {v : Visit Answer}
    → Visits (◌>>=◌ (node c x) (λ a. known a (λ i. field c n slot name i))) (room x) (rows x) library st b b' v → Visiting c library (Field n slot x name) st b b' v
unfolding node room rows
field_is c n slot name x h = record { step = h.step; keeps = h.keeps }
