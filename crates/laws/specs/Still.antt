-- A slot that no visited node of a tree owns is as it was after its rule: an instance of `Keeps`. Assumes nothing.
use Rattle.std.specs.Prelude.{ℕ, ◌≡◌, refl, get_or}
use Rattle.std.proofs.Common.{◌∙◌, get_or-set_other}
use Rattle.rules.specs.World.{World}
use Rattle.laws.specs.Keeps.{StepsKeep, Enters}

pub record Still (a : ℕ) (s u : World) : Type 0 where
  pub still : get_or u.slots a 0 ≡ get_or s.slots a 0

-- a refusal of any number
abbrev pub Any : ℕ → Type 0
Any k = Unit {0}

-- another slot than a
abbrev pub Other : (a slot : ℕ) → Type 0
Other a slot = a ≡ slot → ⊥

module _ (a : ℕ) where
  unmoved : {s u : World} → u.slots ≡ s.slots → Still a s u
  unmoved e = record { still = rw e refl }

  pub still_kept : StepsKeep (Still a) Any (Other a)
  still_kept = record {
    same = λ s. unmoved refl;
    trans = λ {s} {t} {u} x y. record { still = y.still ∙ x.still };
    slot = λ i w s h. record { still = get_or-set_other s.slots i a w 0 h };
    type = λ texts k new s e deep. unmoved refl;
    told = λ d s e. unmoved refl;
    binds = λ l s. unmoved refl;
    frame = λ {s} {u} h. record { still = h.still };
    alone = λ {s} {u} h. record { still = h.still };
    holds = λ p s. unmoved refl;
    logs = λ l s. unmoved refl;
    types_full = tt;
    too_deep = tt;
    told_full = tt;
  }

  pub still-enters : Enters (Still a)
  still-enters = record { enters = λ name ps ret s. unmoved refl }
