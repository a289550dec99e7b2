-- What the walk of new statements keeps: the types buffer grows, and slots that no new node owns stay. Instances of `Keeps`. Assumes nothing.
use Rattle.std.specs.Prelude.{ℕ, ◌+◌, ◌<◌, ◌≡◌, refl, get_or, set, length}
use Rattle.std.proofs.Common.{add-one, ◌∙◌, get_or-set_other}
use mathlib.Core.List.{List, [], ◌∷◌, ◌++◌}
use Rattle.ast.specs.TypeExpr.{Arg}
use Rattle.ast.specs.Node.{Node, Nodes, Cases, Values, slot_of}
use Rattle.ast.specs.Node.{Atom, Ident, Bin, Unary, Let, Fn, Match, Call, Field, Cast, Import, Extern, Record, Array, Absent, done, then, no_case, case, no_value, value}
use Rattle.ast.specs.Claims.{count_from}
use Rattle.rules.specs.declared.Answer.{Answer}
use Rattle.rules.specs.World.{Ctx, World}
use Rattle.rules.specs.Rules.{last}
use Rattle.rules.specs.Visited.{visited_below, visited_among, visited_in_cases, visited_in_values, arguments_of, slots_of, all_slots}
use Rattle.rules.specs.Promises.{Every}
use Rattle.laws.specs.SlotsOf.{ArgSlots, SlotsOfAll}
use Rattle.laws.specs.Keeps.{Keeps, StepsKeep, Enters}
use Rattle.laws.specs.RulesKeep.{in_last}
use Rattle.tworuns.specs.Means.{grown-same, grown-trans}
use Rattle.tworuns.specs.Written.{grown-append}
use Rattle.tworuns.specs.Runs.{Runs}
use Rattle.tworuns.specs.Sound.{Sound, SoundAll, SoundCases, SoundValues}
use Rattle.tworuns.specs.Exprs.{In}
use Rattle.tworuns.specs.Rules.{Own}
use Rattle.tworuns.specs.Kept.{Goes, New}
use Rattle.tworuns.specs.Pool.{every_join}

abbrev Any : ℕ → Type 0
Any k = Unit {0}

module _ (Old : ℕ → Type 0) where
  same : (s : World) → Goes Old s s
  same s = record { types = grown-same s.types; slots = λ a o. refl }

  set_other : (slot w : ℕ) (s : World) → (New Old) slot → (a : ℕ) → Old a → get_or (set s.slots slot w) a 0 ≡ get_or s.slots a 0
  set_other slot w s n a o = get_or-set_other s.slots slot a w 0 (λ e. n (rw e at o))

  goes_kept : StepsKeep (Goes Old) Any (New Old)
  goes_kept = record {
    same = same;
    trans = λ {s} {t} {u} x y. record { types = grown-trans x.types y.types; slots = λ a o. y.slots a o ∙ x.slots a o };
    slot = λ i w s p. record { types = grown-same s.types; slots = set_other i w s p };
    type = λ texts k new s e d. record { types = grown-append s.types new; slots = λ a o. refl };
    told = λ d s e. record { types = grown-same s.types; slots = λ a o. refl };
    binds = λ l s. record { types = grown-same s.types; slots = λ a o. refl };
    frame = λ {s} {u} h. record { types = h.types; slots = h.slots };
    alone = λ {s} {u} h. record { types = h.types; slots = h.slots };
    holds = λ p s. record { types = grown-same s.types; slots = λ a o. refl };
    logs = λ l s. record { types = grown-same s.types; slots = λ a o. refl };
    types_full = tt;
    too_deep = tt;
    told_full = tt;
  }

  goes-enters : Enters (Goes Old)
  goes-enters = record { enters = λ name ps ret s. record { types = grown-same s.types; slots = λ a o. refl } }

  pub last_goes : (c : Ctx) (a : Answer) (xs : Nodes) → SlotsOfAll (New Old) xs → (s : World) → Keeps (Goes Old) Any s (last c a xs s)
  last_goes c a xs h s = in_last goes_kept goes-enters c a xs h s

-- Every visited node owns slots below V.
module _ (r : Runs) where
  abbrev Low : ℕ → Type 0
  Low slot = slot < r.first.void

  abbrev Owns : Node → Type 0
  Owns x = Every Low (slots_of x)

  args-own : (slot : ℕ) (args : List Arg) → ArgSlots (Own r) slot args → Every Low (count_from slot (length args))
  unfolding ArgSlots count_from Every
  args-own slot [] h = tt
  args-own slot (a ∷ rest) h = (h.0, args-own (slot + 1) rest h.1)

  slots-own : (t : Node) → Sound (Own r) (In r) t → Owns t
  unfolding Sound slot_of arguments_of count_from Every
  slots-own (Atom n slot token k) h = (h.0, tt)
  slots-own (Ident n slot name) h = (h.0, tt)
  slots-own (Bin n slot token op a b) h = (h.0, tt)
  slots-own (Unary n slot token op a) h = (h.0, tt)
  slots-own (Let n slot name a) h = (h.0, tt)
  slots-own (Fn n slot name ret args body) h = rw (add-one (length args)) (h.0, args-own (slot + 1) args h.4)
  slots-own (Match n slot cs token d) h = (h.0, tt)
  slots-own (Call n slot target args) h = (h.0, tt)
  slots-own (Field n slot target name) h = (h.0, tt)
  slots-own (Cast n slot token a t) h = (h.0, tt)
  slots-own (Import n slot token paths) h = (h.0, tt)
  slots-own (Extern n slot token name fs) h = (h.0, tt)
  slots-own (Record n slot token fs) h = (h.0, tt)
  slots-own (Array n slot token ms) h = (h.0, tt)
  slots-own (Absent n) h = absurd h

  mutual
    unfolding visited_below Sound Every

    below-own : (t : Node) → Sound (Own r) (In r) t → Every Owns (visited_below t)
    below-own (Atom n slot token k) h = tt
    below-own (Ident n slot name) h = tt
    below-own (Bin n slot token op a b) h = every_join Owns (a ∷ visited_below a) (b ∷ visited_below b) (slots-own a h.1, below-own a h.1) (slots-own b h.2, below-own b h.2)
    below-own (Unary n slot token op a) h = (slots-own a h.1, below-own a h.1)
    below-own (Let n slot name a) h = (slots-own a h.2, below-own a h.2)
    below-own (Fn n slot name ret args body) h = among-own body h.5
    below-own (Match n slot cs token d) h = every_join Owns (visited_in_cases cs) (visited_among d) (cases-own cs h.1) (among-own d h.2)
    below-own (Call n slot target args) h = among-own args h.2
    below-own (Field n slot target name) h = (slots-own target h.1, below-own target h.1)
    below-own (Cast n slot token a t) h = (slots-own a h.1, below-own a h.1)
    below-own (Import n slot token paths) h = tt
    below-own (Extern n slot token name fs) h = tt
    below-own (Record n slot token fs) h = values-own fs h.1
    below-own (Array n slot token ms) h = among-own ms h.1
    below-own (Absent n) h = absurd h

    among-own : (xs : Nodes) → SoundAll (Own r) (In r) xs → Every Owns (visited_among xs)
    among-own done h = tt
    among-own (then x xs) h = every_join Owns (x ∷ visited_below x) (visited_among xs) (slots-own x h.0, below-own x h.0) (among-own xs h.1)

    cases-own : (cs : Cases) → SoundCases (Own r) (In r) cs → Every Owns (visited_in_cases cs)
    cases-own no_case h = tt
    cases-own (case token x body cs) h =
        every_join Owns (x ∷ visited_below x ++ visited_among body) (visited_in_cases cs)
        (every_join Owns (x ∷ visited_below x) (visited_among body) (slots-own x h.0, below-own x h.0) (among-own body h.1)) (cases-own cs h.2)

    values-own : (vs : Values) → SoundValues (Own r) (In r) vs → Every Owns (visited_in_values vs)
    values-own no_value h = tt
    values-own (value name x vs) h = every_join Owns (x ∷ visited_below x) (visited_in_values vs) (slots-own x h.1, below-own x h.1) (values-own vs h.2)

  all_own : (xs : List Node) → Every Owns xs → Every Low (all_slots xs)
  unfolding all_slots Every
  all_own [] h = tt
  all_own (x ∷ xs) h = every_join Low (slots_of x) (all_slots xs) h.0 (all_own xs h.1)

  -- THE LAW
  pub slots-low : (xs : Nodes) → SoundAll (Own r) (In r) xs → Every Low (all_slots (visited_among xs))
  slots-low xs h = all_own (visited_among xs) (among-own xs h)
