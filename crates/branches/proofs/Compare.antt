-- The loop of `compare_branches`: i branches are compared, the others follow. A law for its beginning, each turn and its ends. Assumes nothing.
use Rattle.std.specs.Prelude.{ℕ, suc, ◌+◌, ◌*◌, ◌-◌, ◌≤◌, ◌<◌, ◌≡◌, List, get_or, Ok, Err}
use Rattle.std.specs.Result.{IsErrAnd}
use Rattle.std.proofs.Math.Path.{refl}
use Rattle.std.proofs.Common.{ap, ◌∙◌, arith}
use Rattle.tok.specs.Text.{Texts}
use Rattle.tok.specs.Step.{next}
use Rattle.library.specs.Package.{Package}
use Rattle.ast.specs.Image.{word_at}
use Rattle.image_laws.specs.RecordWords.{Under}
use Rattle.trees.specs.SameWords.{cases-within}
use Rattle.places.specs.NodesAt.{NodeReady, part-ready}
use Rattle.spans.specs.Ready.{NodesReady, CasesReady, case-body, case-room, case-rest}
use Rattle.rules.specs.declared.Answer.{Answer}
use Rattle.rules.specs.Steps.{Done}
use Rattle.rules.specs.Rules.{compare_branches}
use Rattle.values.specs.Answers.{compare_branch}
use Rattle.state.specs.declared.Used.{Used}
use Rattle.state.specs.declared.Refusal.{Refusal}
use Rattle.state.specs.Context.{ctx}
use Rattle.state.specs.World.{Rest, world, Step, stepped, Steps}
use Rattle.state.specs.Reporting.{passed}
use Rattle.branches.specs.Branches.{body_answer, branches_from}

-- the last node of a body
pub last-ready : {image places : List ℕ} {n at count number : ℕ} → NodesReady image places n at count → (count ≡ 0 → ⊥) → number ≡ get_or image (at + (count - 1)) 0 → NodeReady image places number
last-ready {image} {n = n} {at} {count} h z e =
    let l : count - 1 < count = omega (arith, z) in
    let i : at + 1 * (count - 1) ≡ at + (count - 1) = omega arith in
    let u : Under n image (at + (count - 1)) = rw i at (h.nodes.each (count - 1) l) in
    (part-ready h.ready u e).ready

-- a place of a case stands in the image
pub place-low : {image places : List ℕ} {n at k : ℕ} → CasesReady image places n at k → at + 1 ≤ 8192
place-low h = omega (arith, cases-within h.cases, h.room)

module _ (T : Texts) (n default : ℕ) (image places : List ℕ) (at count : ℕ) (s t d m : List ℕ) (u : Used) where
  pub record Compared (i place : ℕ) (d' m' : List ℕ) (u' : Used) : Type 0 where
    pub within : i ≤ count
    pub ready : CasesReady image places n place (count - i)
    pub so : (ls : List Package) (v : ℕ) (rest : Rest)
        → compare_branches (ctx T ls v) n default (branches_from image s at count) (world rest s t d m u)
        ≡ compare_branches (ctx T ls v) n default (branches_from image s place (count - i)) (world rest s t d' m' u')

  pub none-compared : CasesReady image places n at count → Compared 0 at d m u
  none-compared h = let z : count - 0 ≡ count = omega arith in record { within = omega arith; ready = rw z h; so = λ ls v rest. rw z refl }

  module _ {i place : ℕ} {d' m' : List ℕ} {u' : Used} (h : Compared i place d' m' u') where
    pub all-compared : count ≤ i → (ls : List Package) (v : ℕ) → Steps (compare_branches (ctx T ls v) n default (branches_from image s at count)) s t d m u s t d' m' (Ok (tt, u'))
    unfolding branches_from compare_branches stepped
    all-compared l ls v = let z : count - i ≡ 0 = omega arith in record { step = λ rest. h.so ls v rest ∙ rw z refl }

    module _ (l : i < count) {body : ℕ} (eb : body ≡ get_or image (place + 2) 0) where
      some_left : 0 < count - i
      some_left = omega arith

      pub body-ready : NodesReady image places n (place + 3) body
      body-ready = case-body some_left h.ready eb

      pub body-room : place + 3 + body ≤ 8192
      body-room = case-room some_left h.ready eb

      module _ {token : ℕ} {a : Answer} (et : token ≡ get_or image place 0) (ea : a ≡ body_answer image s (place + 3) body) {d'' m'' : List ℕ} {r : Step Done}
          (g : (ls : List Package) (v : ℕ) → Steps (compare_branch (ctx T ls v) n default token a) s t d' m' u' s t d'' m'' r) where
        one : (ls : List Package) (v : ℕ) (rest : Rest)
            → compare_branch (ctx T ls v) n default (word_at image place) (body_answer image s (place + 3) (word_at image (place + 2))) (world rest s t d' m' u')
            ≡ stepped rest s t d'' m'' r
        one ls v rest = rw (et, ea, eb) at ((g ls v).step rest)

        split : (ls : List Package) (v : ℕ) (rest : Rest)
            → compare_branches (ctx T ls v) n default (branches_from image s at count) (world rest s t d m u)
            ≡ next (stepped rest s t d'' m'' r) (λ _. compare_branches (ctx T ls v) n default (branches_from image s (place + 3 + body) (count - (i + 1))))
        unfolding branches_from compare_branches compare_branch
        split ls v rest =
            let z : count - i ≡ suc (count - (i + 1)) = omega arith in
            h.so ls v rest ∙ rw (z, eb) (ap (λ x. next x (λ _. compare_branches (ctx T ls v) n default (branches_from image s (place + 3 + word_at image (place + 2)) (count - (i + 1)))))
            (one ls v rest))

        pub more-compared : {after : Used} → r ≡ Ok (tt, after) → Compared (i + 1) (place + 3 + body) d'' m'' after
        unfolding stepped
        more-compared o =
            let z : count - i - 1 ≡ count - (i + 1) = omega arith in
            record { within = omega arith; ready = rw z at (case-rest some_left h.ready eb); so = λ ls v rest. split ls v rest ∙ rw o refl }

        pub compared-stops : {e : Refusal} {q : Step Done} → r ≡ Err e → IsErrAnd q (λ y. y ≡ e)
            → (ls : List Package) (v : ℕ) → Steps (compare_branches (ctx T ls v) n default (branches_from image s at count)) s t d m u s t d'' m'' q
        unfolding stepped
        compared-stops {e} {q} o k ls v = record { step = λ rest. split ls v rest ∙ rw (o, passed q k) refl }
