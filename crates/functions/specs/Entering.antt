-- The entry of a function that is defined: what the functions that write it ask for. Laws of it. Assumes nothing.
use Rattle.std.specs.Prelude.{ℕ, zero, suc, ◌+◌, ◌*◌, ◌≤◌, ◌≡◌, refl, List, [], ◌∷◌, ◌++◌, get_or, length, set}
use Rattle.std.proofs.Common.{sym, ap, ◌∙◌, arith}
use Rattle.ptype.specs.Add.{write}
use Rattle.add.specs.WriteLaws.{write_nil, write-one, write-append}
use Rattle.library.specs.Package.{Param, params_from}
use Rattle.type_expr.specs.Ready.{TypeReady}
use Rattle.rules.specs.Steps.{pairs_of, entry_of}
use Rattle.state.specs.Signatures.{entry_end, entries_end}
use Rattle.state.specs.declared.Used.{Used}
use Rattle.visit.specs.declared.State.{State}
use Rattle.visit.specs.StoreLaws.{length_pairs}
use Rattle.visit.specs.Free.{FreeRows}
use Rattle.parameters.specs.Arguments.{ArgumentsReady, params-split}

-- the state with one more function entered
abbrev pub entered_with : State → Used → State
entered_with st u = record { used = u; names = st.names; held = st.held; packages = st.packages; functions = st.functions + 1 }

-- room for `count` pairs at a word, which stand in scratch from another word on
pub record CopyRoom (functions : List ℕ) (at from count : ℕ) : Type 0 where
  pub room : at + 2 * count ≤ length functions
  pub low : from + 2 * count ≤ 8192

-- room for an entry after those there
pub record EntryRoom (functions : List ℕ) (entries from count : ℕ) : Type 0 where
  pub room : entries_end functions 0 0 entries + (3 + 2 * count) ≤ length functions
  pub low : from + 2 * count ≤ 8192

-- what a function that is defined needs before its body
pub record FnReady (image places : List ℕ) (st : State) (functions scratch : List ℕ) (slot ret at count : ℕ) : Type 0 where
  pub arguments : ArgumentsReady image places st scratch slot at count
  pub type : TypeReady image places ret
  pub rows : FreeRows (3 + 2 * count) st functions

-- entries are at most a third of the words
pub ends-many : (l : List ℕ) (k at : ℕ) → at + 3 * k ≤ entries_end l 0 at k
unfolding entries_end
ends-many l zero at = omega arith
ends-many l (suc k) at = omega (arith, ends-many l k (entry_end l 0 at))

pub length-params : (l : List ℕ) (at k : ℕ) → length (params_from l at k) ≡ k
unfolding params_from
length-params l at zero = refl
length-params l at (suc k) = ap suc (length-params l (at + 2) k)

pub pairs-append : (ps qs : List Param) → pairs_of (ps ++ qs) ≡ pairs_of ps ++ pairs_of qs
unfolding pairs_of
pairs-append [] qs = refl
pairs-append (p ∷ ps) qs = ap (λ r. p.name ∷ p.type ∷ r) (pairs-append ps qs)

-- pairs copied one after the other
pub copy_begin : (f l : List ℕ) (at from : ℕ) → f ≡ write f at (pairs_of (params_from l from 0))
unfolding pairs_of params_from
copy_begin f l at from = sym (write_nil f at)

pub copy_more : (f l : List ℕ) (at from k : ℕ) {f' f'' : List ℕ} {name t : ℕ} → f' ≡ write f at (pairs_of (params_from l from k)) → name ≡ get_or l (from + 2 * k) 0 → t ≡ get_or l (from + 2 * k + 1) 0
    → f'' ≡ write f' (at + 2 * k) (name ∷ t ∷ []) → f'' ≡ write f at (pairs_of (params_from l from (k + 1)))
unfolding pairs_of params_from
copy_more f l at from k {f'} {f''} {name} {t} e en et e'' =
    let n : length (pairs_of (params_from l from k)) ≡ 2 * k = length_pairs (params_from l from k) ∙ ap (λ j. 2 * j) (length-params l from k) in
    e'' ∙ ap (λ x. write x (at + 2 * k) (name ∷ t ∷ [])) e
    ∙ ap (λ j. write (write f at (pairs_of (params_from l from k))) (at + j) (name ∷ t ∷ [])) (sym n)
    ∙ sym (write-append f at (pairs_of (params_from l from k)) (name ∷ t ∷ []))
    ∙ ap (λ x. write f at (pairs_of (params_from l from k) ++ x)) (rw (en, et) refl)
    ∙ ap (write f at) (sym (pairs-append (params_from l from k) (params_from l (from + 2 * k) 1)))
    ∙ ap (λ ps. write f at (pairs_of ps)) (sym (params-split l from k 1))

-- an entry written in parts: name and count, pairs, return type
pub enter-parts : (f l : List ℕ) (at from name count ret : ℕ) {f₁ f₂ f₃ : List ℕ} → f₁ ≡ write f at (name ∷ count ∷ []) → f₂ ≡ write f₁ (at + 2) (pairs_of (params_from l from count))
    → f₃ ≡ set f₂ (at + 2 + 2 * count) ret → f₃ ≡ write f at (entry_of name (params_from l from count) ret)
unfolding entry_of
enter-parts f l at from name count ret {f₁} {f₂} {f₃} e₁ e₂ e₃ =
    let ps : List Param = params_from l from count in
    let n : length (pairs_of ps) ≡ 2 * count = length_pairs ps ∙ ap (λ j. 2 * j) (length-params l from count) in
    let z : at + suc (suc (length (pairs_of ps))) ≡ at + 2 + 2 * count = omega arith in
    let two : f₂ ≡ write f at (name ∷ count ∷ pairs_of ps) = e₂ ∙ ap (λ x. write x (at + 2) (pairs_of ps)) e₁ ∙ sym (write-append f at (name ∷ count ∷ []) (pairs_of ps)) in
    e₃ ∙ ap (λ x. set x (at + 2 + 2 * count) ret) two
    ∙ ap (λ j. set (write f at (name ∷ count ∷ pairs_of ps)) j ret) (sym z)
    ∙ sym (write-one (write f at (name ∷ count ∷ pairs_of ps)) (at + suc (suc (length (pairs_of ps)))) ret)
    ∙ sym (write-append f at (name ∷ count ∷ pairs_of ps) (ret ∷ []))
    ∙ ap (λ j. write f at ((name ∷ j ∷ pairs_of ps) ++ (ret ∷ []))) (sym (length-params l from count))
