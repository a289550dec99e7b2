-- "4,096 pairs are enough": how many slots one call of an accepted library can bind. Every argument has two words in the library, and so
-- has every field; a library has at most 8,192. By counting words. Assumes nothing.
use Prim.Native.Nat.{ℕ, zero, suc, ◌+◌, ◌*◌, ◌≤◌}
use native.Mathlib.Omega.{arith}
use Rattle.std.specs.Prelude.{◌≡◌, length, get_or}
use Rattle.std.proofs.Math.Path.{refl, ap}
use Rattle.std.proofs.Math.Option.{none, some}
use mathlib.Core.List.{List, [], ◌∷◌, ◌++◌}
use Rattle.std.proofs.Math.ListN.{length-append}
use Rattle.std.proofs.Common.{le-leb}
use Rattle.tok.specs.Text.{Texts}
use Rattle.ptype.specs.Ty.{Ty}
use Rattle.ptype.specs.Words.{ty_of}
use Rattle.ptype.specs.Slots.{Binding, bind_slots}
use Rattle.slots.specs.Bindings.{bindings_after, fitted}
use Rattle.library.specs.Pool.{Pool}
use Rattle.library.specs.Package.{Param, Signature, Function, Package, pool_of, params_from, function_at, function_end, functions_from, functions_end, packages_from, packages_of}
use Rattle.library.specs.Slots.{slot_names}
use Rattle.library.specs.LibraryFault.{library_fault}
use Rattle.library.specs.Each.{Each}
use Rattle.library.specs.PoolRead.{PoolFine}
use Rattle.library.specs.PackagesRead.{FunctionFine, PackageFine, package_end, packages_end}
use Rattle.library.specs.Past.{functions_end-after}
use Rattle.library.specs.Longer.{packages_end-after}
use Rattle.library.specs.Accepted.{library_pool, packages_place, library-fine, pool-length}
use Rattle.rules.specs.Walk.{param_types}
use Rattle.rules.specs.Promises.{Every}
use Rattle.library_laws.specs.Types.{param-types}
use Rattle.library_laws.specs.Slots.{slots_in}
use Rattle.library_laws.specs.Bindings.{Part, Held, among-left, among-right, held-bind, held-most}
use Rattle.library_laws.specs.Leaves.{leaves_of, field_leaves, leaves_of-most, field_leaves-most, slots-counted}
use Rattle.library_laws.specs.Room.{most_pairs, RoomFor}

-- ── Words ──

types_long : (ps : List Param) → length (param_types ps) ≡ length ps
unfolding param_types
types_long [] = refl
types_long (p ∷ ps) = ap suc (types_long ps)

module _ (words : List ℕ) where
  params-long : (at k : ℕ) → length (params_from words at k) ≡ k
  unfolding params_from
  params-long at zero = refl
  params-long at (suc k) = ap suc (params-long (at + 2) k)

  -- a function whose arguments lie in the list, behind the first `from` words
  Fits : (from : ℕ) → Function → Type 0
  Fits from f = from + 2 * length f.sig.params ≤ length words

  functions-fit : (from k at : ℕ) → from ≤ at → functions_end words at k ≤ length words → Every (Fits from) (functions_from words at k)
  unfolding Fits Every functions_from functions_end function_at
  functions-fit from zero at l m = tt
  functions-fit from (suc k) at l m = (
    omega (arith, functions_end-after words k (function_end words at), params-long (at + 3) (get_or words (at + 2) 0)),
    functions-fit from k (function_end words at) (omega arith) m,
  )

  packages-fit : (from k at : ℕ) → from ≤ at → packages_end words at k ≤ length words → Every (λ p. Every (Fits from) p.functions) (packages_from words at k)
  unfolding Every packages_from packages_end
  packages-fit from zero at l m = tt
  packages-fit from (suc k) at l m =
      let a = functions_end-after words (get_or words (at + 1) 0) (at + 2) in
      let b = packages_end-after words k (package_end words at) in
      (functions-fit from (get_or words (at + 1) 0) (at + 2) (omega arith) (omega arith), packages-fit from k (package_end words at) (omega arith) m)

-- ── Slots ──

module _ (t : Texts) (words : List ℕ) (accepted : library_fault t words ≡ none) where
  abbrev pool : Pool
  pool = library_pool t words

  pool-fine : PoolFine pool
  pool-fine = (library-fine t words accepted).pool

  function-room : (f : Function) → FunctionFine pool f → Fits words (packages_place words) f → RoomFor t (pool_of words) f.sig
  unfolding Fits
  function-room f g l = record {
    most = λ bs h.
        let ws : List ℕ = param_types f.sig.params in
        let good = param-types pool pool-fine f.sig.with_slots f.sig.params g.sig.params in
        let others : List (List ℕ) = leaves_of t (pool_of words) ws ++ field_leaves t (pool_of words) in
        let part : Part (slots_in t (pool_of words) ws) others = record { each = λ n e. slots-counted pool pool-fine (pool-length t words accepted) n ws good e } in
        omega (
          arith,
          held-most (slots_in t (pool_of words) ws) others part bs h,
          length-append (leaves_of t (pool_of words) ws) (field_leaves t (pool_of words)),
          leaves_of-most t (pool_of words) ws,
          field_leaves-most t (pool_of words),
          types_long f.sig.params,
          pool-length t words accepted,
          (library-fine t words accepted).small,
          l,
        );
  }

  functions-room : (fs : List Function) → Each (FunctionFine pool) fs → Every (Fits words (packages_place words)) fs → Every (λ f. RoomFor t (pool_of words) f.sig) fs
  unfolding Each Every
  functions-room [] h l = tt
  functions-room (f ∷ fs) h l = (function-room f h.0 l.0, functions-room fs h.1 l.1)

  packages-room : (ks : List Package) → Each (PackageFine pool) ks → Every (λ k. Every (Fits words (packages_place words)) k.functions) ks
      → Every (λ k. Every (λ f. RoomFor t (pool_of words) f.sig) k.functions) ks
  unfolding Each Every
  packages-room [] h l = tt
  packages-room (k ∷ ks) h l = (functions-room k.functions h.0.functions l.0, packages-room ks h.1 l.1)

  -- THE LAW: every signature of an accepted library.
  pub signatures_room : Every (λ k. Every (λ f. RoomFor t (pool_of words) f.sig) k.functions) (packages_of words)
  unfolding packages_of
  signatures_room =
      let g = library-fine t words accepted in
      packages-room (packages_of words) g.packages (packages-fit words (packages_place words) (get_or words 1 0) (packages_place words) (omega arith) (omega (arith, g.ends)))

-- the slots of an argument are slots of the signature
parts : (t : Texts) (pool : List ℕ) (names : List (List ℕ)) (ps : List Param) → Part (slots_in t pool (param_types ps)) names
    → Every (λ a. Part (slot_names (ty_of t pool a.type)) names) ps
unfolding Every param_types slots_in
parts t pool names [] h = tt
parts t pool names (a ∷ ps) h =
    let own : List (List ℕ) = slot_names (ty_of t pool a.type) in
    let rest : List (List ℕ) = slots_in t pool (param_types ps) in
    (record { each = λ n e. h.each n (among-left n own rest e) }, parts t pool names ps (record { each = λ n e. h.each n (among-right n own rest e) }))

pub argument-part : (t : Texts) (pool : List ℕ) (s : Signature) → Every (λ a. Part (slot_names (ty_of t pool a.type)) (slots_in t pool (param_types s.params))) s.params
argument-part t pool s = parts t pool _ s.params (record { each = λ n e. e })

-- What binding an argument of such a signature gives has room in 4,096 pairs: it is never cut off.
pub bind-fits : (t : Texts) (pool types : List ℕ) (s : Signature) → RoomFor t pool s → (room : ℕ) → most_pairs ≤ room → (e : Ty) (w : ℕ) (bs : List Binding)
    → Part (slot_names e) (slots_in t pool (param_types s.params)) → Held (slots_in t pool (param_types s.params)) bs
    → fitted room (bind_slots t types e w bs) ≡ some (bind_slots t types e w bs)
unfolding fitted
bind-fits t pool types s r room l e w bs p h =
    let m = r.most _ (held-bind t types (slots_in t pool (param_types s.params)) e w bs p h) in
    rw (le-leb (length (bindings_after (bind_slots t types e w bs))) room (omega arith)) refl
