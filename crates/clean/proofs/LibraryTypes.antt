-- The types of an accepted library, once they were measured: each means its tree, its names are well formed, it holds no Unknown, and a slot
-- of a return type stands in some argument. So its packages are as the theorem of one run takes them. Assumes nothing but that.
use Prim.Native.Nat.{ℕ, zero, suc, ◌+◌, ◌*◌, ◌≤◌, ◌<◌}
use Rattle.std.proofs.Common.{arith}
use Rattle.std.specs.Prelude.{◌≡◌, Bool, true, get_or, length}
use Rattle.std.proofs.Math.Path.{refl, ap}
use Rattle.std.proofs.Math.Option.{none}
use mathlib.Core.List.{List, [], ◌∷◌, map}
use Rattle.std.proofs.Math.Seq.{take-length}
use Rattle.tok.specs.Word.{kind_of, payload_of}
use Rattle.tok.specs.Text.{Texts}
use Rattle.tok.specs.Name.{good_payload, in_library}
use Rattle.tok.proofs.NameLaws.{good_name-payload, name_bytes-well_formed}
use Rattle.ptype.specs.Ty.{depth_of, deepest}
use Rattle.ptype.specs.Words.{inner_word, field_count, fields_from, unfolded, ty_of}
use Rattle.ptype.specs.Kinds.{shape, is_plain, is_wrap, is_record, is_named}
use Rattle.ptype.proofs.UnfoldLaws.{unfolded-plain, unfolded-wrap, unfolded_record, unfolded-named}
use Rattle.ptype.proofs.DepthLaws.{depth_positive}
use Rattle.ptype.specs.Inside.{wrapped, in_field}
use Rattle.library.specs.Pool.{Pool}
use Rattle.library.specs.Package.{Param, Signature, Function, Package, pool_of, packages_of}
use Rattle.library.specs.LibraryFault.{library_fault}
use Rattle.library.specs.Each.{Each}
use Rattle.library.specs.TypeWords.{TypeWord}
use Rattle.library.specs.PoolRead.{PoolFine}
use Rattle.library.specs.PoolTypes.{type-inside}
use Rattle.library.specs.PackagesRead.{ParamFine, FunctionFine, PackageFine}
use Rattle.library.specs.Accepted.{library_pool, library-fine}
use Rattle.rules.specs.Walk.{pool_types, param_types, function_types, package_types}
use Rattle.rules.specs.Promises.{Every}
use Rattle.tworuns.specs.Means.{means-ty_of}
use Rattle.tworuns.specs.Runs.{Runs}
use Rattle.tworuns.specs.Pool.{Begins, pool-same, every_front, every_back}
use Rattle.tworuns.specs.Walk.{every-both, every_map}
use Rattle.tworuns.specs.Accepted.{TypeOf, library_types}
use Rattle.library_laws.specs.Types.{type-words, library-types}
use Rattle.library_laws.specs.Slots.{Measured, SignatureTypes}
use Rattle.library_laws.proofs.Slots.{signature-types}
use Rattle.library_laws.specs.Room.{RoomFor}
use Rattle.library_laws.proofs.Room.{signatures_room}
use Rattle.onerun.specs.Claim.{Run, All, end, and, Both, NameAt, Fine, FineFields, Is, ParamOk, FunctionOk, PackageOk}
use Rattle.onerun.specs.Claim as C
use Rattle.onerun.proofs.Walk.{Shallow}
use Rattle.clean.specs.LibraryTypes.{pool_buffer}
use Rattle.clean.specs.SlotNames.{names-slots, params-names}

module _ (r : Run) (words : List ℕ) (accepted : library_fault r.ctx.texts words ≡ none) where
  abbrev t : Texts
  t = r.ctx.texts

  abbrev pool : Pool
  pool = library_pool r.ctx.texts words

  pool-fine : PoolFine pool
  pool-fine = (library-fine r.ctx.texts words accepted).pool

  -- ── Names and Unknown ──

  library-name : (w : ℕ) → good_payload in_library r.ctx.texts.library w ≡ true → NameAt r w
  library-name w e l = name_bytes-well_formed r.ctx.texts in_library w e

  fields-fine : (f : ℕ) → ((v : ℕ) → TypeWord pool pool.size v → depth_of (unfolded t pool.words f v) ≤ f → Fine r (unfolded t pool.words f v))
      → (at k : ℕ) → ((i j : ℕ) → i < k → j ≡ at + 2 * i → NameAt r (get_or pool.words j 0)) → ((i j : ℕ) → i < k → j ≡ at + 2 * i + 1 → TypeWord pool pool.size (get_or pool.words j 0))
      → deepest (fields_from (unfolded t pool.words f) t pool.words at k) ≤ f → FineFields r (fields_from (unfolded t pool.words f) t pool.words at k)
  unfolding fields_from depth_of
  fields-fine f go at zero ns ts l = C.no_more
  fields-fine f go at (suc k) ns ts l =
      C.one_more (ns 0 at (omega arith) (omega arith)) (go (get_or pool.words (at + 1) 0) (ts 0 (at + 1) (omega arith) (omega arith)) (omega arith))
      (fields-fine f go (at + 2) k (λ i j m e. ns (suc i) j (omega arith) (omega arith)) (λ i j m e. ts (suc i) j (omega arith) (omega arith)) (omega arith))

  type-fine : (f w : ℕ) → TypeWord pool pool.size w → depth_of (unfolded t pool.words f w) ≤ f → Fine r (unfolded t pool.words f w)
  unfolding depth_of
  type-fine zero w h l = absurd (omega (arith, depth_positive (unfolded t pool.words zero w)))
  type-fine (suc f) w h l = elim (shape (kind_of w)) [
    | is_plain k ↦ rw (unfolded-plain t pool.words w {deep = suc f} refl refl k) (C.flat {k = kind_of w} h.kind.low (λ q e. omega (arith, h.kind.high)))
    | is_wrap k ↦
        let e = unfolded-wrap t pool.words w {deep = suc f} refl refl k in
        let d = ap depth_of e in
        rw e (C.wrapped (type-fine f (inner_word pool.words w) (type-inside pool-fine h (wrapped k)) (omega arith)))
    | is_record k ↦
        let e = unfolded_record t pool.words w {deep = suc f} refl refl k in
        let d = ap depth_of e in
        let b = h.list k in
        rw e (C.recorded (fields-fine f (λ v. type-fine f v) (payload_of w + 1) (field_count pool.words w)
        (λ i j m q. rw q (library-name _ (good_name-payload in_library r.ctx.texts.library _ (((pool-fine.each (payload_of w) b.below).list b.count).pairs i m).name)))
        (λ i j m q. rw q (type-inside pool-fine h (in_field k i m))) (omega arith)))
    | is_named k ↦ rw (unfolded-named t pool.words w {deep = suc f} refl refl k) (C.called (library-name w (h.name k)))
  ]

  -- ── Words ──

  abbrev One : ℕ → Type 0
  One w = Is r (pool_buffer words) w (ty_of r.ctx.texts (pool_of words) w)

  abbrev same : Runs
  same = record { strict = ⊥; first = r.ctx; second = r.ctx }

  begins : Begins (pool_of words) (pool_buffer words)
  begins = record { front = take-length (pool_of words); more = omega arith }

  word-is : (w : ℕ) → TypeWord pool pool.size w → TypeOf r.ctx.texts (pool_of words) w → Shallow r (pool_of words) w → One w
  unfolding TypeOf ty_of
  word-is w h f l =
      let m = pool-same same (pool_of words) begins begins (λ v i. refl) w f l in
      let e : ty_of r.ctx.texts (pool_of words) w ≡ m.tree = means-ty_of m.left (omega (arith, m.low)) in
      record { means = rw e m.left; low = l; fine = type-fine 33 w h (omega arith) }

  -- the types of the packages
  module _ (measured : Every (Shallow r (pool_of words)) (library_types words)) where
    words_are : Every One (library_types words)
    words_are =
        every-both (λ w. TypeWord pool pool.size w × TypeOf r.ctx.texts (pool_of words) w) (Shallow r (pool_of words)) One (λ w h l. word-is w h.0 h.1 l) (library_types words)
        (every-both (TypeWord pool pool.size) (TypeOf r.ctx.texts (pool_of words)) (λ w. TypeWord pool pool.size w × TypeOf r.ctx.texts (pool_of words) w) (λ w h f. (h, f)) (library_types words)
        (type-words r.ctx.texts words accepted) (library-types r.ctx.texts words accepted)) measured

    package_words_lem : Every One (package_types (packages_of words))
    package_words_lem = every_back One (pool_types (pool_of words)) (package_types (packages_of words)) words_are

    package_measured : Every (Measured r.ctx.texts (pool_of words)) (package_types (packages_of words))
    package_measured =
        every_map (Shallow r (pool_of words)) (Measured r.ctx.texts (pool_of words)) (λ w l. record { low = l }) _
        (every_back (Shallow r (pool_of words)) (pool_types (pool_of words)) (package_types (packages_of words)) measured)

  -- ── Signatures ──

  params_ok : (s : Bool) (ps : List Param) → Each (ParamFine pool s) ps → Every One (param_types ps) → Both (ParamOk r (pool_buffer words)) ps (map (λ a. ty_of r.ctx.texts (pool_of words) a.type) ps)
  unfolding Each Every param_types
  params_ok s [] h k = C.end
  params_ok s (a ∷ ps) h k = C.and (record { name = library-name a.name (good_name-payload in_library r.ctx.texts.library a.name h.0.name); type = k.0 }) (params_ok s ps h.1 k.1)

  abbrev Room : Signature → Type 0
  Room f = RoomFor r.ctx.texts (pool_of words) f

  -- what more is claimed of a signature follows from the room that its bindings have
  module _ (claimed : (f : Signature) → RoomFor r.ctx.texts (pool_of words) f → r.sig f (map (λ a. ty_of r.ctx.texts (pool_of words) a.type) f.params)) where
    functions-ok : (fs : List Function) → Each (FunctionFine pool) fs → Every One (function_types fs) → Every (λ f. SignatureTypes r.ctx.texts (pool_of words) f.sig) fs → Every (λ f. Room f.sig) fs
        → All (FunctionOk r (pool_buffer words)) fs
    unfolding Each Every function_types
    functions-ok [] h k s m = end
    functions-ok (f ∷ fs) h k s m =
        let rest = every_back One (param_types f.sig.params) (f.sig.ret ∷ function_types fs) k in
        and (record {
          sig = record {
            trees = map (λ a. ty_of r.ctx.texts (pool_of words) a.type) f.sig.params;
            params = params_ok f.sig.with_slots f.sig.params h.0.sig.params (every_front One (param_types f.sig.params) (f.sig.ret ∷ function_types fs) k);
            ret = ty_of r.ctx.texts (pool_of words) f.sig.ret;
            returns = rest.0;
            stands = λ q p e. names-slots p _ (λ n i. params-names p r.ctx.texts (pool_of words) f.sig.params e n (s.0.stand n i));
            sig = claimed f.sig m.0;
          };
        })
        (functions-ok fs h.1 rest.1 s.1 m.1)

    packages-ok : (ks : List Package) → Each (PackageFine pool) ks → Every One (package_types ks) → Every (λ k. Every (λ f. SignatureTypes r.ctx.texts (pool_of words) f.sig) k.functions) ks
        → Every (λ k. Every (λ f. Room f.sig) k.functions) ks → All (PackageOk r (pool_buffer words)) ks
    unfolding Each Every package_types
    packages-ok [] h k s m = end
    packages-ok (p ∷ ks) h k s m =
        and (record { functions = functions-ok p.functions h.0.functions (every_front One (function_types p.functions) (package_types ks) k) s.0 m.0 })
        (packages-ok ks h.1 (every_back One (function_types p.functions) (package_types ks) k) s.1 m.1)

    -- THE LAW
    pub library-ok : Every (Shallow r (pool_of words)) (library_types words) → All (PackageOk r (pool_buffer words)) (packages_of words)
    library-ok m =
        packages-ok (packages_of words) (library-fine r.ctx.texts words accepted).packages (package_words_lem m) (signature-types r.ctx.texts words accepted (package_measured m))
        (signatures_room r.ctx.texts words accepted)
