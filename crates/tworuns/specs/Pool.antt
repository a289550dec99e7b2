-- What an accepted library has: its type words refer into the pool, all the way down, and its names lie in their text. Such a word
-- means its tree, in both runs. By induction on the levels. Assumes nothing.
use Prim.Native.Nat.{ℕ, zero, suc, ◌+◌, ◌*◌, ◌≤◌, ◌<◌}
use native.Mathlib.Omega.{arith}
use Rattle.std.specs.Prelude.{◌≡◌, true, get_or, length, take}
use Rattle.std.proofs.Math.Path.{refl, ap}
use Rattle.std.proofs.Common.{sym, ◌∙◌, get_or-take}
use mathlib.Core.List.{List, [], ◌∷◌, ◌++◌}
use Rattle.std.proofs.Math.Seq.{take-length}
use Rattle.tok.specs.Word.{kind_of, payload_of}
use Rattle.tok.specs.Text.{Texts, name_bytes}
use Rattle.ptype.specs.Ty.{depth_of, deepest}
use Rattle.ptype.specs.Words.{inner_word, field_count, fields_from, unfolded, ty_of}
use Rattle.ptype.specs.Add.{Buffer, buffer}
use Rattle.ptype.specs.Kinds.{names, shape, is_plain, is_wrap, is_record, is_named}
use Rattle.ptype.proofs.UnfoldLaws.{unfolded-plain, unfolded-wrap, unfolded_record, unfolded-named}
use Rattle.ptype.proofs.DepthLaws.{depth_positive}
use Rattle.ptype.specs.Inside.{field_name, field_type, wrapped, in_field, Throughout, level, Refers, NamesLie}
use Rattle.ptype.proofs.InsideLaws.{throughout_map}
use Rattle.ptype.proofs.GrowLaws.{ty_of_grow}
use Rattle.library.specs.Package.{Param, Function, Package}
use Rattle.rules.specs.Names.{package_names, function_names, param_names, word_names}
use Rattle.rules.specs.Walk.{param_types, function_types, package_types}
use Rattle.rules.specs.Promises.{Every}
use Rattle.tworuns.specs.Means.{Means, FieldsMean, no_more, one_more, Grown, means_grow}
use Rattle.tworuns.specs.Means as M
use Rattle.tworuns.specs.Runs.{Runs, Each, end, and, SameType, SameParam, SameFunction, SamePackage}
use Rattle.tworuns.specs.Exprs.{Names, In, same_name}

-- A type word: it refers into the pool, has a type's kind, and its names lie in their text.
pub record TypeFine (t : Texts) (types : List ℕ) (used w : ℕ) : Type 0 where
  pub refers : Refers types used w
  pub kind : 1 ≤ kind_of w
  pub names : NamesLie t types w

-- with names that have the same bytes in other texts
record Fits (t t' : Texts) (types : List ℕ) (used w : ℕ) : Type 0 where
  refers : Refers types used w
  kind : 1 ≤ kind_of w
  own : names (kind_of w) ≡ true → name_bytes t' w ≡ name_bytes t w
  of_fields : kind_of w ≡ 8 → (i : ℕ) → i < field_count types w → name_bytes t' (field_name types w i) ≡ name_bytes t (field_name types w i)

module _ (t t' : Texts) (types : List ℕ) (used : ℕ) where
  means-fields : (f : ℕ) → ((w : ℕ) → Throughout (Fits t t' types used) types f w → depth_of (unfolded t types f w) ≤ f → Means t' types used w (unfolded t types f w)) → (at k : ℕ)
      → ((i j : ℕ) → i < k → j ≡ at + 2 * i → name_bytes t' (get_or types j 0) ≡ name_bytes t (get_or types j 0))
      → ((i j : ℕ) → i < k → j ≡ at + 2 * i + 1 → (j < used) × Throughout (Fits t t' types used) types f (get_or types j 0))
      → deepest (fields_from (unfolded t types f) t types at k) ≤ f → FieldsMean t' types used at k (fields_from (unfolded t types f) t types at k)
  unfolding fields_from depth_of
  means-fields f go at zero ns ts l = no_more
  means-fields f go at (suc k) ns ts l =
      let h = ts 0 (at + 1) (omega arith) (omega arith) in
      one_more (ns 0 at (omega arith) (omega arith)) h.0 (go (get_or types (at + 1) 0) h.1 (omega arith))
      (means-fields f go (at + 2) k (λ i j m e. ns (suc i) j (omega arith) (omega arith)) (λ i j m e. ts (suc i) j (omega arith) (omega arith)) (omega arith))

  means-of : (f w : ℕ) → Throughout (Fits t t' types used) types f w → depth_of (unfolded t types f w) ≤ f → Means t' types used w (unfolded t types f w)
  unfolding depth_of
  means-of zero w h l = absurd (omega (arith, depth_positive (unfolded t types zero w)))
  means-of (suc f) w (level a inside) l =
      elim (shape (kind_of w)) [
        | is_plain h ↦ rw (unfolded-plain t types w {deep = suc f} refl refl h) (M.flat refl h (λ e. absurd (omega (arith, a.kind))))
        | is_wrap h ↦
            let e = unfolded-wrap t types w {deep = suc f} refl refl h in
            let d = ap depth_of e in
            rw e (M.wrapped refl h (a.refers.to_inner h) (means-of f (inner_word types w) (inside (inner_word types w) (wrapped h)) (omega arith)))
        | is_record h ↦
            let e = unfolded_record t types w {deep = suc f} refl refl h in
            let d = ap depth_of e in
            let n = a.refers.to_fields h in
            rw e (M.recorded h n (means-fields f (λ v. means-of f v) (payload_of w + 1) (field_count types w)
            (λ i j m q. rw q (a.of_fields h i m)) (λ i j m q. (omega arith, rw q (inside (field_type types w i) (in_field h i m)))) (omega arith)))
        | is_named h ↦ rw (unfolded-named t types w {deep = suc f} refl refl h) (M.called refl h (a.own h))
      ]

-- A types buffer that begins with the pool.
pub record Begins (pool : List ℕ) (d : Buffer) : Type 0 where
  pub front : take (length pool) d.words ≡ pool
  pub more : length pool ≤ d.used

pub begins-grown : {pool : List ℕ} {d : Buffer} → Begins pool d → Grown (buffer pool (length pool)) d
begins-grown {pool} {d} h = record {
  more = h.more;
  front = λ j l. sym (sym (get_or-take (length pool) d.words j 0 l) ∙ ap (λ (x : List ℕ). get_or x j 0) h.front);
}

pub begins-tree : {pool : List ℕ} {d : Buffer} (t : Texts) (w : ℕ) → Begins pool d → Throughout (TypeFine t pool (length pool)) pool 33 w → ty_of t pool w ≡ ty_of t d.words w
begins-tree {pool} {d} t w h f = ty_of_grow (record { front = take-length pool ∙ sym h.front }) t (throughout_map (λ v x. x.refers) f)

module _ (r : Runs) (pool : List ℕ) {d d' : Buffer} (h : Begins pool d) (h' : Begins pool d') (same : Names r) where
  fits-first : (w : ℕ) → TypeFine r.first.texts pool (length pool) w → Fits r.first.texts r.first.texts pool (length pool) w
  fits-first w f = record { refers = f.refers; kind = f.kind; own = λ k. refl; of_fields = λ k i l. refl }

  fits-second : (w : ℕ) → TypeFine r.first.texts pool (length pool) w → Fits r.first.texts r.second.texts pool (length pool) w
  fits-second w f = record {
    refers = f.refers;
    kind = f.kind;
    own = λ k. sym (same w (f.names.own k));
    of_fields = λ k i l. sym (same (field_name pool w i) (f.names.of_fields k i l));
  }

  -- A library's type word, measured in the first run, is of one type in both.
  pub pool-same : (w : ℕ) → Throughout (TypeFine r.first.texts pool (length pool)) pool 33 w → depth_of (ty_of r.first.texts d.words w) ≤ 32 → SameType r d d' w w
  unfolding ty_of
  pool-same w f low =
      let e = begins-tree r.first.texts w h f in
      let l : depth_of (ty_of r.first.texts pool w) ≤ 32 = rw e low in
      record {
        tree = unfolded r.first.texts pool 33 w;
        left = means_grow (begins-grown h) (means-of r.first.texts r.first.texts pool (length pool) 33 w (throughout_map fits-first f) (omega arith));
        right = means_grow (begins-grown h') (means-of r.first.texts r.second.texts pool (length pool) 33 w (throughout_map fits-second f) (omega arith));
        low = l;
        word = λ z. refl;
      }

-- what holds of two lists one after the other
pub every_join : {A : Type 0} (P : A → Type 0) (xs ys : List A) → Every P xs → Every P ys → Every P (xs ++ ys)
unfolding Every
every_join P [] ys h k = k
every_join P (x ∷ xs) ys h k = (h.0, every_join P xs ys h.1 k)

pub every_front : {A : Type 0} (P : A → Type 0) (xs ys : List A) → Every P (xs ++ ys) → Every P xs
unfolding Every
every_front P [] ys h = tt
every_front P (x ∷ xs) ys h = (h.0, every_front P xs ys h.1)

pub every_back : {A : Type 0} (P : A → Type 0) (xs ys : List A) → Every P (xs ++ ys) → Every P ys
unfolding Every
every_back P [] ys h = h
every_back P (x ∷ xs) ys h = every_back P xs ys h.1

-- The packages of a library, whose types are of one type in both runs and whose names lie in their text.
module _ (r : Runs) (d d' : Buffer) (same : Names r) where
  abbrev pub One : ℕ → Type 0
  One w = SameType r d d' w w

  params_same : (ps : List Param) → Every (In r) (param_names ps) → Every One (param_types ps) → Each (SameParam r d d') ps ps
  unfolding Every param_names param_types
  params_same [] n t = end
  params_same (p ∷ ps) n t =
      and (record { name = same_name r same p.name n.0; type = t.0 }) (params_same ps (every_back (In r) (word_names (p.type ∷ [])) (param_names ps) n.1) t.1)

  functions-same : (fs : List Function) → Every (In r) (function_names fs) → Every One (function_types fs) → Each (SameFunction r d d') fs fs
  unfolding Every function_names function_types
  functions-same [] n t = end
  functions-same (f ∷ fs) n t =
      let own : List ℕ = param_names f.sig.params in
      let ret : List ℕ = word_names (f.sig.ret ∷ []) in
      let rest = every_back One (param_types f.sig.params) (f.sig.ret ∷ function_types fs) t in
      and (record {
        name = same_name r same f.name n.0;
        sig = record {
          params = params_same f.sig.params (every_front (In r) own ret (every_front (In r) (own ++ ret) (function_names fs) n.1))
              (every_front One (param_types f.sig.params) (f.sig.ret ∷ function_types fs) t);
          ret = rest.0;
          with_slots = refl;
        };
      })
      (functions-same fs (every_back (In r) (own ++ ret) (function_names fs) n.1) rest.1)

  pub packages-same : (ps : List Package) → Every (In r) (package_names ps) → Every One (package_types ps) → Each (SamePackage r d d') ps ps
  unfolding Every package_names package_types
  packages-same [] n t = end
  packages-same (p ∷ ps) n t =
      let names : List ℕ = function_names p.functions in
      let types : List ℕ = function_types p.functions in
      and
      (record {
        name = same_name r same p.name n.0;
        functions = functions-same p.functions (every_front (In r) names (package_names ps) n.1) (every_front One types (package_types ps) t);
      })
      (packages-same ps (every_back (In r) names (package_names ps) n.1) (every_back One types (package_types ps) t))
