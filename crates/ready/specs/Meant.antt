-- What a call of a package's function takes for granted (slotted_call: `SlottedReady`), from the run's claim: the types of signatures and of
-- arguments mean types, and the bindings of a function with slots have room. Laws. Assumes nothing.
use Rattle.std.specs.Prelude.{ℕ, zero, suc, ◌+◌, ◌*◌, ◌≤◌, ◌<◌, ◌≡◌, true, List, [], ◌∷◌, length, get_or}
use Rattle.std.proofs.Common.{arith, sym, ap, ◌∙◌, true≢false}
use Rattle.std.proofs.Math.Decide.{ℕ_discrete}
use Rattle.std.proofs.Math.Path.{refl}
use Rattle.tok.specs.Word.{kind_of, payload_of}
use Rattle.tok.specs.Text.{Texts}
use Rattle.ptype.specs.Ty.{Ty, Fields, plain, depth_of}
use Rattle.ptype.specs.Words.{inner_word, field_count, ty_of}
use Rattle.ptype.specs.Kinds.{wraps, names, Plain}
use Rattle.ptype.specs.Inside.{field_type, Refers, Inside, wrapped, in_field, below, level, Within}
use Rattle.ptype.specs.Add.{buffer}
use Rattle.ptype.specs.Slots.{Binding}
use Rattle.library.specs.Slots.{slot_names}
use Rattle.library.specs.Package.{Param, param, Signature, Function, Package}
use Rattle.ast.specs.Image.{node_count}
use Rattle.ast.specs.Node.{slot_of, tree_of}
use Rattle.rules.specs.Promises.{Every}
use Rattle.tworuns.specs.Means.{Means, FieldsMean, means-ty_of}
use Rattle.tworuns.specs.Means as M
use Rattle.tworuns.specs.Operators.{plain-low}
use Rattle.library_laws.specs.Bindings.{Part, Held, held_none, among-left, among-right, held-bind}
use Rattle.library_laws.specs.Room.{most_pairs}
use Rattle.onerun.specs.Claim.{All, Both, Is, ParamOk, SignatureOk, FunctionOk, PackageOk}
use Rattle.onerun.specs.Claim as C
use Rattle.onerun.specs.Grows.{is-tree}
use Rattle.tworuns.specs.Inner.{no_name}
use Rattle.onerun.proofs.Nodes.{proper-slot}
use Rattle.state.specs.Store.{held_from}
use Rattle.spans.specs.Ready.{NodesReady}
use Rattle.slotted.specs.Meant.{Meant}
use Rattle.slotted_call.specs.Bindable.{Bindable, none, more}
use Rattle.visit.specs.declared.State.{State}
use Rattle.visit.specs.Whole.{Lent}
use Rattle.ready.specs.Ready.{slots_among, walk_run, Ready}

-- ── A word that means a type refers only into the used words ──

module _ {types : List ℕ} {used w : ℕ} where
  -- one level, and those below
  within_level : Refers types used w → ((f v : ℕ) → Inside types w v → Within types used f v) → (deep : ℕ) → Within types used deep w
  within_level h k zero = below
  within_level h k (suc f) = level h (k f)

  within-flat : {k : ℕ} → kind_of w ≡ k → Plain k → (deep : ℕ) → Within types used deep w
  within-flat e p = within_level (record { to_inner = λ h. absurd (true≢false (sym h ∙ (ap wraps e ∙ p.no_wrap))); to_fields = λ h. absurd (p.no_record (sym e ∙ h)) }) inside
    where
      inside : (f v : ℕ) → Inside types w v → Within types used f v
      inside f v (wrapped h) = absurd (true≢false (sym h ∙ (ap wraps e ∙ p.no_wrap)))
      inside f v (in_field h i l) = absurd (p.no_record (sym e ∙ h))

  within-wrap : {k : ℕ} → kind_of w ≡ k → wraps k ≡ true → payload_of w < used → ((f : ℕ) → Within types used f (inner_word types w)) → (deep : ℕ) → Within types used deep w
  within-wrap e h l m = within_level (record { to_inner = λ _. l; to_fields = λ k. absurd (true≢false (sym h ∙ ap wraps (sym e ∙ k))) }) inside
    where
      inside : (f v : ℕ) → Inside types w v → Within types used f v
      inside f v (wrapped k) = m f
      inside f v (in_field k i j) = absurd (true≢false (sym h ∙ ap wraps (sym e ∙ k)))

  within_record : kind_of w ≡ 8 → payload_of w + 1 + 2 * field_count types w ≤ used → ((f i : ℕ) → i < field_count types w → Within types used f (field_type types w i)) → (deep : ℕ)
      → Within types used deep w
  within_record e l m = within_level (record { to_inner = λ h. absurd (true≢false (sym h ∙ ap wraps e)); to_fields = λ _. l }) inside
    where
      inside : (f v : ℕ) → Inside types w v → Within types used f v
      inside f v (wrapped h) = absurd (true≢false (sym h ∙ ap wraps e))
      inside f v (in_field h i j) = m f i j

  within-named : {k : ℕ} → kind_of w ≡ k → names k ≡ true → (deep : ℕ) → Within types used deep w
  within-named {k} e h = within_level
      (record { to_inner = λ (i : wraps (kind_of w) ≡ true). absurd (no_name k (rw e at i) h); to_fields = λ i. absurd (true≢false (sym h ∙ ap names (sym e ∙ i))) }) inside
    where
      inside : (f v : ℕ) → Inside types w v → Within types used f v
      inside f v (wrapped i) = absurd (no_name k (rw e at i) h)
      inside f v (in_field i j l) = absurd (true≢false (sym h ∙ ap names (sym e ∙ i)))

module _ {t : Texts} {types : List ℕ} {used : ℕ} where
  mutual
    means-within : {w : ℕ} {x : Ty} → Means t types used w x → (deep : ℕ) → Within types used deep w
    means-within (M.flat e p z) deep = within-flat e p deep
    means-within (M.wrapped e h l m) deep = within-wrap e h l (λ f. means-within m f) deep
    means-within (M.recorded e l m) deep = within_record e l (λ f i j. fields_within m f i j) deep
    means-within (M.called e h n) deep = within-named e h deep

    fields_within : {at k : ℕ} {fs : Fields} → FieldsMean t types used at k fs → (deep i : ℕ) → i < k → Within types used deep (get_or types (at + 2 * i + 1) 0)
    fields_within M.no_more deep i l = absurd (omega arith)
    fields_within {at} (M.one_more q l m ms) deep zero j = let e : at + 2 * 0 + 1 ≡ at + 1 = omega arith in rw e (means-within m deep)
    fields_within {at} (M.one_more q l m ms) deep (suc i) j = let e : at + 2 * suc i + 1 ≡ at + 2 + 2 * i + 1 = omega arith in rw e (fields_within ms deep i (omega arith))

  -- what one run says of a word is what the steps of a call ask of it
  pub means-meant : {w : ℕ} {x : Ty} → Means t types used w x → depth_of x ≤ 32 → Meant t types used w
  means-meant m l =
      let e = means-ty_of m (omega arith) in
      record { means = record { within = λ deep. means-within m deep; is = refl; shallow = rw e l } }

  -- the word of an empty slot
  zero-meant : Meant t types used 0
  unfolding depth_of
  zero-meant = means-meant (M.flat {k = 0} refl (plain-low 0 (omega arith)) (λ e. refl)) (omega arith)

-- ── Signatures ──

-- entry by entry
both_at : {A B : Type 0} {P : A → B → Type 0} {xs : List A} {ys : List B} (d : A) (e : B) → Both P xs ys → (i : ℕ) → i < length xs → P (get_or xs i d) (get_or ys i e)
both_at d e C.end i l = absurd (omega arith)
both_at d e (C.and x rest) zero l = x
both_at d e (C.and x rest) (suc i) l = both_at d e rest i (omega arith)

both-length : {A B : Type 0} {P : A → B → Type 0} {xs : List A} {ys : List B} → Both P xs ys → length xs ≡ length ys
both-length C.end = refl
both-length (C.and x rest) = ap suc (both-length rest)

-- the slots of one type are slots of all
slots-part : (xs : List Ty) (i : ℕ) → i < length xs → Part (slot_names (get_or xs i (plain 0))) (slots_among xs)
unfolding slots_among
slots-part [] i l = absurd (omega arith)
slots-part (x ∷ xs) zero l = record { each = λ n e. among-left n (slot_names x) (slots_among xs) e }
slots-part (x ∷ xs) (suc i) l = record { each = λ n e. among-right n (slot_names x) (slots_among xs) ((slots-part xs i (omega arith)).each n e) }

-- What a call asks of a signature: its types mean types; all that its parameters can bind has room in 4,096 pairs.
pub record SignatureMeant (T : Texts) (types : List ℕ) (used : ℕ) (f : Signature) : Type 0 where
  pub params : (i : ℕ) → i < length f.params → Meant T types used (get_or f.params i (param 0 0)).type
  pub ret : Meant T types used f.ret
  pub room : f.with_slots ≡ true → (bs : List Binding) → Bindable T types f.params bs → length bs ≤ most_pairs

module _ (T : Texts) (image words : List ℕ) {types : List ℕ} {used : ℕ} where
  is-meant : {w : ℕ} {x : Ty} → Is (walk_run T image words) (buffer types used) w x → Meant T types used w
  is-meant h = means-meant h.means h.low

  -- the bindings of parameters are held by the slots of their types
  bindable-held : {ps : List Param} {xs : List Ty} → Both (ParamOk (walk_run T image words) (buffer types used)) ps xs → {bs : List Binding} → Bindable T types ps bs → Held (slots_among xs) bs
  bindable-held {ps} {xs} h none = held_none (slots_among xs)
  bindable-held {ps} {xs} h (more {bs = bs} k i l types' w e) =
      let p = both_at (param 0 0) (plain 0) h i l in
      let q : ty_of T types (get_or ps i (param 0 0)).type ≡ get_or xs i (plain 0) = is-tree (walk_run T image words) p.type in
      rw (e, q) (held-bind T types' (slots_among xs) (get_or xs i (plain 0)) w bs (slots-part xs i (omega (arith, both-length h))) (bindable-held h k))

  pub signature-meant : {f : Signature} → SignatureOk (walk_run T image words) (buffer types used) f → SignatureMeant T types used f
  signature-meant h = record {
    params = λ i l. is-meant (both_at (param 0 0) (plain 0) h.params i l).type;
    ret = is-meant h.returns;
    room = λ e bs k. (h.sig e).most bs (bindable-held h.params k);
  }

  functions-meant : {fs : List Function} → All (FunctionOk (walk_run T image words) (buffer types used)) fs → Every (λ f. SignatureMeant T types used f.sig) fs
  unfolding Every
  functions-meant C.end = tt
  functions-meant (C.and h rest) = (signature-meant h.sig, functions-meant rest)

  packages-meant : {ps : List Package} → All (PackageOk (walk_run T image words) (buffer types used)) ps → Every (λ p. Every (λ f. SignatureMeant T types used f.sig) p.functions) ps
  unfolding Every
  packages-meant C.end = tt
  packages-meant (C.and h rest) = (functions-meant h.functions, packages-meant rest)

-- ── Of a world that is ready ──

module _ {T : Texts} {image places words : List ℕ} {r w : ℕ} {st : State} {b : Lent} (y : Ready T image places words r w st b) where
  -- every function of every package held
  pub package_meant : Every (λ p. Every (λ f. SignatureMeant T b.types st.used.types f.sig) p.functions) (held_from words b.scratch st.held st.packages)
  package_meant = packages-meant T image words y.holds.packages

  -- a node's slot: it has a type, or the word 0
  pub argument-meant : (n : ℕ) → n < node_count image → Meant T b.types st.used.types (get_or b.slots (slot_of (tree_of image n)) 0)
  argument-meant n l = by (ℕ_discrete (get_or b.slots (slot_of (tree_of image n)) 0) 0)
    where
      by : Dec (get_or b.slots (slot_of (tree_of image n)) 0 ≡ 0) → Meant T b.types st.used.types (get_or b.slots (slot_of (tree_of image n)) 0)
      by (yes e) = rw e zero-meant
      by (no d) =
          let low = proper-slot (walk_run T image words) (tree_of image n) (y.given.proper n l) in
          is-meant T image words (y.holds.slots (slot_of (tree_of image n)) (record { other = d; low = omega arith })).is

  -- each argument of a call
  pub arguments-meant : {n args count : ℕ} → NodesReady image places n args count → (i : ℕ) → i < count
      → Meant T b.types st.used.types (get_or b.slots (slot_of (tree_of image (get_or image (args + i) 0))) 0)
  arguments-meant {n} {args} {count} h i l =
      let e : args + 1 * i ≡ args + i = omega arith in
      let u : get_or image (args + i) 0 < n = rw e at (h.nodes.each i l).under in
      argument-meant (get_or image (args + i) 0) (omega (arith, h.ready.below))
