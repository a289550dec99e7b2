-- What a call takes for granted, handed on from the packages held to the group, and from there to a call with slots. Assumes nothing.
use Prim.Native.Nat.{ℕ, zero, suc, ◌+◌, ◌-◌, ◌≤◌, min}
use mathlib.Core.Path.{◌≡◌, refl, sym, ap, subst, ◌∙◌}
use mathlib.Core.Bool.{Bool, true, false, true≢false}
use Rattle.std.specs.Prelude.{Some, Option as Found}
use mathlib.Core.Option.{Option, none, some}
use mathlib.Core.List.{List, [], ◌∷◌}
use native.Mathlib.Omega.{arith}
use native.Mathlib.Decide.{dec_le}
use lib.ListN.{length, get_or, take, drop, length-drop, get_or-eq_default}
use lib.Seq.{length-take-le}
use Rattle.tok.specs.Text.{Texts, name_bytes, same_bytes}
use Rattle.library.specs.Package.{Signature, Function, Package, find_package, group_of}
use Rattle.library.specs.PackagesRead.{package_at}
use Rattle.rules.specs.Promises.{Every}
use Rattle.state.specs.Signatures.{signature_at, entry_at, entry_end, entries_from}
use Rattle.state.specs.Store.{held_from, held_end, extern_at}
use Rattle.scope.specs.declared.Held as F
use Rattle.scope.specs.declared.Held.TheVariants as H
use Rattle.scope.specs.Found.{held_of}
use Rattle.library.specs.EntryList.{entries}
use Rattle.library.specs.Entries.{flag_words}
use Rattle.library.specs.EntryLaws.{entries-library}
use Rattle.signatures.specs.Groups.{group, as_slotted}
use Rattle.slotted_call.specs.Bindable.{SlottedReady}
use Rattle.visit.specs.StoreLaws.{reach-end}
use Rattle.pkg_group.specs.declared.Candidate.{Candidate}
use Rattle.pkg_group.specs.declared.Candidates.{Candidates}
use Rattle.pkg_group.specs.declared.Candidates.TheVariants as C
use Rattle.pkg_group.specs.GroupSize.{group_size, signature_of, size_found}
use Rattle.pkg_group.specs.GroupSizeLaws.{size-one, slotted-of}
use Rattle.pkg_group.specs.Groups.{GroupReady}
use Rattle.pkg_call.specs.Found.{candidates_at}
use Rattle.pkg_call.specs.Ready.{SlotsReady, MayBind, PackageBinds, GatheredReady, LibraryReady, HeldReady}

-- ── Among many ──

-- what holds of every function holds of the group's signatures
group-every : (P : Signature → Type 0) (texts : Texts) (name : List ℕ) (fs : List Function) → Every (λ (f : Function). P f.sig) fs → Every P (group_of texts name fs)
unfolding Every group_of
group-every P texts name [] h = tt
group-every P texts name (f ∷ fs) h = pick (same_bytes name (name_bytes texts f.name)) (group-every P texts name fs h.1)
  where
    pick : (b : Bool) → Every P (group_of texts name fs) → Every P (elim b [ true ↦ f.sig ∷ group_of texts name fs | false ↦ group_of texts name fs ])
    pick true rest = (h.0, rest)
    pick false rest = rest

-- what holds of every package holds of the one found
abbrev Of : (P : Package → Type 0) → Option Package → Type 0
Of P none = Unit {0}
Of P (some p) = P p

found-every : (P : Package → Type 0) (texts : Texts) (name : List ℕ) (ps : List Package) → Every P ps → Of P (find_package texts name ps)
unfolding Every find_package
found-every P texts name [] h = tt
found-every P texts name (p ∷ ps) h = pick (same_bytes name (name_bytes texts p.name)) (found-every P texts name ps h.1)
  where
    pick : (b : Bool) → Of P (find_package texts name ps) → Of P (elim b [ true ↦ some p | false ↦ find_package texts name ps ])
    pick true rest = h.0
    pick false rest = rest

-- ── The functions of a package, by its place ──

-- past the end of the words there are none
entries-begin : (words : List ℕ) (flags at : ℕ) → entries_from words flags (min at (length words) + 2) (get_or words (at + 1) 0) ≡ entries_from words flags (at + 2) (get_or words (at + 1) 0)
unfolding entries_from
entries-begin words flags at = elim (dec_le at (length words)) [
  | yes l ↦
      let e : min at (length words) + 2 ≡ at + 2 = omega arith in
      ap (λ n. entries_from words flags n (get_or words (at + 1) 0)) e
  | no l ↦
      let z : get_or words (at + 1) 0 ≡ 0 = get_or-eq_default words 0 (omega arith) in
      rw z refl
]

module _ (texts : Texts) (name words : List ℕ) (at : ℕ) where
  -- as the code makes them
  pub candidates-are : (flagged : Bool) → group texts name (entries words flagged (min at (length words) + 2) (get_or words (at + 1) 0)) ≡ candidates_at texts name words flagged at
  candidates-are flagged = ap (group_of texts name) (entries-begin words (flag_words flagged) at)

  pub library-group : candidates_at texts name words true at ≡ group_of texts name (package_at words at).functions
  library-group = ap (group_of texts name) (entries-library words (get_or words (at + 1) 0) (at + 2))

  pub extern-group : candidates_at texts name words false at ≡ group_of texts name (extern_at words at).functions
  unfolding extern_at
  extern-group = refl

-- ── Functions without slots ──

-- entries without a flag have none
plain-entries : (words : List ℕ) (k at : ℕ) → Every (λ (f : Function). f.sig.with_slots ≡ false) (entries_from words 0 at k)
unfolding Every entries_from entry_at signature_at
plain-entries words zero at = tt
plain-entries words (suc k) at = (refl, plain-entries words k (entry_end words 0 at))

module _ (texts : Texts) (name words : List ℕ) (at : ℕ) {found : Candidates} (a : group_size (candidates_at texts name words false at) ≡ size_found found) where
  pub extern-plain : (c : Candidate) → found ≡ C.Slotted c → ⊥
  unfolding Every signature_at
  extern-plain c o =
      let e : candidates_at texts name words false at ≡ signature_of c true ∷ [] = size-one _ (a ∙ ap size_found o) in
      let plain = group-every _ texts name _ (plain-entries words (get_or words (at + 1) 0) (at + 2)) in
      let all : Every (λ (g : Signature). g.with_slots ≡ false) (candidates_at texts name words false at) = plain in
      let one : Every (λ (g : Signature). g.with_slots ≡ false) (signature_of c true ∷ []) = rw e at all in
      true≢false one.0

-- ── From what is gathered to the group ──

module _ {texts : Texts} {image places scratch : List ℕ} {top n args count : ℕ} {slots types : List ℕ} {used : ℕ}
    (h : GatheredReady texts image places scratch top n args count slots types used) {end : ℕ} (ee : end ≡ top + count) where
  pub group-ready : {fs : List Signature} {found : Candidates} → group_size fs ≡ size_found found → ((c : Candidate) → found ≡ C.Slotted c → ⊥)
      → GroupReady image places n args count slots (take (end - top) (drop top scratch)) fs found
  group-ready a o =
      let z : end - top ≡ count = omega arith in
      record { nodes = h.given.nodes; gathered = rw z h.gathered; among = a; other = o }

-- ── A call with slots ──

-- the tail of scratch that is lent
tail_long : (e : List ℕ) → length (take (length e - 8192) (drop 8192 e)) ≡ length e - 8192
tail_long e = length-take-le (length e - 8192) (drop 8192 e) (rw length-drop (omega arith))

module _ {texts : Texts} {image places words scratch : List ℕ} {top n at args count : ℕ} {slots types : List ℕ} {used : ℕ}
    (h : LibraryReady texts image places words scratch top n at args count slots types used) where
  -- the words from 8,192 on are room for 4,096 pairs
  pub slotted-ready : (name : List ℕ) {c : Candidate} {f : Signature} {found : Candidates} → group_size (candidates_at texts name words true at) ≡ size_found found
      → found ≡ C.Slotted c → f ≡ signature_of c true → SlottedReady texts image places n args count slots types used f (take (length scratch - 8192) (drop 8192 scratch))
  unfolding Every
  slotted-ready name {c} {f} a o k =
      let e : candidates_at texts name words true at ≡ as_slotted f ∷ [] =
      size-one _ (a ∙ ap size_found o) ∙ ap (λ h. h ∷ []) (sym (ap as_slotted k ∙ slotted-of c)) in
      let m : Every (MayBind texts types used) (as_slotted f ∷ []) =
      subst (Every (MayBind texts types used)) (sym (library-group texts name words at) ∙ e) (group-every _ texts name (package_at words at).functions h.bind) in
      let b : SlotsReady texts types used (as_slotted f) = m.0 refl in
      record {
        nodes = h.ready.given.nodes;
        params = b.params;
        given = h.ready.given.meant;
        ret = b.ret;
        room = λ bs i. omega (arith, b.room bs i, h.ready.long, tail_long scratch);
      }

-- ── From the packages held to one of them ──

module _ {texts : Texts} {image places words scratch : List ℕ} {held packages top n args count : ℕ} {slots types : List ℕ} {used : ℕ}
    (h : HeldReady texts image places words scratch held packages top n args count slots types used) where
  pub held-near : held_end scratch held packages ≤ 16384
  held-near = omega (arith, h.ends, reach-end scratch packages held)

  module _ (pkg : ℕ) (found : Found F.Held) (e : held_of words scratch found ≡ find_package texts (name_bytes texts pkg) (held_from words scratch held packages)) where
    bound : Of (PackageBinds texts types used) (held_of words scratch found)
    bound = subst (Of (PackageBinds texts types used)) (sym e) (found-every (PackageBinds texts types used) texts (name_bytes texts pkg) (held_from words scratch held packages) h.bind)

    pub library-ready : {at : ℕ} → found ≡ Some (H.Library at) → LibraryReady texts image places words scratch top n at args count slots types used
    library-ready o = record { ready = h.ready; bind = rw o at bound }
