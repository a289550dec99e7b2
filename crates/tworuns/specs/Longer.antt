-- "with longer buffers alone it is answered, alike in every number returned and in every word and byte used": two runs over the same
-- inputs, alike word for word. Assumes what refusals 1 to 6 leave (`Accepts`).
use Rattle.std.specs.Prelude.{ℕ, ◌+◌, ◌*◌, ◌≤◌, ◌<◌, ◌≡◌, Bool, get_or}
use Rattle.std.proofs.Common.{zero-add, ◌∙◌, get_or-take, ext_get_or, length-take-le}
use native.Mathlib.Omega.{arith}
use Rattle.std.proofs.Math.Decide.{ℕ_discrete}
use Rattle.std.proofs.Math.Path.{refl, sym, ap}
use Rattle.std.proofs.Math.Option.{Option, none, some}
use mathlib.Core.List.{List, [], append-nil}
use Rattle.std.proofs.Math.ListN.{length, take}
use Rattle.std.proofs.Math.Seq.{take-length}
use Rattle.tok.specs.Step.{Result, ok, Refusal}
use Rattle.ptype.specs.Add.{Buffer, write}
use Rattle.ast.specs.Image.{node_count, root_count, slot_count}
use Rattle.ast.specs.Node.{first_roots, roots_of}
use Rattle.library.specs.Package.{Param, param, signature, Function, function, pool_of, packages_of}
use Rattle.refusals.specs.Inputs.{Inputs, Buffers}
use Rattle.refusals.specs.Refusals.{refusal_of}
use Rattle.rules.specs.World.{World}
use Rattle.rules.specs.Steps.{Done}
use Rattle.rules.specs.Walk.{ctx_of, start_of, pool_types, walk, walk_of}
use Rattle.rules.specs.Check.{end_of, unless_refused, check_of}
use Rattle.rules.specs.Promises.{Answered, Longer, Alike}
use Rattle.laws.specs.Keeps.{Keeps, kept, stopped}
use Rattle.tworuns.specs.Runs.{Runs, Each, end, and, own, void, SameParam, SameFunction, Worlds}
use Rattle.tworuns.specs.Written.{take-written}
use Rattle.tworuns.specs.Walk.{Walks, walks, stops, cuts, parts, Beginning, over-walks}
use Rattle.tworuns.specs.Entries.{words_of, Holds, NotZero, Stays, walk-holds, start-holds}
use Rattle.tworuns.specs.Refused.{refusal-longer, Numbered, numbered}
use Rattle.tworuns.specs.Accepted.{TypeOf, Accepted, Accepts, library_types, walk-over, fresh_start}

-- two runs over the same inputs, alike word for word
abbrev alike : Inputs → Runs
alike i = record { strict = Unit {0}; first = ctx_of i; second = ctx_of i }

each_equal : {A : Type 0} {R : A → A → Type 0} {xs ys : List A} → ((a b : A) → R a b → a ≡ b) → Each R xs ys → xs ≡ ys
each_equal f end = refl
each_equal f (and {a = a} {b = b} h rest) = rw (f a b h, each_equal f rest)

param_eq : {n n' t t' : ℕ} → n ≡ n' → t ≡ t' → param n t ≡ param n' t'
param_eq e f = rw (e, f)

function_eq : {n n' t t' : ℕ} {ps ps' : List Param} {f f' : Bool} → n ≡ n' → ps ≡ ps' → t ≡ t' → f ≡ f' → function n (signature ps t f) ≡ function n' (signature ps' t' f')
function_eq e p t f = rw (e, p, t, f)

module _ (r : Runs) (z : r.strict) (b b' : Buffer) where
  param_equal : (p p' : Param) → SameParam r b b' p p' → p ≡ p'
  param_equal p p' h = param_eq (h.name.word z) (h.type.word z)

  function_equal : (f f' : Function) → SameFunction r b b' f f' → f ≡ f'
  function_equal f f' h = function_eq (h.name.word z) (each_equal param_equal h.sig.params) (h.sig.ret.word z) h.sig.with_slots

-- the used part of a buffer that words were written to from its beginning
take-first : (l new : List ℕ) → length new ≤ length l → take (length new) (write l 0 new) ≡ new
take-first l new h = ap (λ (n : ℕ). take n (write l 0 new)) (sym (zero-add (length new))) ∙ take-written l 0 new (rw zero-add h)

module _ (r : Runs) (z : r.strict) (same : r.first.void ≡ r.second.void) {u u' : World} (ws : Worlds r u u') where
  slots-alike : take (r.first.void + 1) u'.slots ≡ take (r.first.void + 1) u.slots
  slots-alike =
      let v : ℕ = r.first.void in
      let l : length (take (v + 1) u.slots) ≡ v + 1 = length-take-le (v + 1) u.slots (omega (arith, ws.room)) in
      let l' : length (take (v + 1) u'.slots) ≡ v + 1 = length-take-le (v + 1) u'.slots (omega (arith, ws.room')) in
      ext_get_or 0 (take (v + 1) u'.slots) (take (v + 1) u.slots) (l' ∙ sym l)
      (λ i h. get_or-take (v + 1) u'.slots i 0 (omega arith) ∙ (sym (at i (omega arith)) ∙ sym (get_or-take (v + 1) u.slots i 0 (omega arith))))
    where
      at : (i : ℕ) → i < r.first.void + 1 → get_or u.slots i 0 ≡ get_or u'.slots i 0
      at i h = by (ℕ_discrete i r.first.void)
        where
          by : Dec (i ≡ r.first.void) → get_or u.slots i 0 ≡ get_or u'.slots i 0
          by (yes e) = rw e ((ws.slots r.first.void r.second.void void).word z ∙ ap (λ (n : ℕ). get_or u'.slots n 0) (sym same))
          by (no n) = (ws.slots i i (own (omega arith))).word z

-- the answers of two walks that are alike
module _ (i : Inputs) {b b' : Buffers} (long : Longer b b') where
  ends-alike : {u u' : World} → Worlds (alike i) u u' → Holds b.functions u → Holds b'.functions u' → u.functions.used ≤ length b.functions
      → Alike (slot_count i.image) (end_of b (ok tt u)) (end_of b' (ok tt u'))
  unfolding end_of ctx_of
  ends-alike {u} {u'} ws h h' fits =
      let e : u.own ≡ u'.own = each_equal (function_equal (alike i) tt u.types u'.types) ws.own in
      let f = h.functions in
      let f' = h'.functions in
      let n : u.functions.used ≡ length (words_of u.own) = ap (λ (x : Buffer). x.used) f in
      let n' : u'.functions.used ≡ length (words_of u'.own) = ap (λ (x : Buffer). x.used) f' in
      let w : u.functions.words ≡ write b.functions 0 (words_of u.own) = ap (λ (x : Buffer). x.words) f in
      let w' : u'.functions.words ≡ write b'.functions 0 (words_of u'.own) = ap (λ (x : Buffer). x.words) f' in
      let t = ws.types tt in
      let one : 1 * u.messages.used ≡ u.messages.used = omega arith in
      record {
        number = refl;
        place = refl;
        function_words = n' ∙ (ap (λ (x : List Function). length (words_of x)) (sym e) ∙ sym n);
        type_words = sym t.used;
        diagnostics = sym ws.diagnostics.used;
        message_bytes = sym ws.messages.used;
        used_slots = slots-alike (alike i) tt refl ws;
        used_functions =
            rw (n, w, w', ← e) (take-first b'.functions (words_of u.own) (omega (arith, long.functions)) ∙ sym (take-first b.functions (words_of u.own) (omega arith)));
        used_types = sym t.front;
        used_diagnostics = sym ws.diagnostics.front;
        used_messages = ap (λ (k : ℕ). take k u'.messages.words) (sym one) ∙ (sym ws.messages.front ∙ ap (λ (k : ℕ). take k u.messages.words) one);
      }

  -- by what the first ends in: no refusal has the number 0
  results_alike : {x x' : Result World Refusal Done} → Walks (alike i) x x' → Keeps (Stays b.functions) NotZero (start_of i b) x → Keeps (Stays b'.functions) NotZero (start_of i b') x'
      → ((s : World) → x ≡ ok tt s → s.functions.used ≤ length b.functions) → (end_of b x).number ≡ 0 → Alike (slot_count i.image) (end_of b x) (end_of b' x')
  unfolding end_of NotZero
  results_alike (walks {u = u} ws) (kept k) (kept k') room e = ends-alike ws (k (start-holds i b)) (k' (start-holds i b')) (room u refl)
  results_alike stops (stopped q) k' room e = absurd (q e)
  results_alike (cuts n) k k' room e = absurd (n tt)
  results_alike (parts n l) k k' room e = absurd (n tt)

  beginning : Accepted i b → Beginning (alike i) (start_of i b) (start_of i b') (pool_of i.library) (pool_of i.library) (library_types i.library) (library_types i.library)
  unfolding ctx_of start_of TypeOf
  beginning a = record {
    fresh = fresh_start i b a.slot_room;
    fresh' = fresh_start i b' (omega (arith, a.slot_room, long.slots));
    names = λ w l. refl;
    up = omega arith;
    long_pool = omega arith;
    same_pool = take-length (pool_of i.library);
    more = [];
    library = sym (append-nil (packages_of i.library));
    library_names = a.names;
    others = pool_types (pool_of i.library);
    types = refl;
    fine = a.types;
    long_diagnostics = long.diagnostics;
    long_messages = long.messages;
    log = λ z. record {};
    long_types = λ z. long.types;
    pools = λ z. refl;
    measures = λ z. refl;
    no_more = λ z. refl;
  }

  walks-alike : Accepted i b → Walks (alike i) (walk_of i b) (walk_of i b')
  unfolding walk_of walk roots_of ctx_of
  walks-alike a =
      rw (walk-over i (root_count i.image))
      (over-walks (alike i) (beginning a) (node_count i.image) (node_count i.image) (first_roots i.image (root_count i.image)) a.roots)

  by-refusal : Accepts → (o : Option Refusal) → refusal_of i b ≡ o → Numbered o → Answered (unless_refused o i b) → Alike (slot_count i.image) (unless_refused o i b) (check_of i b')
  unfolding unless_refused check_of Numbered walk_of walk Accepts
  by-refusal acc (some x) e n answered = absurd (n answered)
  by-refusal acc none e n answered =
      let a = acc i b e in
      rw (refusal-longer long i e)
      (results_alike (walks-alike a) (walk-holds b.functions i (root_count i.image) (start_of i b)) (walk-holds b'.functions i (root_count i.image) (start_of i b')) a.function_room answered)

-- The theorem: `AnsweredLonger`, for inputs that have what refusals 1 to 6 leave.
pub answered-longer : Accepts → (i : Inputs) (b b' : Buffers) → Longer b b' → Answered (check_of i b) → Alike (slot_count i.image) (check_of i b) (check_of i b')
unfolding check_of
answered-longer acc i b b' long answered = by-refusal i long acc (refusal_of i b) refl (numbered i b) answered
