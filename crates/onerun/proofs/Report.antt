-- One diagnostic raised: its message and primary message are well formed where it is, and those of the diagnostics before it stay. Where
-- silence is claimed, nothing is claimed after it. Assumes nothing.
use Rattle.std.specs.Prelude.{ℕ, zero, suc, ◌+◌, ◌*◌, ◌≤◌, ◌<◌, ◌≡◌, Bool, List, [], ◌∷◌, ◌++◌, get_or, take, drop}
use Rattle.std.proofs.Common.{zero-add, suc-add, sym, ap, ◌∙◌, take-take, drop-drop, drop_at, length-take-le}
use native.Mathlib.Omega.{arith}
use Rattle.std.proofs.Math.Decide.{ℕ_discrete}
use Rattle.std.proofs.Math.Path.{refl}
use Rattle.std.proofs.Math.Bool.{true, false}
use Rattle.std.proofs.Math.ListN.{length, length-append}
use Rattle.std.proofs.Math.Seq.{take-append_seam, drop-append_seam}
use Rattle.tok.specs.Step.{refusal, give, refuse, when}
use Rattle.ptype.specs.Add.{Buffer, write, append}
use Rattle.err.specs.Message.{Diagnostic}
use Rattle.err.specs.Report.{added, tell, six_words, bytes_of, has_room, one_more}
use Rattle.err.proofs.WellFormedLaws.{WellFormed}
use Rattle.laws.specs.Writes.{front-write}
use Rattle.rules.specs.World.{World, with_told}
use Rattle.rules.specs.Steps.{Done, raised_told, report, output_of}
use Rattle.rules.specs.Steps as S
use Rattle.tworuns.specs.Means.{grown-same}
use Rattle.tworuns.specs.Written.{get_d_before, take-written, get_d_written}
use Rattle.tworuns.specs.Primitive.{Room, room-true}
use Rattle.onerun.specs.Claim.{Run, OfNames, ToldWell}
use Rattle.onerun.specs.Logic.{Claimed, Silent, After, Gives, gives, stopped, g_next, g_return, Own, own-poison}

-- ── Parts of a list ──

-- the front of a rest is the rest of a front
part : (l : List ℕ) (a n : ℕ) → take n (drop a l) ≡ drop a (take (a + n) l)
part l zero n = ap (λ (k : ℕ). take k l) (sym (zero-add n))
part [] (suc a) zero = rw (suc-add a zero) refl
part [] (suc a) (suc n) = rw (suc-add a (suc n)) refl
part (x ∷ xs) (suc a) n = rw (suc-add a n) (part xs a n)

-- what lies before a write stays
part-before : (l new : List ℕ) (at a n : ℕ) → a + n ≤ at → take n (drop a (write l at new)) ≡ take n (drop a l)
part-before l new at a n h = part (write l at new) a n ∙ (ap (drop a) (front-write l (a + n) at new h) ∙ sym (part l a n))

-- a write of two pieces: each stands there
module _ (l : List ℕ) (at : ℕ) (m p : List ℕ) (fits : at + length (m ++ p) ≤ length l) where
  written : take (length (m ++ p)) (drop at (write l at (m ++ p))) ≡ m ++ p
  written =
      part (write l at (m ++ p)) at (length (m ++ p))
      ∙ (ap (drop at) (take-written l at (m ++ p) fits) ∙ drop_at (take at l) (m ++ p) at (length-take-le at l (omega arith)))

  long : length (m ++ p) ≡ length m + length p
  long = length-append m p

  first_piece : take (length m) (drop at (write l at (m ++ p))) ≡ m
  first_piece =
      let e = long in
      sym (take-take (length m) (length (m ++ p)) (drop at (write l at (m ++ p))) (omega arith)) ∙ (ap (take (length m)) written ∙ take-append_seam m p)

  second-piece : take (length p) (drop (at + length m) (write l at (m ++ p))) ≡ p
  second-piece =
      ap (take (length p)) (sym (drop-drop (length m) at (write l at (m ++ p))))
      ∙ (part (drop at (write l at (m ++ p))) (length m) (length p)
      ∙ (ap (λ (k : ℕ). drop (length m) (take k (drop at (write l at (m ++ p))))) (sym long) ∙ (ap (drop (length m)) written ∙ drop-append_seam m p)))

-- ── The diagnostics ──

module _ (s : World) (d : Diagnostic) (room : Room s d) where
  abbrev six : List ℕ
  six = six_words d s.messages.used

  abbrev after : Buffer
  after = one_more s.diagnostics (six_words d s.messages.used)

  -- those told before
  old : (k : ℕ) → k < s.diagnostics.used → ToldWell s.diagnostics s.messages k → ToldWell after (append s.messages (bytes_of d)) k
  unfolding append
  old k l t = record {
    start = t.start;
    message = t.message;
    primary = t.primary;
    start_is = get_d_before s.diagnostics.words (6 * s.diagnostics.used) six (6 * k + 3) (omega arith) ∙ t.start_is;
    message_is = get_d_before s.diagnostics.words (6 * s.diagnostics.used) six (6 * k + 4) (omega arith) ∙ t.message_is;
    primary_is = get_d_before s.diagnostics.words (6 * s.diagnostics.used) six (6 * k + 5) (omega arith) ∙ t.primary_is;
    within = omega (arith, t.within);
    message_well = rw (part-before s.messages.words (bytes_of d) s.messages.used t.start t.message (omega (arith, t.within))) t.message_well;
    primary_well = rw (part-before s.messages.words (bytes_of d) s.messages.used (t.start + t.message) t.primary (omega (arith, t.within))) t.primary_well;
  }

  word : (i : ℕ) → i < 6 → get_or after.words (6 * s.diagnostics.used + i) 0 ≡ get_or six i 0
  unfolding six_words
  word i l = get_d_written s.diagnostics.words (6 * s.diagnostics.used) six (omega (arith, room.told)) i l

  -- the one told now
  new : WellFormed d → ToldWell after (append s.messages (bytes_of d)) s.diagnostics.used
  unfolding append six_words
  new w =
      let fits : s.messages.used + length (bytes_of d) ≤ length s.messages.words = omega (arith, room.bytes) in
      let sum : length (bytes_of d) ≡ length d.message + length d.primary = length-append d.message d.primary in
      record {
        start = s.messages.used;
        message = length d.message;
        primary = length d.primary;
        start_is = word 3 (omega arith);
        message_is = word 4 (omega arith);
        primary_is = word 5 (omega arith);
        within = omega arith;
        message_well = rw (first_piece s.messages.words s.messages.used d.message d.primary fits) w.message;
        primary_well = rw (second-piece s.messages.words s.messages.used d.message d.primary fits) w.primary;
      }

  told-all : ((k : ℕ) → k < s.diagnostics.used → ToldWell s.diagnostics s.messages k) → WellFormed d
      → (k : ℕ) → k < s.diagnostics.used + 1 → ToldWell after (append s.messages (bytes_of d)) k
  told-all h w k l = by (ℕ_discrete k s.diagnostics.used)
    where
      by : Dec (k ≡ s.diagnostics.used) → ToldWell after (append s.messages (bytes_of d)) k
      by (yes e) = rw e (new w)
      by (no n) = old k (omega arith) (h k (omega arith))

-- ── The step ──

module _ (r : Run) where
  -- after a diagnostic, it is names that are claimed, or nothing
  abbrev pub Raised : {A : Type 0} → World → A → Type 0
  Raised u a = OfNames r

  module _ {s : World} (h : Claimed r s) (n : ℕ) {d : Diagnostic} (w : OfNames r → Silent r s → WellFormed d) where
    abbrev u : World
    u = with_told s (one_more s.diagnostics (six_words d s.messages.used)) (append s.messages (bytes_of d))

    of_names : Silent r u → OfNames r
    of_names z q = let e = z.none q in omega arith

    before_it : Silent r u → Silent r s
    before_it z = record { none = λ q. absurd (of_names z q) }

    after-report : Room s d → Silent r u → After r Raised s u (tt {0})
    after-report room z =
        let x = h (before_it z) in
        record {
          grown = grown-same s.types;
          recorded = λ a e. record { other = e.other; low = e.low };
          holds = record {
            slots = λ a e. x.slots a (record { other = e.other; low = e.low });
            voids = record { other = x.voids.other; low = x.voids.low };
            room = x.room;
            env = x.env;
            packages = x.packages;
            own = x.own;
            library = x.library;
            told = λ l. told-all s d room (x.told l) (w l (before_it z));
            log = x.log;
          };
          value = of_names z;
        }

    pub g_report : Gives r Raised s (report n d s)
    unfolding report tell when raised_told
    g_report = by (has_room (output_of s) d) refl
      where
        by : (b : Bool) → has_room (output_of s) d ≡ b → Gives r {A = Done} Raised s (raised_told s (when b (give tt (added (output_of s) d)) (refuse (refusal 9 n)) (output_of s)))
        by true e = gives {u = u} (record { more = omega arith }) (after-report (room-true s d e))
        by false e = stopped

    pub g_poison : {slot : ℕ} → Gives r (Own r slot) s (S.poison n d s)
    unfolding S.poison
    g_poison = g_next r _ g_report (λ a v t p. g_return r (λ z. (p z).holds) (λ z. own-poison r (p z).value))
