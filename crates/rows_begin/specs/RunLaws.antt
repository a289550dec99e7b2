-- The check of an input's four parts, and its rows: a law for each way to them. Assumes nothing.
use Rattle.std.specs.Prelude.{ℕ, ◌≤◌, ◌≡◌, Bool, true, false, cond, List, length, take, replicate, eqb, Some, Ok, Err}
use Rattle.std.proofs.Math.Path.{refl}
use Rattle.std.proofs.Common.{sym, ap, ◌∙◌, arith}
use Rattle.std.proofs.lemmas.List.{length-replicate}
use Rattle.ptype.specs.Add.{overwrite}
use Rattle.ast.specs.Image.{slot_count}
use Rattle.refusals.specs.Inputs.{Inputs, Buffers}
use Rattle.rules.specs.Check.{check_of}
use Rattle.refuse.specs.Answer.{inputs_of}
use Rattle.bench_rows.specs.Bench.{image_length, library_length, fits, inputs_in}
use Rattle.ending.specs.declared.Refused.{Refused as Numbered}
use Rattle.ending.specs.Ended.{Checked, ended_of, checked_of}
use Rattle.demands.specs.Demands.{check_table}
use Rattle.rows_input.specs.WordsLaws.{image-whole, library-whole}
use Rattle.rows_part.specs.declared.Row.TheVariants.{Input}
use Rattle.rows_part.specs.Printing.{first_row}
use Rattle.rows_begin.specs.declared.Begun.{Begun}
use Rattle.rows_begin.specs.Beginning.{begun_in, alone, narrowed, begun_of, Runs, Begins}

-- ── The check of the parts ──

module _ (i : Inputs) (b b' : Buffers) where
  -- no refusal of number 0 is answered
  numbered : (x : Numbered) → Err x ≡ checked_of (ended_of (Err x) b') → eqb x.number 0 ≡ false
  numbered x p = by (eqb x.number 0) p
    where
      by : (t : Bool) → ◌≡◌ {A = Checked} (Err x) (cond t (Ok (record { function_words = 0; type_words = 0; diagnostics = 0; message_bytes = 0 })) (Err x)) → t ≡ false
      by true e = let z : ◌≡◌ {A = ℕ} 0 1 = cc in absurd (omega arith)
      by false e = refl

  -- counts of an answer are small, since so few words of functions are lent
  begun-is : (v : ℕ) (c : Checked) → check_of i b ≡ ended_of c b' → c ≡ checked_of (check_of i b) → length b.functions ≡ 8192 → begun_of v c ≡ begun_in v (ended_of c b')
  unfolding begun_of first_row
  begun-is v (Ok c) e a l =
      let h = (check_table i b b' (Ok c) e).answered refl in
      let p : narrowed c.function_words ≡ c.function_words = omega (arith, h.functions.fits) in
      let q : narrowed c.diagnostics ≡ c.diagnostics = omega (arith, h.most_diagnostics) in
      rw (p, q)
  begun-is v (Err x) e a l =
      let z = numbered x (rw e at a) in
      rw z

  after_is : (c : Checked) → b' ≡ (ended_of c b').after
  after_is (Ok c) = refl
  after_is (Err x) = refl

  pub runs : {r : Begun} {v : ℕ} (c : Checked) → check_of i b ≡ ended_of c b' → c ≡ checked_of (check_of i b) → length b.functions ≡ 8192
      → r ≡ begun_of v c → v ≡ slot_count i.image → Runs i b b' r
  runs {v = v} c e a l p q = record {
    begun = p ∙ begun-is v c e a l ∙ rw (← e, q);
    after = after_is c ∙ ap (λ x. x.after) (sym e);
  }

-- ── From the input ──

module _ (bytes : List ℕ) (b b' : Buffers) where
  pub begins_input : {r : Begun} → fits bytes ≡ false → r ≡ alone (Some Input) → b' ≡ b → Begins bytes b b' r
  begins_input h e q = record { begun = rw h e; after = rw h q }

  -- the words read are the input's
  module _ (h : fits bytes ≡ true) {image words : List ℕ} (ei : image ≡ overwrite (replicate 16384 0) (inputs_in bytes).image)
      (ew : words ≡ overwrite (replicate 16384 0) (inputs_in bytes).library) where
    abbrev enough : 16384 ≤ length (replicate {A = ℕ} 16384 0)
    enough = omega (arith, length-replicate {A = ℕ} 16384 0)

    image-is : {n : ℕ} {image' : List ℕ} → n ≡ image_length bytes → image' ≡ take n image → image' ≡ (inputs_in bytes).image
    image-is en e = e ∙ rw (en, ei) (image-whole bytes (replicate 16384 0) h enough)

    library-is : {n : ℕ} {words' : List ℕ} → n ≡ library_length bytes → words' ≡ take n words → words' ≡ (inputs_in bytes).library
    library-is en e = e ∙ rw (en, ew) (library-whole bytes (replicate 16384 0) h enough)

    pub begins-runs : {r : Begun} {script text image' words' : List ℕ} {n k : ℕ} → n ≡ image_length bytes → k ≡ library_length bytes
        → image' ≡ take n image → words' ≡ take k words → script ≡ (inputs_in bytes).script → text ≡ (inputs_in bytes).library_text
        → Runs (inputs_of script image' text words') b b' r → Begins bytes b b' r
    begins-runs {r} en ek e₁ e₂ es et q =
        let w : Runs (inputs_in bytes) b b' r = rw (es, et, image-is en e₁, library-is ek e₂) at q in
        record { begun = rw h w.begun; after = rw h w.after }
