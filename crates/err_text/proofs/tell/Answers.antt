-- `err_text::tell` meets its contract: bytes that are counted past the buffer, and else both texts and the record. Assumes nothing.
use mathlib.Core.Path.{refl}
use native.Mathlib.Omega.{arith}
use borrow.Author.Rules.{rules}
use Rattle.display.specs.WritingLaws.{both}
use Rattle.err.proofs.ReportLaws.{no_room}
use Rattle.err_text.specs.RestLaws.{tells, front-stays}
use Rattle.err_text.proofs.tell.Goals as goal

pub returns-then-counts-messages : goal.returns-then-counts-messages
returns-then-counts-messages c = record { reports = no_room (omega arith); front = refl }

pub returns : goal.returns
returns c =
    let said = c.put_pieces-a.ensures.1 in
    let both_said = both _ _ _ _ said c.put_pieces-b.ensures.1 c.and.ensures in
    let parts = c.split_at_first_free-rest.ensures.parts in
    record {
      reports =
          tells _ _ _ (omega arith) parts c.new-out.ensures.from_the_start said both_said (search rules) c.report.ensures.six_words c.report.ensures.answer;
      front = front-stays _ _ _ c.args.counts parts;
    }
