-- `err_calls::no_specialisation` meets its contract: its text, its span and its record, one after the other. Assumes nothing.
use borrow.Author.Rules.{rules}
use Rattle.tok.specs.Text.{text}
use Rattle.display.specs.WritingLaws.{both}
use Rattle.err.specs.Message.{no_specialisation}
use Rattle.err_text.specs.RestLaws.{tells-rest-alone, told_in_whole, front-stays}
use Rattle.err_calls.proofs.no_specialisation.Goals as goal

pub returns : goal.returns
unfolding no_specialisation text
returns g c =
    let parts = c.split_at_first_free-rest.ensures.parts in
    let to_b = both _ _ _ _ c.put-a.ensures.1 c.put_call_name.ensures.1 c.and-b.ensures in
    let to_c = both _ _ _ _ to_b c.put.ensures.1 c.and-c.ensures in
    let to_d = both _ _ _ _ to_c c.show_types.ensures.1 c.and-d.ensures in
    let to_e = both _ _ _ _ to_d c.put-2.ensures.1 c.and-e.ensures in
    record {
      reports = λ cs h.
          let written = h _ _ _ c.candidates.ensures in
          let to_f = both _ _ _ _ to_e written.1 c.and-f.ensures in
          told_in_whole _ parts
          (tells-rest-alone c.new-out.ensures.from_the_start to_f (search rules) c.token_span.ensures (c.report.ensures.six_words, c.report.ensures.answer));
      front = front-stays _ _ _ c.args.counts parts;
    }
