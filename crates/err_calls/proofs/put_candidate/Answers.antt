-- `err_calls::put_candidate` meets its contract: the words from its place on are lent, or none. Assumes nothing.
use Rattle.err_calls.proofs.CandidateLaws.{candidate_rest}
use Rattle.err_calls.proofs.put_candidate.Goals as goal

pub returns : goal.returns
returns c = rw (candidate_rest c.args.types.now.texts.now c.args.types.now.words.now c.args.words.now c.args.at c.min.ensures) c.show_arg_types.ensures
