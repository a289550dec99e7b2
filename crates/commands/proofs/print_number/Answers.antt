use Rattle.std.proofs.Common.{arith}
use Rattle.std.proofs.lemmas.Grind.{common_steps}
use Rattle.commands.proofs.DigitLaws.{printed}
use Rattle.commands.proofs.print_number.Goals as goal

pub slice_bounds-digits-end : goal.slice_bounds-digits-end
slice_bounds-digits-end g c = let p = printed c.args.n (omega arith) c.new-out.ensures.from_the_start c.put_digits.ensures.1 in grind (arith, common_steps, p)

pub slice_bounds-print-end : goal.slice_bounds-print-end
slice_bounds-print-end g c = let p = printed c.args.n (omega arith) c.new-out.ensures.from_the_start c.put_digits.ensures.1 in grind (arith, common_steps, p)

pub returns : goal.returns
returns g c = let p = printed c.args.n (omega arith) c.new-out.ensures.from_the_start c.put_digits.ensures.1 in grind (arith, common_steps, p)
