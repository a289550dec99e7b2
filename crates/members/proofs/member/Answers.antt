-- `members::member` meets its contract: the turn is that of what the member is, or a refusal is passed on. Assumes nothing.
use Rattle.std.proofs.Common.{◌≡◌, sym, ap, ◌∙◌}
use Rattle.members.specs.Turns.{turn_of}
use Rattle.members.proofs.Returns.{turned, turn-refused}
use Rattle.visiting.specs.Then.{passed_on}
use Rattle.members.proofs.member.Goals as goal
use Rattle.members.proofs.member.Goals.{in-Alike, in-Silent, in-Differs}

pub returns-in_err-compared : goal.returns-in_err-compared
returns-in_err-compared c = λ ls v words f e o. passed_on c.from_residual.ensures.1
    (turn-refused c.args.types.now.texts.now c.args.node.now.n c.args.first c.args.second c.args.poisoned c.args.st c.span_of-span.ensures c.member.ensures c.in_err-compared.was ls v words f e o)

pub returns : goal.returns
unfolding turn_of
returns c =
    let turn : c.match-compared.turn ≡ turn_of c.in_ok-compared.compared c.args.poisoned = elim c.match-compared.branch [
      | in-Alike w ↦ w.turn-is ∙ sym (ap (λ m. turn_of m c.args.poisoned) w.in-Alike.is)
      | in-Silent w ↦ w.turn-is ∙ sym (ap (λ m. turn_of m c.args.poisoned) w.in-Silent.is)
      | in-Differs w ↦ w.turn-is ∙ sym (ap (λ m. turn_of m c.args.poisoned) w.in-Differs.is)
    ] in
    turned c.args.types.now.texts.now c.args.node.now.n c.args.first c.args.second c.args.poisoned c.args.st c.span_of-span.ensures c.member.ensures c.in_ok-compared.was turn
