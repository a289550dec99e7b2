-- `library_read::Pool::argument` meets its contract: a name and then a type. Assumes nothing.
use Rattle.std.proofs.Common.{◌≡◌, ap, ◌∙◌}
use Rattle.library_read.proofs.RecordWays.{argument-by}
use Rattle.library_read.proofs.Pool.argument.Goals as goal

pub returns : goal.returns
returns c = λ flag s.
    let e : c.texts.inside.library.now ≡ c.args.self.now.texts.library = ap (λ t. t.library) c.texts.view_is ∙ ap (λ p. p.texts.library) c.self.view_is in
    argument-by _ _ _ _ _ _ _ (rw e at c.in_ok-at.ensures) c.next_word-w.ensures (c.good_signature_type.ensures flag s) c.word.ensures
