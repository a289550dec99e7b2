use Rattle.std.proofs.Common.{rules}
use Rattle.image_words.proofs.Lists.{many_leads}
use Rattle.image_words.proofs.pairs.Goals as goal

pub returns : goal.returns
returns c = many_leads _ (λ from i to h. search rules) c.many.ensures
