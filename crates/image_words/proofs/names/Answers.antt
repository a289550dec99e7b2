use Rattle.std.proofs.Common.{rules}
use Rattle.reader.specs.Reading.{next_word}
use Rattle.image_words.proofs.Lists.{words_lead}
use Rattle.image_words.proofs.names.Goals as goal

pub returns : goal.returns
returns c = words_lead _ next_word (λ from i to h. search rules) c.many.ensures
