use Rattle.call_args.proofs.Slots.{number-ready}
use Rattle.call_args.proofs.argument_of.Goals as goal

pub slot_of-requires : goal.slot_of-requires
slot_of-requires c = number-ready c.requires.given c.requires.within c.word_after-number.ensures

pub span_of-requires : goal.span_of-requires
span_of-requires c = number-ready c.requires.given c.requires.within c.word_after-number.ensures
