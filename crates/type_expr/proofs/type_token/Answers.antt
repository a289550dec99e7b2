use Rattle.std.proofs.Common.{arith, sym, ◌∙◌}
use Rattle.type_expr.proofs.Returns.{levels-option, levels-array, token-option, token-array, token-atom, token-foreign, token_record}
use Rattle.type_expr.proofs.type_token.Goals as goal

pub returns-in-Atom : goal.returns-in-Atom
returns-in-Atom c = sym (c.loop-inner.invariant ∙ token-atom c.in-Atom.ensures)

pub returns-in-Atom-2 : goal.returns-in-Atom-2
returns-in-Atom-2 c = sym (c.loop-inner.invariant ∙ token-foreign c.in-Atom.ensures)

pub returns-in-Atom-3 : goal.returns-in-Atom-3
returns-in-Atom-3 c = sym (c.loop-inner.invariant ∙ token_record c.in-Atom.ensures)

pub loop-inner-smaller-in-Option : goal.loop-inner-smaller-in-Option
loop-inner-smaller-in-Option c = omega (arith, levels-option c.in-Option.ensures)

pub loop-inner-preserved-in-Option : goal.loop-inner-preserved-in-Option
loop-inner-preserved-in-Option c = c.loop-inner.invariant ∙ token-option c.in-Option.ensures

pub loop-inner-smaller : goal.loop-inner-smaller
loop-inner-smaller c = omega (arith, levels-array c.in-Option.ensures)

pub loop-inner-preserved : goal.loop-inner-preserved
loop-inner-preserved c = c.loop-inner.invariant ∙ token-array c.in-Option.ensures
