use Rattle.type_expr.specs.LevelLaws.{atoms, levels-there}
use Rattle.type_expr.proofs.TypeAt.levels.Goals as goal

pub returns : goal.returns
returns c = rw (← c.self.view_is) (levels-there c.self.invariant c.type_levels.ensures, atoms _ _ _ c.self.invariant)
