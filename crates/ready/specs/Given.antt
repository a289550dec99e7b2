-- What stays during the walk, of inputs that pass refusals 1 to 6; and what the first root's visit asks for. Assumes nothing.
use Rattle.state.specs.declared.Used.{Used}
use Rattle.visit.specs.declared.State.{State}

-- the state before the roots: no names, no packages held, no own functions
abbrev pub start_state : Used → State
start_state u = record { used = u; names = record { base = 0; depth = 0 }; held = 8192; packages = 0; functions = 0 }
