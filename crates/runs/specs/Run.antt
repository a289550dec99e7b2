-- A script's run as a computation, for examples: to unfold `script_run` is to unfold all that it rests on, the check too. A definition.
use Rattle.std.specs.Prelude.{ℕ}
use Rattle.tok.specs.Step.{Result}
use Rattle.refusals.specs.Inputs.{Inputs}
use Rattle.rules.specs.Check.{Ended}
use Rattle.runs.specs.Machine.{Open, State, Stopped}
use Rattle.rules.specs.Run.{check_run}
use Rattle.runs.specs.Promise.{run_in}
use Rattle.slots.specs.Substitute.{substitute, substitute_fields, agrees, fields_agree, all_filled, fields_filled}
use Rattle.runs.specs.Value.{kind_of_value, count, field_of}
use Rattle.runs.specs.Declared.{library_sig, library_held, library_from, extern_member, find_held, find_own, group_in, first_equal, from_group, of_own, of_held, choosing}
use Rattle.runs.specs.Declared.{given_types, target_of, import_found, unless_held, imported, declare, declare_all, declare_cases, declare_values, target_at}
use Rattle.runs.specs.Machine.{entering, enter, gives, question, bind, or_stuck, value_of, scoped, within, arguments_from, counted, of_kind, opened, number_of}
use Rattle.runs.specs.Machine.{truth_of, bytes_of, same_bool, equal_values, of_numbers, operate, unary, cast_to, cast, literal, truth, field_in, or_halted}
use Rattle.runs.specs.Running.{cast_kind, call_own, apply, eval, block, rest, branch, eval_all, eval_values, body_within, root, roots, run_of}
use Rattle.runs.specs.Stands.{LetMay, FnMay, Stands, AllStand, CasesStand, ValuesStand}
use Rattle.runs.specs.Promise.{table_of, HonestAt, Honest, state_of, NotStuck, NeverStuck, NotHalted, EndsWithin, PassedRunClean}

unfoldable pub script_run : Inputs → Ended → Open → (budget : ℕ) → Result State Stopped ℕ
unfolding substitute substitute_fields agrees fields_agree all_filled fields_filled kind_of_value count field_of library_sig library_held library_from
    extern_member find_held find_own group_in first_equal from_group of_own of_held choosing given_types target_of import_found unless_held imported
    declare declare_all declare_cases declare_values target_at entering enter gives question bind or_stuck value_of scoped within arguments_from
    counted of_kind opened number_of truth_of bytes_of same_bool equal_values of_numbers operate unary cast_to cast literal truth field_in or_halted
    cast_kind call_own apply eval block rest branch eval_all eval_values body_within root roots run_of LetMay FnMay Stands AllStand CasesStand
    ValuesStand table_of HonestAt Honest state_of NotStuck NeverStuck NotHalted EndsWithin PassedRunClean check_run
script_run = run_in
