-- The check, its rows and what the promises speak of as computations, for examples: to unfold one of these is to unfold all that it
-- rests on. Definitions.
use Rattle.std.specs.Prelude.{ℕ, List}
use Rattle.tok.specs.Step.{Result, Refusal}
use Rattle.ast.specs.Node.{Node}
use Rattle.refusals.specs.Inputs.{Inputs, Buffers}
use Rattle.refusals.specs.Run.{refusal_run}
use Rattle.rules.specs.World.{World}
use Rattle.rules.specs.Steps.{Done}
use Rattle.rules.specs.Check.{Ended}
use Rattle.rules.specs.Promises.{Entry}
use Rattle.ptype.specs.Show.{plain_names, openings, closings, gap, show, show_fields, digits, decimal}
use Rattle.display.specs.Joined.{each_after, joined, sig, separated}
use Rattle.ast.specs.Image.{record_after, node_place, type_place}
use Rattle.ptype.specs.Add.{overwrite, write, append, add_type, add_wrap, add_record}
use Rattle.ast.specs.TypeExpr.{type_fields_from, type_readers, type_within, type_of, type_token, args_from}
use Rattle.ast.specs.TypeFrom.{type_from, fields_from_exprs}
use Rattle.tok.specs.Span.{cover, least_start, greatest_end, cover_spans}
use Rattle.err.specs.Message.{operators, quoted, class_of, wanted, wanted_both, pkg_name, call_name, empty_array, members_differ, no_binding, unsupported, incompatible, bad_unary}
use Rattle.err.specs.Message.{let_void, defined_already, bad_return, redundant_cast, bad_cast, no_record, no_field_of, call_through_field, missing_package, undefined_in_package}
use Rattle.err.specs.Message.{undefined_own, no_specialisation, argument_count, arg_mismatch, slot_conflict, slot_void, bad_condition, match_cases, empty_import, no_import}
use Rattle.err.specs.Report.{six_words, tell, ended, placed, placed_answer}
use Rattle.rules.specs.Steps.{known, if_known, is_poison, on_option, ty, tree, ty_tree, set_known, raised, on_types, raised_log, on_log, raised_told}
use Rattle.rules.specs.Steps.{report, poison, env_insert, env_get, framed, apart, hold, pairs_of, entry_of, enter, type_from_expr}
use Rattle.ast.specs.Node.{nodes_from, cases_from, cases_end, values_from, words_from, externs_from, readers, tree_within, tree_of, first_roots, roots_of, slot_of}
use Rattle.ast.specs.Span.{token_spans, arg_spans, extern_spans, span_of, spans_of, case_spans, value_spans}
use Rattle.rules.specs.Operators.{arithmetic, remainder, equality, order, operator_tables, result_kind, fuse, castable}
use Rattle.ptype.specs.Slots.{bound_to, and_then, bind_found, bind_one, bind_slots, bind_fields, has_bound_slot, any_bound_slot, bound_or, apply_slot_binding, apply_fields}
use Rattle.rules.specs.Calls.{field_callee, callee_of, provided_of, compared, after_binding, slotted_argument, plain_argument, arguments, returned, check_call_args}
use Rattle.rules.specs.Calls.{resolve_call, param_trees, provided_trees, overload_matches, position, all_return, common_return, select, in_group, resolve_pkg_call}
use Rattle.rules.specs.Rules.{let_binding, fn_arguments, check_return, unless_defined, find_field, field_type, value_type, member_types, member, go_on}
use Rattle.rules.specs.Rules.{array_of, condition, compare_branches, matched, import_one, import_all, extern_fn, block, last, visit_all, values, members}
use Rattle.rules.specs.Walk.{ctx_of, empty_slots, start_of, copy_pool, pool_types, param_types, function_types, package_types, measure, walk_first, later_roots, walk_later, walk, walk_of}
use Rattle.rules.specs.Check.{zeroed, end_of, unless_refused, check_of}
use Rattle.rules.specs.Rows.{line, slot_rows, arg_rows, fn_row, fn_rows, diag_rows, answer_rows, rows_of}
use Rattle.rules.specs.Visited.{visited_below, visited_among, visited_in_cases, visited_in_values, visited_in, number_of, arguments_of, all_slots, visited_slots}
use Rattle.rules.specs.Functions.{type_meant, fields_meant, head_of, fns_among, fns_in}
use Rattle.rules.specs.Names.{arg_names, extern_names, case_tokens, value_names, node_names, field_names, type_names, word_names, param_names, function_names, package_names}
use Rattle.rules.specs.Promises.{Every, Demand1, ImagePlaceCertain, LibraryPlaceCertain, NamesWellFormed, MessagesWellFormed, Clean, AnsweredLonger}
use Rattle.rules.specs.Promises.{fn_parameters, fn_entries, old_functions, parameters_at, entry_at, entries_up_to, entries_of}
use Rattle.rules.specs.Promises.{FunctionsVisited, Larger, LargerWithoutStatements, NothingAdded, PackagesAlone, StatementsAlone, EachVisitedOnce}

unfoldable pub check_run : Inputs → Buffers → Ended
unfolding refusal_run plain_names openings closings gap show show_fields digits decimal each_after joined sig separated record_after node_place
    type_place overwrite write append add_type add_wrap add_record type_fields_from type_readers type_within type_of type_token args_from type_from
    fields_from_exprs cover least_start greatest_end cover_spans operators quoted class_of wanted wanted_both pkg_name call_name empty_array
    members_differ no_binding unsupported incompatible bad_unary let_void defined_already bad_return redundant_cast bad_cast no_record no_field_of
    call_through_field missing_package undefined_in_package undefined_own no_specialisation argument_count arg_mismatch slot_conflict slot_void
    bad_condition match_cases empty_import no_import six_words tell ended placed placed_answer known if_known is_poison on_option ty tree ty_tree
    set_known raised on_types raised_log on_log raised_told report poison env_insert env_get framed apart hold pairs_of entry_of enter type_from_expr
    nodes_from cases_from cases_end values_from words_from externs_from readers tree_within tree_of first_roots roots_of slot_of token_spans arg_spans
    extern_spans span_of spans_of case_spans value_spans arithmetic remainder equality order operator_tables result_kind fuse
    Rattle.rules.specs.Operators.unary castable Rattle.rules.specs.Operators.cast bound_to and_then bind_found bind_one bind_slots bind_fields
    has_bound_slot any_bound_slot bound_or apply_slot_binding apply_fields field_callee callee_of provided_of compared after_binding slotted_argument
    plain_argument Rattle.rules.specs.Calls.argument arguments returned check_call_args resolve_call param_trees provided_trees overload_matches
    position all_return common_return select in_group resolve_pkg_call Rattle.rules.specs.Calls.call Rattle.rules.specs.Rules.ident let_binding
    fn_arguments check_return Rattle.rules.specs.Rules.fn unless_defined find_field field_type Rattle.rules.specs.Rules.field value_type member_types
    member go_on array_of condition compare_branches matched import_one import_all extern_fn Rattle.rules.specs.Rules.node block last visit_all
    Rattle.rules.specs.Rules.cases values Rattle.rules.specs.Rules.array members ctx_of empty_slots start_of copy_pool pool_types param_types
    function_types package_types measure walk_first later_roots walk_later walk walk_of zeroed end_of unless_refused check_of line slot_rows arg_rows
    fn_row fn_rows diag_rows answer_rows rows_of visited_below visited_among visited_in_cases visited_in_values visited_in number_of arguments_of
    all_slots visited_slots type_meant fields_meant head_of fns_among fns_in arg_names extern_names case_tokens value_names node_names field_names
    type_names word_names param_names function_names package_names Every Demand1 ImagePlaceCertain LibraryPlaceCertain NamesWellFormed
    MessagesWellFormed Clean AnsweredLonger fn_parameters fn_entries old_functions parameters_at entry_at entries_up_to entries_of FunctionsVisited
    Larger LargerWithoutStatements NothingAdded PackagesAlone StatementsAlone EachVisitedOnce
check_run = check_of

unfoldable pub rows_run : Inputs → Buffers → List ℕ
unfolding check_run
rows_run i b = rows_of i (check_of i b)

unfoldable pub visited_run : (image : List ℕ) → List Node
unfolding check_run
visited_run = visited_in

unfoldable pub slots_run : (image : List ℕ) → List ℕ
unfolding check_run
slots_run = visited_slots

unfoldable pub entries_run : Inputs → Ended → List Entry
unfolding check_run
entries_run = entries_of

unfoldable pub walk_run : Inputs → (k : ℕ) → World → Result World Refusal Done
unfolding check_run
walk_run = walk_first

unfoldable pub later_run : Inputs → (k : ℕ) → World → Result World Refusal Done
unfolding check_run
later_run = walk_later
