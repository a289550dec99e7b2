-- The refusals as a computation, for examples: to unfold `refusal_run` is to unfold all that it rests on. A definition.
use Rattle.std.proofs.Math.Option.{Option}
use Rattle.tok.specs.Step.{Refusal}
use Rattle.refusals.specs.Inputs.{Inputs, Buffers}
use Rattle.tok.specs.Step.{when, for_each}
use Rattle.tok.specs.Reader.{take_word, many, ends_at, fault_of, unless_long}
use Rattle.tok.specs.Text.{name_bytes, same_bytes, text}
use Rattle.utf8.specs.Rfc3629.{utf8_2, utf8_3, utf8_4, well_formed, begun1, begun2, begun3}
use Rattle.tok.specs.Name.{lies_in, reads_well, good_payload, good_name}
use Rattle.library.specs.Pool.{good_plain, good_wrapped, good_record, good_named, good_type, fields, good_pool_word, pool_from}
use Rattle.library.specs.Package.{params_from, function_at, functions_from, functions_end, packages_from, packages_of, find_package, find_function, group_of}
use Rattle.ptype.specs.Ty.{kind_of_ty, same_ty, same_fields, contains_unknown, any_unknown, contains_slot, any_slot, depth_of}
use Rattle.ptype.specs.Words.{fields_from, ways, unfolded, ty_of}
use Rattle.library.specs.Slots.{pool_ty, slot_names, slot_names_in, no_slot, slot_names_of, name_among, all_among, return_stands}
use Rattle.library.specs.PackageRecords.{any_function, good_group, good_flag, good_signature_type, argument, good_return, function_record, function_records, package_record}
use Rattle.library.specs.LibraryFault.{library, library_read, library_fault}
use Rattle.ast.specs.Outline.{typed_name}
use Rattle.ast.specs.NodeRecords.{atom, ident, bin, unary, binding, good_arguments, fn, cases, match, call, field, cast, imports}
use Rattle.ast.specs.NodeRecords.{good_extern_count, extern_functions, good_function_count, extern, named_part, record_node, array}
use Rattle.ast.specs.Nodes.{node_kinds, node_kind, good_node_head, node, nodes}
use Rattle.ast.specs.TypeRecords.{type_atom, type_foreign, type_inner, type_field, type_record, type_kinds, type_kind, good_type_head, type_expression, type_expressions}
use Rattle.ast.specs.ImageFault.{image, image_read, image_fault}
use Rattle.ast.specs.Claims.{among, twice, count_from, slots_owned, claims_twice, claims_from, claims_fault}
use Rattle.ast.specs.Depth.{depth_from, depth_fault}
use Rattle.ast.specs.Room.{entry_words, function_words, room_fault}
use Rattle.refusals.specs.Refusals.{or_else, scratch_fault, refusal_of_outlines, refusal_of_image, refusal_of}

unfoldable pub refusal_run : Inputs → Buffers → Option Refusal
unfolding when for_each take_word many ends_at fault_of unless_long name_bytes same_bytes text utf8_2 utf8_3 utf8_4 well_formed begun1 begun2 begun3
    lies_in reads_well good_payload good_name good_plain good_wrapped good_record good_named good_type fields good_pool_word pool_from params_from
    function_at functions_from functions_end packages_from packages_of find_package find_function group_of kind_of_ty same_ty same_fields
    contains_unknown any_unknown contains_slot any_slot depth_of Rattle.ptype.specs.Ty.deepest fields_from ways unfolded ty_of pool_ty slot_names
    slot_names_in no_slot slot_names_of name_among all_among return_stands any_function good_group good_flag good_signature_type argument good_return
    function_record function_records package_record library library_read library_fault typed_name atom ident bin unary binding good_arguments fn cases
    match call field cast imports good_extern_count extern_functions good_function_count extern named_part record_node array node_kinds node_kind
    good_node_head node nodes type_atom type_foreign type_inner type_field type_record type_kinds type_kind good_type_head type_expression
    type_expressions image image_read image_fault among twice count_from slots_owned claims_twice claims_from claims_fault
    Rattle.ast.specs.Depth.deepest depth_from depth_fault entry_words function_words room_fault or_else scratch_fault refusal_of_outlines
    refusal_of_image refusal_of
refusal_run = refusal_of
