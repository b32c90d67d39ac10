-- Every definition at once: a closed example that says `unfolding computing` computes. Assumes nothing.
use Rattle.lingua.specs.Errors.{is_among, is_run_error, is_type_error, is_error}
use Rattle.lingua.specs.Outcome.{all_answers}
use Rattle.lingua.specs.Body.{count_attributes, width, too_large, is_boolean, is_number, is_word, is_hundredths, is_quantity, is_simple, element_body, attributes_of, attribute_body, attribute_offset, insert_attribute, size, sizes, nodes, attribute_nodes, depth, attribute_depth, same_body, same_attributes, remove_attribute, lacks_one_of, lacks_one, coherent}
use Rattle.lingua.specs.Value.{count_values, value_list, in_range, in_counts, in_range_of, is_character, all_of, is_text, as_truth, as_whole, as_text, as_items, as_fields, pad, packed_in, packed, flat, cells_of, field_cells}
use Rattle.lingua.specs.Encode.{bytes, attribute_bytes, encoded}
use Rattle.lingua.specs.Operation.{bounded, present, unary_body, quantities_to, binary_body}
use Rattle.lingua.specs.Rounding.{nearest_size, nearest}
use Rattle.lingua.specs.Compute.{ranged, same_number, quotient, product, divided, counted, whole_part, same_text, glued, same_value, with_last, pushed, last_from, without_last, top_of, pop_of, field_value, insert_field, change_field, remove_field, unary_value, binary_value}
use Rattle.lingua.specs.Expression.{row_of, yoke_number}
use Rattle.lingua.specs.Evaluation.{apply_unary, apply_binary, truth_or, all_true, elements_of, eval, eval_yoke, eval_test}
use Rattle.lingua.specs.Store.{within, admitted, assigned, copied, copied_in, yoke_holds, yoke_changed, reading_taken, content_cells, store_cells, store_states, store_bodies, cells_in, states_in, bodies_in, call_cells, call_states, call_bodies, open_cells_in, open_states_in, present_in, flag_at, yoke_at, filled_at, fill_at, set_yoke_at}
use Rattle.lingua.specs.Run.{step, act, repeat, exec, begun, copied_out, called, started, take_readings, run}
use Rattle.lingua.specs.Typing.{offset_in, unary_second, hundredths_flag, binary_second, current_body, elements_at, check, lowest_fault, judged, check_yoke, check_test, given_fit, check_instruction, check_declarations, joined, all_declarations, check_scoped, check_profile, placed, layout_of}
use Rattle.lingua.specs.Meets.{expand_met, change_met, push_met, first_met, divisor_met, second_met, binary_met, not_boolean, met, yoke_met, yoke_checks_met, assign_met, test_met, repeat_met, exec_met, copy_met, copies_in_met, copies_out_met, called_met, reading_met, readings_met, run_met}
use Rattle.lingua.specs.Rows.{word16, word32, word64, row_count, section_at, kind_at, a_at, b_at, c_at, wide_at, number_at, low_at, high_at, bytes_at, until_zero, count_below, procedure_kind, begins_procedure, table_at, table_start, table_count, row_in, pair_count, name_row, detail_row, procedure_count, header_row, body_row, value_count, reference_count, groups, numbered, said, used_of, type_kinds, type_at, type_row, constant_value, expression_kinds, expression_at, expression_row, operands, instruction_kinds, instruction_at, instruction_row, parts, evaluated, yoke_root, yoke_set}
use Rattle.lingua.specs.Trees.{tabulate_from, tabulate, type_body_of, type_body_in, type_body, expression_of, expression_in, expression_tree, yoke_tree, given_values, given_references, instruction_of, instruction_in, instruction_tree, expression_rows, yoke_rows, instruction_rows, used_expressions, first_below, instruction_scope, expression_scope, body_in, limit_row, name_at, limit_from, limit_of, declaration_in, declaration_at, procedure_of, profile_of}
use Rattle.lingua.specs.Lookup.{look_up_from, look_up}
use Rattle.lingua.specs.Format.{rotated, mixed, check_over, block_check, block_count, block_at, model_of, row_area, all_zero, areas_from, used_rows, rows_of, blocks_for, file_length, bytes16, bytes32, block_body, with_check, blocks_from, file_of, every_below, length_wrong, marker_wrong, empty_block, header_fits, header_wrong, block_check_wrong}
use Rattle.lingua.specs.Rules.{used_bytes, section_belongs, bytes_fit, row_fits, ascending, paired, procedure_pairs, form_wrong, count_wrong, padded_by, is_capital, is_name, is_new, names_fit, name_wrong, constant_fits, row_constant_fits, unary_attribute, binary_attribute, expression_attributes, type_attributes, handled_errors, constant_wrong}
use Rattle.lingua.specs.References.{type_parts, expression_variables, instruction_variables, yoke_in, declaration_refers, declarations_refer, instruction_refers, rows_refer, variables_seen, variables_fit, variables_wrong, reference_wrong, occurrences, declared_roots, yoke_roots, plain_roots, expression_uses, instruction_uses, use_wrong, reads_variable, reads_current, place_wrong, type_wrong, parameters_fit, bits_above, parameters_wrong, all_different, references_wrong}
use Rattle.lingua.specs.Refusal.{place_in, rank, lowest, file_rules, row_rules, whole_file_rules, is_variable_of, is_quantity_variable, ends_fit, names_one, limit_fits, limit_wrong, pair_rules, reading_wrong, read_refusal, find_refusal, write_refusal, type_check_refusal, run_fits, run_rules, run_refusal, checked_refusal, erased_refusal}
use Rattle.lingua.specs.Calls.{read_unless, read_call, find_unless, find_call, write_unless, write_call, type_check_verdict, type_check_unless, type_check_call, readings_of, ending_of, registers_of, ran, run_of, checked_unless, checked_call, erased_unless, erased_call}
use Rattle.lingua.specs.Report.{digits_in, decimal, signed_decimal, end_line, cell_texts, content_text, variable_lines, run_text, refused_text, report_unless, report_text}

unfoldable pub computing : Unit {0}
unfolding is_among is_run_error is_type_error is_error all_answers count_attributes width too_large is_boolean is_number is_word is_hundredths is_quantity is_simple element_body attributes_of attribute_body attribute_offset insert_attribute size sizes nodes attribute_nodes depth attribute_depth same_body same_attributes remove_attribute lacks_one_of lacks_one coherent count_values value_list in_range in_counts in_range_of is_character all_of is_text as_truth as_whole as_text as_items as_fields pad packed_in packed flat cells_of field_cells bytes attribute_bytes encoded bounded present unary_body quantities_to binary_body nearest_size nearest ranged same_number quotient product divided counted whole_part same_text glued same_value with_last pushed last_from without_last top_of pop_of field_value insert_field change_field remove_field unary_value binary_value row_of yoke_number apply_unary apply_binary truth_or all_true elements_of eval eval_yoke eval_test within admitted assigned copied copied_in yoke_holds yoke_changed reading_taken content_cells store_cells store_states store_bodies cells_in states_in bodies_in call_cells call_states call_bodies open_cells_in open_states_in present_in flag_at yoke_at filled_at fill_at set_yoke_at step act repeat exec begun copied_out called started take_readings run offset_in unary_second hundredths_flag binary_second current_body elements_at check lowest_fault judged check_yoke check_test given_fit check_instruction check_declarations joined all_declarations check_scoped check_profile placed layout_of expand_met change_met push_met first_met divisor_met second_met binary_met not_boolean met yoke_met yoke_checks_met assign_met test_met repeat_met exec_met copy_met copies_in_met copies_out_met called_met reading_met readings_met run_met word16 word32 word64 row_count section_at kind_at a_at b_at c_at wide_at number_at low_at high_at bytes_at until_zero count_below procedure_kind begins_procedure table_at table_start table_count row_in pair_count name_row detail_row procedure_count header_row body_row value_count reference_count groups numbered said used_of type_kinds type_at type_row constant_value expression_kinds expression_at expression_row operands instruction_kinds instruction_at instruction_row parts evaluated yoke_root yoke_set tabulate_from tabulate type_body_of type_body_in type_body expression_of expression_in expression_tree yoke_tree instruction_of instruction_in instruction_tree body_in limit_row name_at limit_from limit_of declaration_in declaration_at procedure_of profile_of look_up_from look_up rotated mixed check_over block_check block_count block_at model_of row_area all_zero areas_from used_rows rows_of blocks_for file_length bytes16 bytes32 block_body with_check blocks_from file_of every_below length_wrong marker_wrong empty_block header_fits header_wrong block_check_wrong used_bytes section_belongs bytes_fit row_fits ascending paired procedure_pairs form_wrong count_wrong padded_by is_capital is_name is_new names_fit name_wrong constant_fits row_constant_fits unary_attribute binary_attribute expression_attributes type_attributes handled_errors constant_wrong type_parts expression_variables instruction_variables given_values given_references yoke_in declaration_refers declarations_refer instruction_refers rows_refer expression_rows yoke_rows instruction_rows used_expressions first_below instruction_scope expression_scope variables_seen variables_fit variables_wrong reference_wrong occurrences declared_roots yoke_roots plain_roots expression_uses instruction_uses use_wrong reads_variable reads_current place_wrong type_wrong parameters_fit bits_above parameters_wrong all_different references_wrong place_in rank lowest file_rules row_rules whole_file_rules is_variable_of is_quantity_variable ends_fit names_one limit_fits limit_wrong pair_rules reading_wrong read_refusal find_refusal write_refusal type_check_refusal run_fits run_rules run_refusal checked_refusal erased_refusal read_unless read_call find_unless find_call write_unless write_call type_check_verdict type_check_unless type_check_call readings_of ending_of registers_of ran run_of checked_unless checked_call erased_unless erased_call digits_in decimal signed_decimal end_line cell_texts content_text variable_lines run_text refused_text report_unless report_text
computing = tt
