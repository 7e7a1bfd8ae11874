-- All that unfolds when a traced run with the forms of the crate sym_expr is computed.

unfoldable pub linear_everything : Unit {0}
unfolding
    Rattle.cc_model.specs.Meaning.is_true Rattle.cc_model.specs.Meaning.prepend Rattle.cc_model.specs.Meaning.go_on
    Rattle.cc_model.specs.Meaning.◌>>=◌ Rattle.cc_model.specs.Meaning.◌>>◌ Rattle.cc_model.specs.Meaning.pure Rattle.cc_model.specs.Meaning.stop
    Rattle.cc_model.specs.Meaning.choose Rattle.cc_model.specs.Meaning.step_at Rattle.cc_model.specs.Meaning.step Rattle.cc_model.specs.Meaning.steps
    Rattle.cc_model.specs.Meaning.local Rattle.cc_model.specs.Meaning.get_locals Rattle.cc_model.specs.Meaning.set_locals
    Rattle.cc_model.specs.Meaning.bind Rattle.cc_model.specs.Meaning.load Rattle.cc_model.specs.Meaning.store Rattle.cc_model.specs.Meaning.take
    Rattle.cc_model.specs.Meaning.make Rattle.cc_model.specs.Meaning.event_at Rattle.cc_model.specs.Meaning.event
    Rattle.cc_model.specs.Meaning.if_plain Rattle.cc_model.specs.Meaning.if_made Rattle.cc_model.specs.Meaning.checked
    Rattle.cc_model.specs.Meaning.decided Rattle.cc_model.specs.Meaning.accessed Rattle.cc_model.specs.Meaning.fits
    Rattle.cc_model.specs.Meaning.binary Rattle.cc_model.specs.Meaning.truth_value Rattle.cc_model.specs.Meaning.simply
    Rattle.cc_model.specs.Meaning.start Rattle.cc_model.specs.Meaning.declare Rattle.cc_model.specs.Meaning.declare_all
    Rattle.cc_model.specs.Meaning.simply_if Rattle.cc_model.specs.Meaning.truth_if Rattle.cc_model.specs.Meaning.after_turn
    Rattle.cc_model.specs.Meaning.turns Rattle.cc_model.specs.Meaning.after_part Rattle.cc_model.specs.Meaning.returns
    Rattle.cc_model.specs.Meaning.zero_of Rattle.cc_model.specs.Meaning.answer Rattle.cc_model.specs.Meaning.take_args
    Rattle.cc_model.specs.Meaning.call_in Rattle.cc_model.specs.Meaning.calls Rattle.cc_model.specs.Meaning.main_in Rattle.cc_model.specs.Meaning.main
    Rattle.cc_model.specs.Plain.apply Rattle.cc_model.specs.Plain.fitting Rattle.cc_model.specs.Plain.fit_of Rattle.cc_model.specs.Plain.decision_of
    Rattle.cc_model.specs.Plain.int_eq Rattle.cc_model.specs.Plain.compare_int Rattle.cc_model.specs.Plain.same_obj
    Rattle.cc_model.specs.Plain.same_ptr Rattle.cc_model.specs.Plain.compare_ptr Rattle.cc_model.specs.Plain.compared
    Rattle.cc_model.specs.Plain.is_truth Rattle.cc_model.specs.Plain.rank Rattle.cc_model.specs.Plain.has Rattle.cc_model.specs.Plain.touch
    Rattle.cc_model.specs.Plain.block_cells Rattle.cc_model.specs.Plain.with_block Rattle.cc_model.specs.Plain.or_none
    Rattle.cc_model.specs.Plain.cells_of Rattle.cc_model.specs.Plain.with_cells Rattle.cc_model.specs.Plain.load Rattle.cc_model.specs.Plain.store
    Rattle.cc_model.specs.Plain.zero_cell Rattle.cc_model.specs.Plain.make Rattle.cc_model.specs.Plain.take Rattle.cc_model.specs.Plain.offset
    Rattle.cc_model.specs.Plain.nat_of Rattle.cc_model.specs.Plain.index_of Rattle.cc_model.specs.Plain.acted Rattle.cc_model.specs.Plain.access_in
    Rattle.cc_model.specs.Plain.number_of Rattle.cc_model.specs.Plain.act Rattle.cc_model.specs.Plain.value_at Rattle.cc_model.specs.Plain.names_new
    Rattle.cc_model.specs.Plain.target Rattle.cc_model.specs.Plain.scan Rattle.cc_model.specs.Plain.front Rattle.cc_model.specs.Plain.back
    Rattle.cc_model.specs.Plain.blocks_of Rattle.cc_model.specs.Plain.data_of Rattle.cc_model.specs.Plain.locals_at Rattle.cc_model.specs.Runs.run
    Rattle.cc_model.specs.Runs.begin_of Rattle.cc_model.specs.Runs.run_of Rattle.cc_model.specs.Runs.path_at Rattle.cc_model.specs.Runs.end_at
    Rattle.cc_model.specs.Meaning.value Rattle.cc_model.specs.Meaning.exec Rattle.cc_model.specs.Traced.spot_of Rattle.cc_model.specs.Traced.has_terms
    Rattle.cc_model.specs.Traced.depends Rattle.cc_model.specs.Traced.or_wide Rattle.cc_model.specs.Traced.same_side
    Rattle.cc_model.specs.Traced.two_choices Rattle.cc_model.specs.Traced.same_choices Rattle.cc_model.specs.Traced.sides_asked
    Rattle.cc_model.specs.Traced.first_if Rattle.cc_model.specs.Traced.side_at Rattle.cc_model.specs.Traced.side_without
    Rattle.cc_model.specs.Traced.places_asked Rattle.cc_model.specs.Traced.pointers_asked Rattle.cc_model.specs.Traced.is_first Rattle.cc_model.specs.Traced.letters
    Rattle.cc_model.specs.Traced.differs Rattle.cc_model.specs.Traced.access_choices Rattle.cc_model.specs.Traced.access_asked
    Rattle.cc_model.specs.Traced.first_of Rattle.cc_model.specs.Traced.reached_shadow Rattle.cc_model.specs.Traced.cell_ty
    Rattle.cc_model.specs.Traced.touched_shadows Rattle.cc_model.specs.Traced.shadow_at Rattle.cc_model.specs.Traced.set_touched
    Rattle.cc_model.specs.Traced.with_shadow Rattle.cc_model.specs.Traced.nil Rattle.cc_model.specs.Traced.load Rattle.cc_model.specs.Traced.store
    Rattle.cc_model.specs.Traced.offset Rattle.cc_model.specs.Traced.field_places Rattle.cc_model.specs.Traced.arg_places
    Rattle.cc_model.specs.Traced.number Rattle.cc_model.specs.Traced.form_of Rattle.cc_model.specs.Traced.product_of
    Rattle.cc_model.specs.Traced.result_of Rattle.cc_model.specs.Traced.formed_of Rattle.cc_model.specs.Traced.negated_of
    Rattle.cc_model.specs.Traced.shadow_of Rattle.cc_model.specs.Traced.fit_choices Rattle.cc_model.specs.Traced.fit_asked
    Rattle.cc_model.specs.Traced.compare_atom Rattle.cc_model.specs.Traced.difference_asked Rattle.cc_model.specs.Traced.numbers_asked
    Rattle.cc_model.specs.Traced.compare_asked Rattle.cc_model.specs.Traced.test_asked Rattle.cc_model.specs.Traced.divisor_asked
    Rattle.cc_model.specs.Traced.index_asked Rattle.cc_model.specs.Traced.asked_of Rattle.cc_model.specs.Traced.cell_shadows
    Rattle.cc_model.specs.Traced.zero_shadow Rattle.cc_model.specs.Traced.make Rattle.cc_model.specs.Traced.take Rattle.cc_model.specs.Traced.touch
    Rattle.cc_model.specs.Traced.touch_by Rattle.cc_model.specs.Traced.value_shadow Rattle.cc_model.specs.Traced.after_shadows
    Rattle.cc_model.specs.Traced.plain_of Rattle.cc_model.specs.Traced.act Rattle.cc_model.specs.Conditions.same_outcome
    Rattle.cc_model.specs.Conditions.atoms_of Rattle.cc_model.specs.Conditions.without Rattle.cc_model.specs.Conditions.taken
    Rattle.cc_model.specs.Conditions.alternatives Rattle.cc_model.specs.Conditions.condition Rattle.cc_model.specs.Conditions.condition_at
    Rattle.cc_model.specs.Conditions.alternatives_at Rattle.cc_model.specs.Conditions.clean Rattle.cc_model.specs.Conditions.terms
    Rattle.cc_model.specs.Conditions.start_shadow Rattle.cc_model.specs.Conditions.traced_begin Rattle.cc_model.specs.Conditions.traced_run
    Rattle.cc_model.specs.Conditions.events_of Rattle.cc_model.specs.Conditions.places_of Rattle.sym_expr.specs.Sums.is_zero_number
    Rattle.sym_expr.specs.Sums.put_unless_zero Rattle.sym_expr.specs.Sums.merge_term Rattle.sym_expr.specs.Sums.merge
    Rattle.sym_expr.specs.Sums.negated Rattle.sym_expr.specs.Sums.scaled Rattle.sym_expr.specs.Sums.sum_of Rattle.sym_expr.specs.Sums.opposite_of
    Rattle.sym_expr.specs.Sums.difference_of Rattle.sym_expr.specs.Sums.multiple_of_form Rattle.cc_laws.specs.LinearForms.all_small
    Rattle.cc_laws.specs.LinearForms.is_narrow Rattle.cc_laws.specs.LinearForms.if_narrow
linear_everything = tt
