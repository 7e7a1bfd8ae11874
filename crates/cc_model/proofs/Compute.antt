-- All that unfolds when a run is computed.

unfoldable pub everything : Unit {0}
unfolding
    Rattle.cc_model.specs.Meaning.is_true Rattle.cc_model.specs.Meaning.prepend Rattle.cc_model.specs.Meaning.go_on Rattle.cc_model.specs.Meaning.◌>>=◌
    Rattle.cc_model.specs.Meaning.◌>>◌ Rattle.cc_model.specs.Meaning.pure Rattle.cc_model.specs.Meaning.stop Rattle.cc_model.specs.Meaning.choose
    Rattle.cc_model.specs.Meaning.step_at Rattle.cc_model.specs.Meaning.step Rattle.cc_model.specs.Meaning.steps Rattle.cc_model.specs.Meaning.local
    Rattle.cc_model.specs.Meaning.get_locals Rattle.cc_model.specs.Meaning.set_locals Rattle.cc_model.specs.Meaning.bind Rattle.cc_model.specs.Meaning.load
    Rattle.cc_model.specs.Meaning.store Rattle.cc_model.specs.Meaning.take Rattle.cc_model.specs.Meaning.make Rattle.cc_model.specs.Meaning.event_at
    Rattle.cc_model.specs.Meaning.event Rattle.cc_model.specs.Meaning.if_plain Rattle.cc_model.specs.Meaning.if_made Rattle.cc_model.specs.Meaning.checked
    Rattle.cc_model.specs.Meaning.decided Rattle.cc_model.specs.Meaning.accessed Rattle.cc_model.specs.Meaning.fits Rattle.cc_model.specs.Meaning.binary
    Rattle.cc_model.specs.Meaning.truth_value Rattle.cc_model.specs.Meaning.simply Rattle.cc_model.specs.Meaning.start Rattle.cc_model.specs.Meaning.declare
    Rattle.cc_model.specs.Meaning.declare_all Rattle.cc_model.specs.Meaning.simply_if Rattle.cc_model.specs.Meaning.truth_if Rattle.cc_model.specs.Meaning.after_turn
    Rattle.cc_model.specs.Meaning.turns Rattle.cc_model.specs.Meaning.after_part Rattle.cc_model.specs.Meaning.returns Rattle.cc_model.specs.Meaning.zero_of
    Rattle.cc_model.specs.Meaning.answer Rattle.cc_model.specs.Meaning.take_args Rattle.cc_model.specs.Meaning.call_in Rattle.cc_model.specs.Meaning.calls
    Rattle.cc_model.specs.Meaning.main_in Rattle.cc_model.specs.Meaning.main Rattle.cc_model.specs.Plain.apply Rattle.cc_model.specs.Plain.fitting
    Rattle.cc_model.specs.Plain.fit_of Rattle.cc_model.specs.Plain.decision_of Rattle.cc_model.specs.Plain.int_eq Rattle.cc_model.specs.Plain.compare_int
    Rattle.cc_model.specs.Plain.same_obj Rattle.cc_model.specs.Plain.same_ptr Rattle.cc_model.specs.Plain.compare_ptr Rattle.cc_model.specs.Plain.compared
    Rattle.cc_model.specs.Plain.is_truth Rattle.cc_model.specs.Plain.rank Rattle.cc_model.specs.Plain.has Rattle.cc_model.specs.Plain.touch
    Rattle.cc_model.specs.Plain.block_cells Rattle.cc_model.specs.Plain.with_block Rattle.cc_model.specs.Plain.or_none Rattle.cc_model.specs.Plain.cells_of
    Rattle.cc_model.specs.Plain.with_cells Rattle.cc_model.specs.Plain.load Rattle.cc_model.specs.Plain.store Rattle.cc_model.specs.Plain.zero_cell
    Rattle.cc_model.specs.Plain.make Rattle.cc_model.specs.Plain.take Rattle.cc_model.specs.Plain.offset Rattle.cc_model.specs.Plain.nat_of
    Rattle.cc_model.specs.Plain.index_of Rattle.cc_model.specs.Plain.acted Rattle.cc_model.specs.Plain.access_in Rattle.cc_model.specs.Plain.number_of
    Rattle.cc_model.specs.Plain.act Rattle.cc_model.specs.Plain.value_at Rattle.cc_model.specs.Plain.names_new Rattle.cc_model.specs.Plain.target
    Rattle.cc_model.specs.Plain.scan Rattle.cc_model.specs.Plain.front Rattle.cc_model.specs.Plain.back Rattle.cc_model.specs.Plain.blocks_of
    Rattle.cc_model.specs.Plain.data_of Rattle.cc_model.specs.Plain.locals_at Rattle.cc_model.specs.Runs.run Rattle.cc_model.specs.Runs.begin_of
    Rattle.cc_model.specs.Runs.run_of Rattle.cc_model.specs.Runs.path_at Rattle.cc_model.specs.Runs.end_at Rattle.cc_model.specs.Meaning.value
    Rattle.cc_model.specs.Meaning.exec
everything = tt
