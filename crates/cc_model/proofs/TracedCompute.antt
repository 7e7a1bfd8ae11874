-- All that unfolds when a traced run is computed, besides what unfolds when a plain one is.

unfoldable pub traced_everything : Unit {0}
unfolding
    Rattle.cc_model.specs.Traced.spot_of Rattle.cc_model.specs.Traced.has_terms Rattle.cc_model.specs.Traced.depends
    Rattle.cc_model.specs.Traced.or_wide Rattle.cc_model.specs.Traced.same_side Rattle.cc_model.specs.Traced.two_choices
    Rattle.cc_model.specs.Traced.same_choices Rattle.cc_model.specs.Traced.sides_asked Rattle.cc_model.specs.Traced.first_if
    Rattle.cc_model.specs.Traced.side_at Rattle.cc_model.specs.Traced.side_without Rattle.cc_model.specs.Traced.places_asked Rattle.cc_model.specs.Traced.pointers_asked
    Rattle.cc_model.specs.Traced.is_first Rattle.cc_model.specs.Traced.letters Rattle.cc_model.specs.Traced.differs
    Rattle.cc_model.specs.Traced.access_choices Rattle.cc_model.specs.Traced.access_asked Rattle.cc_model.specs.Traced.first_of
    Rattle.cc_model.specs.Traced.reached_shadow Rattle.cc_model.specs.Traced.cell_ty Rattle.cc_model.specs.Traced.touched_shadows
    Rattle.cc_model.specs.Traced.shadow_at Rattle.cc_model.specs.Traced.set_touched Rattle.cc_model.specs.Traced.with_shadow
    Rattle.cc_model.specs.Traced.nil Rattle.cc_model.specs.Traced.load Rattle.cc_model.specs.Traced.store Rattle.cc_model.specs.Traced.offset
    Rattle.cc_model.specs.Traced.field_places Rattle.cc_model.specs.Traced.arg_places Rattle.cc_model.specs.Traced.number
    Rattle.cc_model.specs.Traced.form_of Rattle.cc_model.specs.Traced.product_of Rattle.cc_model.specs.Traced.result_of
    Rattle.cc_model.specs.Traced.formed_of Rattle.cc_model.specs.Traced.negated_of Rattle.cc_model.specs.Traced.shadow_of
    Rattle.cc_model.specs.Traced.fit_choices Rattle.cc_model.specs.Traced.fit_asked Rattle.cc_model.specs.Traced.compare_atom
    Rattle.cc_model.specs.Traced.difference_asked Rattle.cc_model.specs.Traced.numbers_asked Rattle.cc_model.specs.Traced.compare_asked
    Rattle.cc_model.specs.Traced.test_asked Rattle.cc_model.specs.Traced.divisor_asked Rattle.cc_model.specs.Traced.index_asked
    Rattle.cc_model.specs.Traced.asked_of Rattle.cc_model.specs.Traced.cell_shadows Rattle.cc_model.specs.Traced.zero_shadow
    Rattle.cc_model.specs.Traced.make Rattle.cc_model.specs.Traced.take Rattle.cc_model.specs.Traced.touch Rattle.cc_model.specs.Traced.touch_by
    Rattle.cc_model.specs.Traced.value_shadow Rattle.cc_model.specs.Traced.after_shadows Rattle.cc_model.specs.Traced.plain_of
    Rattle.cc_model.specs.Traced.act Rattle.cc_model.specs.Conditions.same_outcome Rattle.cc_model.specs.Conditions.atoms_of
    Rattle.cc_model.specs.Conditions.without Rattle.cc_model.specs.Conditions.taken Rattle.cc_model.specs.Conditions.alternatives
    Rattle.cc_model.specs.Conditions.condition Rattle.cc_model.specs.Conditions.condition_at Rattle.cc_model.specs.Conditions.alternatives_at
    Rattle.cc_model.specs.Conditions.clean Rattle.cc_model.specs.Conditions.terms Rattle.cc_model.specs.Conditions.start_shadow
    Rattle.cc_model.specs.Conditions.traced_begin Rattle.cc_model.specs.Conditions.traced_run Rattle.cc_model.specs.Conditions.events_of
    Rattle.cc_model.specs.Conditions.places_of
traced_everything = tt
