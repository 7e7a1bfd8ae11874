use Rattle.std.proofs.Common.{◌≡◌, ◌<◌, length, ◌∙◌, ap, sym, subst, take, Some, slice_get}
use Rattle.cc_base.specs.Paths.{In}
use Rattle.cc_model.specs.CheckedProgram.{core_of}
use Rattle.cc_model.specs.Conditions.{atoms_of as atoms_among}
use Rattle.cc_laws.specs.LinearForms.{linear}
use Rattle.sym_expr.specs.AtomsSeen.{atoms_of}
use Rattle.sym_run.specs.Asks.{choices_of}
use Rattle.sym_run.specs.Traces.{others_at}
use Rattle.flip_solve.specs.Choosing.{taken_of}
use Rattle.flip_solve.proofs.Answered.{got_at, offered_at, offered_below, asked_there, answer_there, keeps_there, turned_there, never_there}
use Rattle.flip_solve.proofs.flipping.turn.Goals as goal
use Rattle.flip_solve.proofs.flipping.turn.Goals.{After-as_slice-2}

event : (c : After-as_slice-2) → slice_get c.args.trace.now.events c.args.k ≡ Some c.index-events-k.result
event c = subst (λ l. slice_get l c.args.k ≡ Some c.index-events-k.result) c.as_slice-events.ensures
    (got_at c.as_slice-events.result.now c.args.k c.index-events-k.result (subst (λ l. c.args.k < length l) (sym c.as_slice-events.ensures) (offered_below c.args.trace.now.events c.args.k c.args.outcome c.requires.offered)) c.index-events-k.is)

offered : (c : After-as_slice-2) → In c.args.outcome (others_at c.index-events-k.result)
offered c = offered_at c.args.trace.now.events c.args.k c.index-events-k.result c.args.outcome (event c) c.requires.offered

taken : (c : After-as_slice-2) → atoms_of c.as_slice-2.result.now ≡ taken_of (take c.args.k c.args.trace.now.events)
taken c = ap atoms_of c.as_slice-2.ensures ∙ c.in_ok-condition.ensures ∙ ap (λ l. taken_of (take c.args.k l)) c.as_slice-events.ensures

other : (c : After-as_slice-2) → atoms_of c.atoms_for-alternative.result.now ≡ atoms_among c.args.outcome (choices_of c.index-events-k.result.others)
other c = c.atoms_for-alternative.ensures ∙ ap (λ l. atoms_among c.args.outcome (choices_of l)) c.as_slice.ensures

pub settle-requires-clause-asked : goal.settle-requires-clause-asked
settle-requires-clause-asked c = let w = (goal.at.settle-requires-clause-asked c).After-as_slice-2 in
    asked_there c.args.checked.now c.args.bounds.now c.args.trace.now c.args.k c.args.outcome c.args.budget c.lo-lowest.ensures.in_range.numbers c.requires.points c.requires.input c.requires.trace c.requires.lawful
    c.index-events-k.result (event w) (offered w) c.as_slice-2.result.now c.atoms_for-alternative.result.now (taken w) (other w)

pub returns-clause-answer : goal.returns-clause-answer
returns-clause-answer c = let w = (goal.at.returns-clause-answer c).After-as_slice-2 in
    answer_there c.args.checked.now c.args.bounds.now c.args.trace.now c.args.k c.args.outcome c.args.budget c.lo-lowest.ensures.in_range.numbers c.requires.points c.requires.input c.requires.trace c.requires.lawful
    c.index-events-k.result (event w) (offered w) c.as_slice-2.result.now c.atoms_for-alternative.result.now (taken w) (other w) (c.tracing_adds_nothing.ensures.path linear (core_of c.args.checked.now) c.args.bounds.now c.args.trace.now.input) c.settle.result c.settle.ensures

pub returns-clause-turned : goal.returns-clause-turned
returns-clause-turned c = let w = (goal.at.returns-clause-turned c).After-as_slice-2 in
    turned_there c.args.checked.now c.args.bounds.now c.args.trace.now c.args.k c.args.outcome c.args.budget c.lo-lowest.ensures.in_range.numbers c.requires.points c.requires.input c.requires.trace c.requires.lawful
    c.index-events-k.result (event w) (offered w) c.as_slice-2.result.now c.atoms_for-alternative.result.now (taken w) (other w) (c.tracing_adds_nothing.ensures.path linear (core_of c.args.checked.now) c.args.bounds.now c.args.trace.now.input) c.settle.result c.settle.ensures
    (c.conditions_are_exact.ensures (core_of c.args.checked.now) c.args.bounds.now c.args.trace.now.input c.args.k c.requires.points c.requires.input) (c.outcomes_are_exhausted.ensures (core_of c.args.checked.now) c.args.bounds.now c.args.trace.now.input c.args.k c.requires.points c.requires.input)

pub returns-clause-never : goal.returns-clause-never
returns-clause-never c = let w = (goal.at.returns-clause-never c).After-as_slice-2 in
    never_there c.args.checked.now c.args.bounds.now c.args.trace.now c.args.k c.args.outcome c.args.budget c.lo-lowest.ensures.in_range.numbers c.requires.points c.requires.input c.requires.trace c.requires.lawful
    c.index-events-k.result (event w) (offered w) c.as_slice-2.result.now c.atoms_for-alternative.result.now (taken w) (other w) (c.tracing_adds_nothing.ensures.path linear (core_of c.args.checked.now) c.args.bounds.now c.args.trace.now.input) c.settle.result c.settle.ensures
    (c.conditions_are_exact.ensures (core_of c.args.checked.now) c.args.bounds.now c.args.trace.now.input c.args.k c.requires.points c.requires.input) (c.outcomes_are_exhausted.ensures (core_of c.args.checked.now) c.args.bounds.now c.args.trace.now.input c.args.k c.requires.points c.requires.input)

pub returns-clause-keeps : goal.returns-clause-keeps
returns-clause-keeps c = let w = (goal.at.returns-clause-keeps c).After-as_slice-2 in
    keeps_there c.args.checked.now c.args.bounds.now c.args.trace.now c.args.k c.args.outcome c.args.budget c.lo-lowest.ensures.in_range.numbers c.requires.points c.requires.input c.requires.trace c.requires.lawful
    c.index-events-k.result (event w) (offered w) c.as_slice-2.result.now c.atoms_for-alternative.result.now (taken w) (other w) (c.tracing_adds_nothing.ensures.path linear (core_of c.args.checked.now) c.args.bounds.now c.args.trace.now.input) c.settle.result c.settle.ensures
