-- What each word that is read, and the first that isn't, say of the list.
use Rattle.std.proofs.Common.{sym, subst, refl, codes, pos}
use Rattle.command_words.specs.Words.{texts, IsGiven, trace_options, depth_option}
use Rattle.command_words.proofs.OptionFits.{option_given}
use Rattle.command_words.proofs.OptionTables.{trace_table, has_bounds, given_natural}
use Rattle.command_words.proofs.Forms.{trace_2, trace_3, trace_4, trace_bad, trace_whole}
use Rattle.command_words.proofs.words.read_trace.Goals as goal

pub returns-in_default-clause-bad : goal.returns-in_default-clause-bad
returns-in_default-clause-bad c = trace_2 c.in_default.ensures.none

pub returns-in_default-first_of-clause-bad : goal.returns-in_default-first_of-clause-bad
returns-in_default-first_of-clause-bad c = trace_3 c.in-Some.ensures.some c.in_default-first_of.ensures.none

pub returns-in_default-first_of-2-clause-bad : goal.returns-in_default-first_of-2-clause-bad
returns-in_default-first_of-2-clause-bad c = trace_4 c.in-Some.ensures.some c.in-Some-first_of.ensures.some c.in_default-first_of-2.ensures.none

pub returns-in-Some-bad_trace_option-clause-bad : goal.returns-in-Some-bad_trace_option-clause-bad
returns-in-Some-bad_trace_option-clause-bad c =
    trace_bad c.in-Some.ensures.some c.in-Some-first_of.ensures.some c.in-Some-first_of-2.ensures.some c.in-Some-bad_trace_option.ensures.some

-- the options fit
pub natural_given-depth-requires : goal.natural_given-depth-requires
natural_given-depth-requires c =
    given_natural (texts c.in-Some-first_of-2.map.rest.now) depth_option refl (option_given trace_options trace_table (texts c.in-Some-first_of-2.map.rest.now) c.in_default-bad_trace_option.ensures.none (codes "-depth") depth_option.1 refl)

pub bounds_with-requires-clause-given : goal.bounds_with-requires-clause-given
bounds_with-requires-clause-given c =
    let b = has_bounds trace_options trace_table (texts c.in-Some-first_of-2.map.rest.now) 0 c.in_default-bad_trace_option.ensures.none in
    (b.0, b.1)

pub returns-clause-accepted : goal.returns-clause-accepted
returns-clause-accepted c =
    trace_whole c.in-Some.ensures.some c.in-Some-first_of.ensures.some c.in-Some-first_of-2.ensures.some c.in_default-bad_trace_option.ensures.none.named c.bounds_with.ensures.bounds
    (subst (λ k. IsGiven (texts c.in-Some-first_of-2.map.rest.now) depth_option (pos k)) (sym c.bounds_with.ensures.depth) c.natural_given-depth.ensures)
