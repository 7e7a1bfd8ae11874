-- What each word that is read, and the first that isn't, say of the list.
use Rattle.std.proofs.Common.{sym, subst, refl, codes, pos, arith, ◌∷◌}
use Rattle.command_words.specs.Words.{texts, IsNumber, IsSeed, Accepted, run_words, run_options, solver_option}
use Rattle.command_words.proofs.OptionFits.{option_given}
use Rattle.command_words.proofs.OptionTables.{run_table, run_short, has_bounds, has_seed, has_path, solver_there, given_natural}
use Rattle.command_words.proofs.OptionReads.{texts_length}
use Rattle.command_words.proofs.Forms.{run_2, run_3, run_4, run_5, run_6, run_bad, run_whole}
use Rattle.command_words.proofs.words.read_run.Goals as goal

pub returns-in_default-clause-bad : goal.returns-in_default-clause-bad
returns-in_default-clause-bad c = run_2 c.in_default.ensures.none

pub returns-in_default-first_of-clause-bad : goal.returns-in_default-first_of-clause-bad
returns-in_default-first_of-clause-bad c = run_3 c.in-Some.ensures.some c.in_default-first_of.ensures.none

pub returns-in_default-behind_number-clause-bad : goal.returns-in_default-behind_number-clause-bad
returns-in_default-behind_number-clause-bad c = run_4 c.in-Some.ensures.some c.in-Some-first_of.ensures.some c.in_default-behind_number.ensures.none

pub returns-in_default-behind_strategy-clause-bad : goal.returns-in_default-behind_strategy-clause-bad
returns-in_default-behind_strategy-clause-bad c =
    let runs = c.in-Some-behind_number.ensures.some in
    run_5 c.in-Some.ensures.some c.in-Some-first_of.ensures.some runs.1 runs.2 c.in_default-behind_strategy.ensures.none

pub returns-in_default-behind_number-2-clause-bad : goal.returns-in_default-behind_number-2-clause-bad
returns-in_default-behind_number-2-clause-bad c =
    let runs = c.in-Some-behind_number.ensures.some in
    run_6 c.in-Some-behind_strategy.chosen.strategy c.in-Some.ensures.some c.in-Some-first_of.ensures.some runs.1 runs.2 c.in-Some-behind_strategy.ensures.some c.in_default-behind_number-2.ensures.none

pub returns-in-Some-bad_run_option-clause-bad : goal.returns-in-Some-bad_run_option-clause-bad
returns-in-Some-bad_run_option-clause-bad c =
    let runs = c.in-Some-behind_number.ensures.some in
    let depth = c.in-Some-behind_number-2.ensures.some in
    run_bad c.in-Some-behind_strategy.chosen.strategy c.in-Some.ensures.some c.in-Some-first_of.ensures.some runs.1 runs.2 c.in-Some-behind_strategy.ensures.some depth.1 depth.2 c.in-Some-bad_run_option.ensures.some

-- the options fit
pub bounds_with-requires-clause-given : goal.bounds_with-requires-clause-given
bounds_with-requires-clause-given c =
    let b = has_bounds (run_options c.in-Some-behind_strategy.chosen.strategy) (run_table c.in-Some-behind_strategy.chosen.strategy) (texts c.in-Some-behind_number-2.depth.rest.now) 0 c.in_default-bad_run_option.ensures.none in
    (b.0, b.1)

pub natural_given-requires : goal.natural_given-requires
natural_given-requires c =
    given_natural (texts c.in-Some-behind_number-2.depth.rest.now) solver_option refl (option_given (run_options c.in-Some-behind_strategy.chosen.strategy) (run_table c.in-Some-behind_strategy.chosen.strategy) (texts c.in-Some-behind_number-2.depth.rest.now) c.in_default-bad_run_option.ensures.none (codes "-solver") solver_option.1 (solver_there c.in-Some-behind_strategy.chosen.strategy))

-- there are few options
pub place_behind-requires : goal.place_behind-requires
place_behind-requires c =
    let few = run_short c.in-Some-behind_strategy.chosen.strategy (texts c.in-Some-behind_number-2.depth.rest.now) c.in_default-bad_run_option.ensures.none in
    omega (arith, few, texts_length c.in-Some-behind_number-2.depth.rest.now)

pub returns-clause-accepted : goal.returns-clause-accepted
returns-clause-accepted c =
    let runs = c.in-Some-behind_number.ensures.some in
    let depth = c.in-Some-behind_number-2.ensures.some in
    subst (λ a. Accepted (codes "run" ∷ texts c.args.words.now) (run_words c.in-Some-behind_number.runs.number c.in-Some-behind_strategy.chosen.strategy c.bounds_with.result c.natural_given.result c.seed_given.result a)) (sym c.place_behind.ensures)
    (run_whole c.in-Some-behind_strategy.chosen.strategy c.in-Some.ensures.some c.in-Some-first_of.ensures.some runs.1 runs.2 c.in-Some-behind_strategy.ensures.some depth.1
    (subst (λ k. IsNumber depth.0 (pos 1) (pos 1024) (pos k)) (sym c.bounds_with.ensures.depth) depth.2) c.in_default-bad_run_option.ensures.none.named c.bounds_with.ensures.bounds c.natural_given.ensures (let k = has_seed c.in-Some-behind_strategy.chosen.strategy (texts c.in-Some-behind_number-2.depth.rest.now) c.in_default-bad_run_option.ensures.none in subst (IsSeed (texts c.in-Some-behind_number-2.depth.rest.now)) (sym (c.seed_given.ensures k.0 k.1)) k.1) (has_path c.in-Some-behind_strategy.chosen.strategy (texts c.in-Some-behind_number-2.depth.rest.now) c.in_default-bad_run_option.ensures.none))
