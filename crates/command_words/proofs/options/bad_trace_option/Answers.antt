use Rattle.command_words.specs.Words.{texts, trace_options}
use Rattle.command_words.proofs.OptionReads.{some_by, none_by}
use Rattle.command_words.proofs.OptionTables.{trace_table, trace_place, fits_nothing}
use Rattle.command_words.proofs.options.bad_trace_option.Goals as goal

pub returns-clause-some : goal.returns-clause-some
returns-clause-some c = some_by c.bad_option.result _ _ (λ n k. k trace_table (fits_nothing trace_options trace_table)) c.bad_option.ensures.some

pub returns-clause-small : goal.returns-clause-small
returns-clause-small c = some_by c.bad_option.result _ _ (λ n k. trace_place (texts c.args.words.now) n (k trace_table (fits_nothing trace_options trace_table))) c.bad_option.ensures.some

pub returns-clause-none : goal.returns-clause-none
returns-clause-none c = none_by c.bad_option.result _ _ (λ k. k trace_table (fits_nothing trace_options trace_table)) c.bad_option.ensures.none
