use Rattle.command_words.specs.Words.{walk_options}
use Rattle.command_words.proofs.OptionReads.{some_by, none_by}
use Rattle.command_words.proofs.OptionTables.{walk_table, fits_nothing}
use Rattle.command_words.proofs.options.bad_walk_option.Goals as goal

pub returns-clause-some : goal.returns-clause-some
returns-clause-some c = some_by c.bad_option.result _ _ (λ n k. k walk_table (fits_nothing walk_options walk_table)) c.bad_option.ensures.some

pub returns-clause-none : goal.returns-clause-none
returns-clause-none c = none_by c.bad_option.result _ _ (λ k. k walk_table (fits_nothing walk_options walk_table)) c.bad_option.ensures.none
