use Rattle.command_words.specs.Words.{texts}
use Rattle.cc_model.specs.declared.commands.Strategy.TheVariants.{Dfs, Random, UniformRandom, Cfg}
use Rattle.command_words.proofs.OptionReads.{some_by}
use Rattle.command_words.proofs.OptionTables.{run_place}
use Rattle.command_words.proofs.options.bad_run_option.Goals as goal

pub returns-in-Dfs-clause-small : goal.returns-in-Dfs-clause-small
returns-in-Dfs-clause-small c = some_by c.bad_search_option.result _ _ (λ n k. run_place Dfs (texts c.args.words.now) n k) c.bad_search_option.ensures.some

pub returns-in-Random-clause-small : goal.returns-in-Random-clause-small
returns-in-Random-clause-small c = some_by c.bad_walk_option.result _ _ (λ n k. run_place Random (texts c.args.words.now) n k) c.bad_walk_option.ensures.some

pub returns-in-UniformRandom-clause-small : goal.returns-in-UniformRandom-clause-small
returns-in-UniformRandom-clause-small c = some_by c.bad_walk_option-in-UniformRandom.result _ _ (λ n k. run_place UniformRandom (texts c.args.words.now) n k) c.bad_walk_option-in-UniformRandom.ensures.some

pub returns-in-Cfg-clause-small : goal.returns-in-Cfg-clause-small
returns-in-Cfg-clause-small c = some_by c.bad_walk_option-in-Cfg.result _ _ (λ n k. run_place Cfg (texts c.args.words.now) n k) c.bad_walk_option-in-Cfg.ensures.some
