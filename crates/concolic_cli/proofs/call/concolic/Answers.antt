-- Each promise, from what the call comes to.
use Rattle.concolic_cli.proofs.Calls.{ending}
use Rattle.concolic_cli.proofs.Commands.{has_after}
use Rattle.concolic_cli.proofs.Promises as promise
use Rattle.concolic_cli.proofs.Alone as alone
use Rattle.concolic_cli.proofs.Coming as coming
use Rattle.concolic_cli.proofs.TestsPromises as tests
use Rattle.concolic_cli.proofs.ReportFiles.{file_of_run, file_of_walk, file_of_trace}
use Rattle.concolic_cli.proofs.call.concolic.Goals as goal

pub returns-clause-headline : goal.returns-clause-headline
returns-clause-headline g c = λ words. promise.headline _ _ c.one_command.ensures (ending _ _ c.answer.ensures.answered) words

pub returns-clause-listed : goal.returns-clause-listed
returns-clause-listed g c = λ run after. promise.listed _ _ c.one_command.ensures (ending _ _ c.answer.ensures.answered) run after

pub returns-clause-traced : goal.returns-clause-traced
returns-clause-traced g c = λ words. promise.traced _ _ c.one_command.ensures (ending _ _ c.answer.ensures.answered) words

pub returns-clause-quiet : goal.returns-clause-quiet
returns-clause-quiet g c = promise.quiet _ _ c.one_command.ensures (ending _ _ c.answer.ensures.answered)

pub returns-clause-bad_words : goal.returns-clause-bad_words
returns-clause-bad_words g c = promise.bad_words _ _ c.one_command.ensures (ending _ _ c.answer.ensures.answered)

pub returns-clause-bad_word : goal.returns-clause-bad_word
returns-clause-bad_word g c = promise.bad_word _ _ c.one_command.ensures (ending _ _ c.answer.ensures.answered)

pub returns-clause-source_refused : goal.returns-clause-source_refused
returns-clause-source_refused g c = promise.source_refused _ _ c.one_command.ensures (ending _ _ c.answer.ensures.answered)

pub returns-clause-file_refused : goal.returns-clause-file_refused
returns-clause-file_refused g c = promise.file_refused _ _ c.one_command.ensures (ending _ _ c.answer.ensures.answered)

pub returns-clause-output_failed : goal.returns-clause-output_failed
returns-clause-output_failed g c = promise.output_failed _ _ c.one_command.ensures (ending _ _ c.answer.ensures.answered)

pub returns-clause-no_memory : goal.returns-clause-no_memory
returns-clause-no_memory g c = promise.no_memory _ _ c.one_command.ensures (ending _ _ c.answer.ensures.answered)

pub returns-clause-stands : goal.returns-clause-stands
returns-clause-stands g c = promise.stands _ _ c.one_command.ensures (ending _ _ c.answer.ensures.answered)

pub returns-clause-silent : goal.returns-clause-silent
returns-clause-silent g c = promise.silent _ _ c.one_command.ensures (ending _ _ c.answer.ensures.answered)

pub returns-clause-statuses : goal.returns-clause-statuses
returns-clause-statuses g c = alone.statuses _ _ c.one_command.ensures (ending _ _ c.answer.ensures.answered)

pub returns-clause-run_alone : goal.returns-clause-run_alone
returns-clause-run_alone g c = alone.run_alone _ _ c.one_command.ensures (ending _ _ c.answer.ensures.answered)

pub returns-clause-complete : goal.returns-clause-complete
returns-clause-complete g c = λ run after bytes paths a v n i s few. coming.complete _ _ c.one_command.ensures (ending _ _ c.answer.ensures.answered) c.one_program.ensures run after bytes paths a v n i s few

pub returns-clause-complete_trace : goal.returns-clause-complete_trace
returns-clause-complete_trace g c = λ trace bytes h a i m s. coming.complete_trace _ _ c.one_command.ensures (ending _ _ c.answer.ensures.answered) c.one_program.ensures trace bytes h a i m s

pub returns-clause-refused_source : goal.returns-clause-refused_source
returns-clause-refused_source g c = λ task bytes text a i. coming.refused_source _ _ c.one_command.ensures (ending _ _ c.answer.ensures.answered) c.one_program.ensures task bytes text a i

pub returns-clause-refused_map : goal.returns-clause-refused_map
returns-clause-refused_map g c = λ trace bytes f a i s. coming.refused_map _ _ c.one_command.ensures (ending _ _ c.answer.ensures.answered) trace bytes f a i s

pub returns-clause-refused_make : goal.returns-clause-refused_make
returns-clause-refused_make g c = λ n text a r. coming.refused_make _ _ c.one_command.ensures (ending _ _ c.answer.ensures.answered) n a c.one_program.ensures text r

pub returns-clause-missed : goal.returns-clause-missed
returns-clause-missed g c = λ words. promise.missed _ _ c.one_command.ensures (ending _ _ c.answer.ensures.answered) words

pub returns-clause-made : goal.returns-clause-made
returns-clause-made g c = λ n. promise.made _ _ c.one_command.ensures (ending _ _ c.answer.ensures.answered) n

pub returns-clause-answers_make : goal.returns-clause-answers_make
returns-clause-answers_make g c = λ n a. coming.answers_make _ _ c.one_command.ensures (ending _ _ c.answer.ensures.answered) n a

pub returns-clause-answers_run : goal.returns-clause-answers_run
returns-clause-answers_run g c = λ run after bytes p a v n i s. coming.answers_run _ _ c.one_command.ensures (ending _ _ c.answer.ensures.answered) c.one_program.ensures run after bytes p a v n i s

pub returns-clause-missing_file : goal.returns-clause-missing_file
returns-clause-missing_file g c = λ task h a told. coming.missing_file _ _ c.one_command.ensures (ending _ _ c.answer.ensures.answered) task a h told

pub returns-clause-too_long_file : goal.returns-clause-too_long_file
returns-clause-too_long_file g c = λ task h b a told. coming.too_long_file _ _ c.one_command.ensures (ending _ _ c.answer.ensures.answered) task a h told b

pub returns-clause-replayed : goal.returns-clause-replayed
returns-clause-replayed g c = λ words. promise.replayed _ _ c.one_command.ensures (ending _ _ c.answer.ensures.answered) words

pub returns-clause-replay_alone : goal.returns-clause-replay_alone
returns-clause-replay_alone g c = alone.replay_alone _ _ c.one_command.ensures (ending _ _ c.answer.ensures.answered)

pub returns-clause-answers_replay : goal.returns-clause-answers_replay
returns-clause-answers_replay g c = λ r bytes file a i h. tests.answers_replay _ _ c.one_command.ensures (ending _ _ c.answer.ensures.answered) c.one_program.ensures r bytes file a i h

pub returns-clause-refused_tests : goal.returns-clause-refused_tests
returns-clause-refused_tests g c = λ r bytes file line a i h. tests.refused_tests _ _ c.one_command.ensures (ending _ _ c.answer.ensures.answered) c.one_program.ensures r bytes file a i h line

pub returns-clause-run_file : goal.returns-clause-run_file
returns-clause-run_file g c = λ run a v i. let f = has_after _ run a in file_of_run _ _ _ _ run f.0 _ a (promise.listed _ _ c.one_command.ensures (ending _ _ c.answer.ensures.answered) run f.0 a v f.1 i)

pub returns-clause-walk_file : goal.returns-clause-walk_file
returns-clause-walk_file g c = λ run a v i. file_of_walk _ _ _ _ run _ a (promise.walked _ _ c.one_command.ensures (ending _ _ c.answer.ensures.answered) run a v i)

pub returns-clause-trace_file : goal.returns-clause-trace_file
returns-clause-trace_file g c = λ trace a i. file_of_trace _ _ _ _ trace _ a (promise.traced _ _ c.one_command.ensures (ending _ _ c.answer.ensures.answered) trace a i)

pub returns-clause-walked : goal.returns-clause-walked
returns-clause-walked g c = λ words. promise.walked _ _ c.one_command.ensures (ending _ _ c.answer.ensures.answered) words

pub returns-clause-answers_walk : goal.returns-clause-answers_walk
returns-clause-answers_walk g c = λ run bytes p a v i s. coming.answers_walk _ _ c.one_command.ensures (ending _ _ c.answer.ensures.answered) c.one_program.ensures run bytes p a v i s

pub returns-clause-fault_alone : goal.returns-clause-fault_alone
returns-clause-fault_alone g c = alone.fault_alone _ _ c.one_command.ensures (ending _ _ c.answer.ensures.answered)

pub returns-clause-missing_tests : goal.returns-clause-missing_tests
returns-clause-missing_tests g c = λ r h a. tests.missing_tests _ _ c.one_command.ensures (ending _ _ c.answer.ensures.answered) c.one_program.ensures r a h

pub returns-clause-too_long_tests : goal.returns-clause-too_long_tests
returns-clause-too_long_tests g c = λ r h file a. tests.too_long_tests _ _ c.one_command.ensures (ending _ _ c.answer.ensures.answered) c.one_program.ensures r a h file
