use Rattle.report_laws.proofs.Reports.{one_run}
use Rattle.report_laws.proofs.traces.a_trace_is_of_one_run.Goals as goal

pub returns : goal.returns
returns c = one_run
