use Rattle.cc_laws.proofs.LinearLaws.{narrow_is}
use Rattle.cc_laws.proofs.tracing.forms_are_kept_where_narrow.Goals as goal

pub returns : goal.returns
returns c = narrow_is
