use Rattle.std.proofs.Common.{Some, None}
use Rattle.cc_model.specs.Sites.{sites_in}
use Rattle.c_types.proofs.FirstFaults.{found_at}
use Rattle.c_types.proofs.least.sites_fault.Goals as goal

pub returns-in-Some : goal.returns-in-Some
returns-in-Some c = λ tokens items h. found_at tokens (sites_in items) c.args.sites.now 4096 (Some c.in-Some.site.now) c.in-Some.ensures h

pub returns-in-None : goal.returns-in-None
returns-in-None c = λ tokens items h. found_at tokens (sites_in items) c.args.sites.now 4096 None c.in-None.ensures h
