use Rattle.std.proofs.Common.{sym, ◌∙◌}
use Rattle.sym_run.proofs.MemoryLaws.{if_some, loaded}
use Rattle.sym_run.proofs.objects.Objects.load.Goals as goal

pub returns : goal.returns
returns c = if_some c.find.result _ (λ cell e start named symbols d r k. loaded start named symbols c.args.self.now d r c.args.at cell k (sym c.find.ensures ∙ e))
