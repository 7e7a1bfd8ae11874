use Rattle.std.proofs.Common.{ap}
use Rattle.cc_model.specs.Traced.{Shadow, Traced}
use Rattle.sym_run.specs.Beside.{value_of}
use Rattle.sym_run.specs.Remembers.{cell_shadow}
use Rattle.sym_run.proofs.RankLaws.{reached_without}
use Rattle.sym_run.proofs.objects.Objects.reached.Goals as goal

pub returns-in-None-clause-value : goal.returns-in-None-clause-value
returns-in-None-clause-value c = λ start named d r.
    ap (λ (s : Shadow). (let t : Traced = record { plain = value_of c.args.pointer.value; shadow = s } in t)) (reached_without start named c.args.symbols.now c.args.self.now d r c.args.rank (cell_shadow c.args.symbols.now c.args.pointer) c.in-None.ensures)
