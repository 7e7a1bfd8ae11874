use Rattle.std.proofs.Common.{List}
use Rattle.cc_model.specs.Core.{Cell}
use Rattle.cc_model.specs.Resolve.{body_of}
use Rattle.cc_model.specs.CheckedProgram.{cell_of}
use Rattle.tac_lower.specs.Tables.{facts_of}
use Rattle.tac_lower.proofs.Emitting.{on_ok}
use Rattle.tac_lower.proofs.Loops.{func_done}
use Rattle.tac_lower.proofs.known.Known.function.Goals as goal

pub returns : goal.returns
returns c = on_ok c.emit.result c.emit.ensures (λ e. λ (params : List Cell).
    func_done c.args.self.now.checked.now (record { params = params; result = cell_of c.args.given; body = body_of (facts_of c.args.self.now.checked.now c.args.self.now.function) c.args.body.now }) _ _ _ _ _ c.in_ok-returned.ensures c.here-end.ensures c.in_ok-parts.ensures e)
