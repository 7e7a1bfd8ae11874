use Rattle.std.proofs.Common.{List, map, subst}
use Rattle.cc_model.specs.declared.trees.Part.{Part}
use Rattle.cc_model.specs.Core.{Cell}
use Rattle.cc_model.specs.CheckedProgram.{cell_of}
use Rattle.cc_model.specs.Resolve.{param_of, body_of}
use Rattle.tac_lower.specs.Tables.{facts_of}
use Rattle.tac_lower.specs.Emitted.{AddsFunc}
use Rattle.tac_lower.proofs.Emitting.{on_ok}
use Rattle.tac_lower.proofs.known.Known.with_body.Goals as goal

pub returns : goal.returns
returns c =
    let checked = c.args.self.now.checked.now in
    let facts = facts_of c.args.self.now.checked.now c.args.self.now.function in
    let params : List Cell = map (param_of facts) (c.args.f.now).params in
    on_ok c.function.result c.function.ensures (λ p.
    subst (λ (r : Cell). AddsFunc checked (record { params = params; result = r; body = body_of facts (c.args.f.now).body }) c.args.code.now c.function.new.code) c.result_at.ensures
    (subst (λ (b : List Part). AddsFunc checked (record { params = params; result = cell_of c.result_at.result; body = body_of facts b }) c.args.code.now c.function.new.code) c.as_slice.ensures (p params)))
