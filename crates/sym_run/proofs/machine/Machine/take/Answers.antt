use Rattle.std.proofs.Common.{◌≡◌, ℤ, ◌∙◌, rules, to_z, of_z, SFits, w32}
use Rattle.std.proofs.lemmas.Int.{to_z-of_z}
use Rattle.sym_run.specs.Stands.{Setting, setting}
use Rattle.sym_run.proofs.DataActs.{take_did}
use Rattle.sym_run.proofs.machine.Machine.take.Goals as goal

pub returns : goal.returns
returns c =
    let w : Setting = setting c.args.fixed.now.checked.now c.args.fixed.now.tac.now c.args.fixed.now.bounds.now c.args.fixed.now.input.now in
    let fits : SFits w32 c.base-base.result = search rules in
    let base : ℤ = to_z w32 (of_z w32 c.base-base.result) in
    let same : base ≡ c.base-base.result = to_z-of_z w32 c.base-base.result fits in
    take_did w c.args.self.now c.advance.new.self c.args.pointer c.in_ok-at.at c.take.new.self c.take.new.symbols base c.in_ok-at.ensures.there (same ∙ c.base-base.ensures)
    c.in_ok-take.ensures.taken c.in_ok-take.ensures.symbols c.in_ok-take.ensures.names c.in_ok-advance.ensures
