use Rattle.std.proofs.Common.{◌∙◌, sym}
use Rattle.sym_run.specs.Numbers.{op_of}
use Rattle.sym_run.proofs.FormedLaws.{formed_plain, formed_result}
use Rattle.sym_run.proofs.operations.formed_of.Goals as goal

pub returns-then-either_depends : goal.returns-then-either_depends
returns-then-either_depends c = formed_result (op_of c.args.operation) c.args.a.now c.args.b.now _ (sym c.either_depends.ensures.value ∙ c.if-either_depends.true) c.result_of.ensures

pub returns : goal.returns
returns c = formed_plain (op_of c.args.operation) c.args.a.now c.args.b.now (sym c.either_depends.ensures.value ∙ c.if-either_depends.false)
