use Rattle.std.proofs.Common.{refl, inr}
use Rattle.cc_model.specs.CheckedProgram.{core_of}
use Rattle.replay.proofs.FileLaws.{faulty_cut, faulty_bad}
use Rattle.replay.proofs.tests_file.Tests.pass.Goals as goal

pub returns-in-None-clause-stops : goal.returns-in-None-clause-stops
returns-in-None-clause-stops c = inr (refl, faulty_cut (core_of c.args.checked.now) (c.args.self.now).bounds c.args.rest.now c.in-None.ensures.none)

pub returns-in-Bad-clause-stops : goal.returns-in-Bad-clause-stops
returns-in-Bad-clause-stops c =
    inr (
      refl,
      faulty_bad (core_of c.args.checked.now) (c.args.self.now).bounds c.args.rest.now c.in-Some.parts.before.now c.in-Some.parts.behind.now c.in_ok-test-in-Some.field-0
          c.in-Some.ensures.some c.in-Bad.is c.in_ok-test-in-Some.ensures.only,
    )
