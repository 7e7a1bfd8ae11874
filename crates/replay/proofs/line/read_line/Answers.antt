use Rattle.cc_model.specs.CheckedProgram.{core_of}
use Rattle.replay.specs.declared.line.Line.TheVariants as of
use Rattle.replay.specs.Forms.{IsOther}
use Rattle.replay.specs.Lines.{IsLine, other}
use Rattle.replay.specs.Reading.{IsStray, IsUnrun}
use Rattle.input_map.specs.TestTexts.{IsTestText}
use Rattle.replay.proofs.LineLaws.{has_blank, test_is, past_is, stray_is, unrun_is, test_only, past_only, stray_only, unrun_only, other_only, if_tells}
use Rattle.replay.proofs.line.read_line.Goals as goal

pub returns-in-None-clause-only : goal.returns-in-None-clause-only
returns-in-None-clause-only c l h = absurd (has_blank (core_of c.args.checked.now) c.args.bounds.now c.args.line.now l c.in-None.ensures.none h)

pub returns-in-Test-clause-read : goal.returns-in-Test-clause-read
returns-in-Test-clause-read c =
    if_tells (λ t. IsTestText (core_of c.args.checked.now) c.args.bounds.now c.in-Some.parts.behind.now t) (λ t. IsLine (core_of c.args.checked.now) c.args.bounds.now c.args.line.now (of.Test t)) ⊥ (IsLine (core_of c.args.checked.now) c.args.bounds.now c.args.line.now of.Other) c.test_line.result
    (λ t k. test_is (core_of c.args.checked.now) c.args.bounds.now c.args.line.now c.in-Some.parts.before.now c.in-Some.parts.behind.now t c.in-Some.ensures.some c.in-Test.ensures k) (λ x. absurd x) c.test_line.ensures.read

pub returns-in-Test-clause-only : goal.returns-in-Test-clause-only
returns-in-Test-clause-only c =
    test_only (core_of c.args.checked.now) c.args.bounds.now c.args.line.now c.in-Some.parts.before.now c.in-Some.parts.behind.now c.test_line.result c.in-Some.ensures.some c.in-Test.ensures c.test_line.ensures.only

pub returns-in-Past-clause-read : goal.returns-in-Past-clause-read
returns-in-Past-clause-read c =
    if_tells (λ t. IsTestText (core_of c.args.checked.now) c.args.bounds.now c.in-Some.parts.behind.now t) (λ t. IsLine (core_of c.args.checked.now) c.args.bounds.now c.args.line.now (of.Test t)) ⊥ (IsLine (core_of c.args.checked.now) c.args.bounds.now c.args.line.now of.Other) c.test_line-in-Past.result
    (λ t k. past_is (core_of c.args.checked.now) c.args.bounds.now c.args.line.now c.in-Some.parts.before.now c.in-Some.parts.behind.now t c.in-Some.ensures.some c.in-Past.ensures k) (λ x. absurd x) c.test_line-in-Past.ensures.read

pub returns-in-Past-clause-only : goal.returns-in-Past-clause-only
returns-in-Past-clause-only c =
    past_only (core_of c.args.checked.now) c.args.bounds.now c.args.line.now c.in-Some.parts.before.now c.in-Some.parts.behind.now c.test_line-in-Past.result c.in-Some.ensures.some c.in-Past.ensures c.test_line-in-Past.ensures.only

pub returns-in-Stray-clause-read : goal.returns-in-Stray-clause-read
returns-in-Stray-clause-read c =
    if_tells (λ t. IsStray (core_of c.args.checked.now) c.args.bounds.now c.in-Some.parts.behind.now t) (λ t. IsLine (core_of c.args.checked.now) c.args.bounds.now c.args.line.now (of.Test t)) ⊥ (IsLine (core_of c.args.checked.now) c.args.bounds.now c.args.line.now of.Other) c.stray_line.result
    (λ t k. stray_is (core_of c.args.checked.now) c.args.bounds.now c.args.line.now c.in-Some.parts.before.now c.in-Some.parts.behind.now t c.in-Some.ensures.some c.in-Stray.ensures k) (λ x. absurd x) c.stray_line.ensures.read

pub returns-in-Stray-clause-only : goal.returns-in-Stray-clause-only
returns-in-Stray-clause-only c =
    stray_only (core_of c.args.checked.now) c.args.bounds.now c.args.line.now c.in-Some.parts.before.now c.in-Some.parts.behind.now c.stray_line.result c.in-Some.ensures.some c.in-Stray.ensures c.stray_line.ensures.only

pub returns-in-Unrun-clause-read : goal.returns-in-Unrun-clause-read
returns-in-Unrun-clause-read c =
    if_tells (λ t. ⊥) (λ t. IsLine (core_of c.args.checked.now) c.args.bounds.now c.args.line.now (of.Test t)) (IsUnrun (core_of c.args.checked.now) c.args.bounds.now c.in-Some.parts.behind.now) (IsLine (core_of c.args.checked.now) c.args.bounds.now c.args.line.now of.Other) c.unrun_line.result
    (λ t x. absurd x) (λ k. unrun_is (core_of c.args.checked.now) c.args.bounds.now c.args.line.now c.in-Some.parts.before.now c.in-Some.parts.behind.now c.in-Some.ensures.some c.in-Unrun.ensures k) c.unrun_line.ensures.read

pub returns-in-Unrun-clause-only : goal.returns-in-Unrun-clause-only
returns-in-Unrun-clause-only c =
    unrun_only (core_of c.args.checked.now) c.args.bounds.now c.args.line.now c.in-Some.parts.before.now c.in-Some.parts.behind.now c.unrun_line.result c.in-Some.ensures.some c.in-Unrun.ensures c.unrun_line.ensures.only

pub returns-in-Other-clause-read : goal.returns-in-Other-clause-read
returns-in-Other-clause-read c =
    if_tells (λ t. ⊥) (λ t. IsLine (core_of c.args.checked.now) c.args.bounds.now c.args.line.now (of.Test t)) (IsOther c.args.line.now) (IsLine (core_of c.args.checked.now) c.args.bounds.now c.args.line.now of.Other) c.other_line.result
    (λ t x. absurd x) (λ k. other k) c.other_line.ensures.read

pub returns-in-Other-clause-only : goal.returns-in-Other-clause-only
returns-in-Other-clause-only c =
    other_only (core_of c.args.checked.now) c.args.bounds.now c.args.line.now c.in-Some.parts.before.now c.in-Some.parts.behind.now c.other_line.result c.in-Some.ensures.some c.in-Other.ensures c.other_line.ensures.only
