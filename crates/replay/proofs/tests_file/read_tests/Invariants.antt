use Rattle.std.proofs.Common.{◌≡◌, ◌≤◌, ◌+◌, length}
use Rattle.cc_model.specs.CheckedProgram.{core_of}
use Rattle.replay.proofs.FileLaws.{UpTo}
use Rattle.replay.proofs.tests_file.read_tests.Given as goal

-- the lines before the rest are passed, and there are few
abbrev pub invariant-lines : goal.invariant-lines
invariant-lines l = record {
  bounds : (l.tests).bounds ≡ (l.initial.tests).bounds;
  passed : UpTo (core_of l.checked) (l.initial.tests).bounds l.initial.rest l.number l.rest (l.tests).tests (l.tests).lines;
  few : l.number + length l.rest ≤ length l.text + 1;
}

abbrev pub decreases-lines : goal.decreases-lines
decreases-lines l = length l.rest
