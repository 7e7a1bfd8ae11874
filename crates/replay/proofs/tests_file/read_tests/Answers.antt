use Rattle.std.proofs.Common.{◌+◌, ◌∙◌, inl, ap, subst, arith}
use Rattle.std.proofs.lemmas.Result.{err_from_is_err_and}
use Rattle.cc_model.specs.CheckedProgram.{core_of}
use Rattle.replay.specs.Files.{first_line, Stops}
use Rattle.replay.specs.declared.faults.TestsFault.TheVariants.{Line}
use Rattle.replay.proofs.WholeFile.{goes_on, filled_by, done_by}
use Rattle.replay.proofs.WholeFile.{no_line_at_all, no_bounds, badly_file, badly_line, stops_refused, stops_only, stops_line, ends_read, ends_same, ends_never}
use Rattle.replay.proofs.tests_file.read_tests.Goals as goal

pub returns-in_default-clause-refused : goal.returns-in_default-clause-refused
returns-in_default-clause-refused c = first_line c.args.text.now (no_line_at_all c.args.text.now c.in_default.ensures.none)

pub returns-in_default-clause-only : goal.returns-in_default-clause-only
returns-in_default-clause-only c b ts ns h = absurd (badly_file (core_of c.args.checked.now) c.args.text.now b ts ns (no_line_at_all c.args.text.now c.in_default.ensures.none) h)

pub returns-in_default-clause-only_line : goal.returns-in_default-clause-only_line
returns-in_default-clause-only_line c n h = inl (ap Line (badly_line (core_of c.args.checked.now) c.args.text.now n (no_line_at_all c.args.text.now c.in_default.ensures.none) h))

pub returns-in_default-bounds_of-clause-refused : goal.returns-in_default-bounds_of-clause-refused
returns-in_default-bounds_of-clause-refused c =
    first_line c.args.text.now (no_bounds c.args.text.now c.in-Some.first.before.now c.in-Some.first.behind.now c.in-Some.ensures.some (λ b k. let e = c.in_default-bounds_of.ensures.only b k in absurd (cc e)))

pub returns-in_default-bounds_of-clause-only : goal.returns-in_default-bounds_of-clause-only
returns-in_default-bounds_of-clause-only c b ts ns h = absurd (badly_file (core_of c.args.checked.now) c.args.text.now b ts ns
    (no_bounds c.args.text.now c.in-Some.first.before.now c.in-Some.first.behind.now c.in-Some.ensures.some (λ b k. let e = c.in_default-bounds_of.ensures.only b k in absurd (cc e))) h)

pub returns-in_default-bounds_of-clause-only_line : goal.returns-in_default-bounds_of-clause-only_line
returns-in_default-bounds_of-clause-only_line c n h = inl (ap Line (badly_line (core_of c.args.checked.now) c.args.text.now n
    (no_bounds c.args.text.now c.in-Some.first.before.now c.in-Some.first.behind.now c.in-Some.ensures.some (λ b k. let e = c.in_default-bounds_of.ensures.only b k in absurd (cc e))) h))

pub returns-in_err-rest-clause-refused : goal.returns-in_err-rest-clause-refused
returns-in_err-rest-clause-refused c =
    let q = err_from_is_err_and c.from_residual.result c.from_residual.ensures.1 in
    rw (q.1, q.2) (stops_refused (core_of c.args.checked.now) c.args.text.now c.in-Some.first.before.now c.in-Some.first.behind.now c.in-Some-bounds_of.bounds
    (record { cut = c.in-Some.ensures.some; bounds = c.in-Some-bounds_of.ensures.read; only = c.in-Some-bounds_of.ensures.only })
    c.lines.rest.now c.lines.number (c.lines.tests).tests (c.lines.tests).lines (filled_by c.is_empty.result c.lines.rest.now c.is_empty.ensures c.lines-test.true) c.lines.invariant.passed
    c.in_err-rest.field-0.0 (subst (λ x. Stops (core_of c.args.checked.now) x c.lines.number c.lines.rest.now c.in_err-rest.field-0.0) c.lines.invariant.bounds c.in_err-rest.ensures.stops))

pub returns-in_err-rest-clause-only : goal.returns-in_err-rest-clause-only
returns-in_err-rest-clause-only c b ts ns h =
    let q = err_from_is_err_and c.from_residual.result c.from_residual.ensures.1 in
    rw (q.1, q.2) (stops_only (core_of c.args.checked.now) c.args.text.now c.in-Some.first.before.now c.in-Some.first.behind.now c.in-Some-bounds_of.bounds
    (record { cut = c.in-Some.ensures.some; bounds = c.in-Some-bounds_of.ensures.read; only = c.in-Some-bounds_of.ensures.only })
    c.lines.rest.now c.lines.number (c.lines.tests).tests (c.lines.tests).lines (filled_by c.is_empty.result c.lines.rest.now c.is_empty.ensures c.lines-test.true) c.lines.invariant.passed
    c.in_err-rest.field-0.0 (subst (λ x. Stops (core_of c.args.checked.now) x c.lines.number c.lines.rest.now c.in_err-rest.field-0.0) c.lines.invariant.bounds c.in_err-rest.ensures.stops) b ts ns h)

pub returns-in_err-rest-clause-only_line : goal.returns-in_err-rest-clause-only_line
returns-in_err-rest-clause-only_line c n h =
    let q = err_from_is_err_and c.from_residual.result c.from_residual.ensures.1 in
    rw (q.1, q.2) (stops_line (core_of c.args.checked.now) c.args.text.now c.in-Some.first.before.now c.in-Some.first.behind.now c.in-Some-bounds_of.bounds
    (record { cut = c.in-Some.ensures.some; bounds = c.in-Some-bounds_of.ensures.read; only = c.in-Some-bounds_of.ensures.only })
    c.lines.rest.now c.lines.number (c.lines.tests).tests (c.lines.tests).lines (filled_by c.is_empty.result c.lines.rest.now c.is_empty.ensures c.lines-test.true) c.lines.invariant.passed
    c.in_err-rest.field-0.0 (subst (λ x. Stops (core_of c.args.checked.now) x c.lines.number c.lines.rest.now c.in_err-rest.field-0.0) c.lines.invariant.bounds c.in_err-rest.ensures.stops) n h)

pub lines-preserved : goal.lines-preserved
lines-preserved c =
    let p = c.in_ok-rest.ensures.passed in
    let l = c.in_ok-rest.ensures.shorter in
    let i = c.lines.invariant.few in
    record {
      bounds = p.bounds ∙ c.lines.invariant.bounds;
      passed = goes_on (core_of c.args.checked.now) c.in-Some-bounds_of.bounds c.in-Some.first.behind.now c.lines.number (c.lines.number + 1) c.lines.rest.now c.in_ok-rest.rest.now c.lines.tests c.pass.new.self c.lines.invariant.bounds p
          (omega arith) c.lines.invariant.passed;
      few = omega (arith, l, i);
    }

pub returns-clause-read : goal.returns-clause-read
returns-clause-read c = ends_read (core_of c.args.checked.now) c.args.text.now c.in-Some.first.before.now c.in-Some.first.behind.now c.in-Some-bounds_of.bounds
    (record { cut = c.in-Some.ensures.some; bounds = c.in-Some-bounds_of.ensures.read; only = c.in-Some-bounds_of.ensures.only })
    c.lines.rest.now c.lines.number (c.lines.tests).tests (c.lines.tests).lines (c.lines.tests).bounds c.lines.invariant.bounds (done_by c.is_empty.result c.lines.rest.now c.is_empty.ensures c.lines-test.false) c.lines.invariant.passed

pub returns-clause-only : goal.returns-clause-only
returns-clause-only c b ts ns h = ends_same (core_of c.args.checked.now) c.args.text.now c.in-Some.first.before.now c.in-Some.first.behind.now c.in-Some-bounds_of.bounds
    (record { cut = c.in-Some.ensures.some; bounds = c.in-Some-bounds_of.ensures.read; only = c.in-Some-bounds_of.ensures.only })
    c.lines.rest.now c.lines.number (c.lines.tests).tests (c.lines.tests).lines (c.lines.tests).bounds c.lines.invariant.bounds (done_by c.is_empty.result c.lines.rest.now c.is_empty.ensures c.lines-test.false) c.lines.invariant.passed b ts ns h

pub returns-clause-only_line : goal.returns-clause-only_line
returns-clause-only_line c n h = ends_never (core_of c.args.checked.now) c.args.text.now c.in-Some.first.before.now c.in-Some.first.behind.now c.in-Some-bounds_of.bounds
    (record { cut = c.in-Some.ensures.some; bounds = c.in-Some-bounds_of.ensures.read; only = c.in-Some-bounds_of.ensures.only })
    c.lines.rest.now c.lines.number (c.lines.tests).tests (c.lines.tests).lines (c.lines.tests).bounds c.lines.invariant.bounds (done_by c.is_empty.result c.lines.rest.now c.is_empty.ensures c.lines-test.false) c.lines.invariant.passed n h
