use Rattle.std.proofs.Common.{◌≡◌, ◌∙◌, length, sym, ap, subst, arith, refl, get_or, Option, Some, slice_get}
use Rattle.cc_model.specs.CheckedProgram.{core_of}
use Rattle.cc_model.specs.Runs.{path_at, end_at}
use Rattle.replay.specs.ReplayText.{Written, replayed_line, differs_line}
use Rattle.concolic_cli.specs.declared.replaying.Difference.{Difference}
use Rattle.concolic_cli.specs.Replaying.{AreReal, DiffersFirst, IsFirstDifference}
use Rattle.replay.proofs.HeldTests.{AreGood, file_good}
use Rattle.concolic_cli.proofs.ReplayLaws.{all_written, one_written, at_place, line_at, below}
use Rattle.concolic_cli.proofs.replaying.replay_all.Goals as goal
use Rattle.concolic_cli.proofs.replaying.replay_all.Goals.{After-as_slice-all}

good : (c : After-as_slice-all) → AreGood (core_of c.args.compiled.now.checked) c.args.tests.now.bounds (length c.requires.holds.0) c.args.tests.now.tests c.args.tests.now.lines
good c = file_good (core_of c.args.compiled.now.checked) c.args.tests.now.bounds c.requires.holds.0 c.args.tests.now.tests c.args.tests.now.lines c.requires.holds.2

pub first_difference-requires-clause-within : goal.first_difference-requires-clause-within
first_difference-requires-clause-within c k t e = (((good c).good k t (subst (λ l. slice_get l k ≡ Some t) c.as_slice-all.ensures e)).input).within

pub first_difference-requires-clause-few : goal.first_difference-requires-clause-few
first_difference-requires-clause-few c =
    let few = (good c).few in
    let short = c.requires.holds.1 in
    let same = ap length c.as_slice-all.ensures in
    omega (arith, few, short, same)

-- the difference that was found
found : (c : After-as_slice-all) (o : Option Difference) (d : Difference) → DiffersFirst (core_of c.args.compiled.now.checked) c.args.tests.now.bounds c.as_slice-all.result.now o → o ≡ Some d →
    IsFirstDifference (core_of c.args.compiled.now.checked) c.args.tests.now.bounds c.args.tests.now.tests d
found c o d h e = subst (λ l. IsFirstDifference (core_of c.args.compiled.now.checked) c.args.tests.now.bounds l d) c.as_slice-all.ensures
    (subst (DiffersFirst (core_of c.args.compiled.now.checked) c.args.tests.now.bounds c.as_slice-all.result.now) e h)

pub bounds-as_slice-place : goal.bounds-as_slice-place
bounds-as_slice-place c =
    let w = (goal.at.bounds-as_slice-place c).After-as_slice-all in
    let d = found w _ c.in-Some.field-0 c.in_ok-first_difference.ensures c.in-Some.is in
    let h = below c.args.tests.now.tests c.in-Some.field-0.place d.test d.here in
    let s = (good w).same in
    let e = ap length c.as_slice.ensures in
    omega (arith, h, s, e)

pub bounds-all-place : goal.bounds-all-place
bounds-all-place c =
    let w = (goal.at.bounds-all-place c).After-as_slice-all in
    let d = found w _ c.in-Some.field-0 c.in_ok-first_difference.ensures c.in-Some.is in
    below c.as_slice-all.result.now c.in-Some.field-0.place d.test (subst (λ l. slice_get l c.in-Some.field-0.place ≡ Some d.test) (sym c.as_slice-all.ensures) d.here)

pub differs_line-requires-clause-path : goal.differs_line-requires-clause-path
differs_line-requires-clause-path c =
    let w = (goal.at.differs_line-requires-clause-path c).After-as_slice-all in
    let d = found w _ c.in-Some.field-0 c.in_ok-first_difference.ensures c.in-Some.is in
    let h = below c.as_slice-all.result.now c.in-Some.field-0.place d.test (subst (λ l. slice_get l c.in-Some.field-0.place ≡ Some d.test) (sym c.as_slice-all.ensures) d.here) in
    let there = at_place (core_of c.args.compiled.now.checked) c.args.tests.now.bounds c.as_slice-all.result.now c.in-Some.field-0.place c.index-all-place.result _ h c.index-all-place.is in
    ((good w).good c.in-Some.field-0.place c.index-all-place.result (subst (λ l. slice_get l c.in-Some.field-0.place ≡ Some c.index-all-place.result) c.as_slice-all.ensures there)).bytes

pub differs_line-requires-clause-actual : goal.differs_line-requires-clause-actual
differs_line-requires-clause-actual c =
    let w = (goal.at.differs_line-requires-clause-actual c).After-as_slice-all in
    (found w _ c.in-Some.field-0 c.in_ok-first_difference.ensures c.in-Some.is).bytes

pub returns-in_ok-replayed_line-in-None : goal.returns-in_ok-replayed_line-in-None
returns-in_ok-replayed_line-in-None c =
    let w = (goal.at.returns-in_ok-replayed_line-in-None c).After-as_slice-all in
    let p = core_of c.args.compiled.now.checked in
    let b = c.args.tests.now.bounds in
    let real = subst (λ l. AreReal p b l (length l)) c.as_slice-all.ensures (subst (DiffersFirst p b c.as_slice-all.result.now) c.in-None.is c.in_ok-first_difference.ensures) in
    let count : length c.as_slice-all.result.now ≡ length c.args.tests.now.tests = ap length c.as_slice-all.ensures in
    subst (λ text. Written p b (length c.args.tests.now.tests) c.args.tests.now.tests c.args.tests.now.lines text 0) (sym (c.in_ok-replayed_line-in-None.ensures ∙ ap replayed_line count))
    (all_written p b (length c.args.tests.now.tests) c.args.tests.now.tests c.args.tests.now.lines (good w).same real)

pub returns-in_ok-text-in-Some : goal.returns-in_ok-text-in-Some
returns-in_ok-text-in-Some c =
    let w = (goal.at.returns-in_ok-text-in-Some c).After-as_slice-all in
    let p = core_of c.args.compiled.now.checked in
    let b = c.args.tests.now.bounds in
    let place = c.in-Some.field-0.place in
    let d = found w _ c.in-Some.field-0 c.in_ok-first_difference.ensures c.in-Some.is in
    let h = below c.as_slice-all.result.now place d.test (subst (λ l. slice_get l place ≡ Some d.test) (sym c.as_slice-all.ensures) d.here) in
    let there = subst (λ l. slice_get l place ≡ Some c.index-all-place.result) c.as_slice-all.ensures (at_place p b c.as_slice-all.result.now place c.index-all-place.result _ h c.index-all-place.is) in
    let t : c.index-all-place.result ≡ d.test = cc (there, d.here) in
    let same = (good w).same in
    let long = below c.args.tests.now.tests place d.test d.here in
    let lines = ap length c.as_slice.ensures in
    let n : slice_get c.args.tests.now.lines place ≡ Some (get_or c.as_slice.result.now place 0) =
    subst (λ l. slice_get l place ≡ Some (get_or c.as_slice.result.now place 0)) c.as_slice.ensures (line_at p b c.as_slice.result.now place (get_or c.as_slice.result.now place 0) 0 (omega (arith, same, long, lines)) refl) in
    let text : c.in_ok-text-in-Some.text.items ≡ differs_line (get_or c.as_slice.result.now place 0) d.test (path_at p b d.test.input) (end_at p b d.test.input) =
    c.in_ok-text-in-Some.ensures ∙ (λ i. differs_line (get_or c.as_slice.result.now place 0) (t i) (d.path i) (d.end i)) in
    subst (λ u. Written p b (length c.args.tests.now.tests) c.args.tests.now.tests c.args.tests.now.lines u 8) (sym text)
    (one_written p b (length c.args.tests.now.tests) c.args.tests.now.tests c.args.tests.now.lines place (get_or c.as_slice.result.now place 0) d.test d.here n d.before d.differs)
