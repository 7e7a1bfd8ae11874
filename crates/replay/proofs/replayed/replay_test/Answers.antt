use Rattle.std.proofs.Common.{◌≡◌, ◌∙◌, sym, subst, All}
use Rattle.cc_base.specs.Outcomes.{HasByte}
use Rattle.cc_model.specs.CheckedProgram.{core_of}
use Rattle.cc_model.specs.Runs.{path_at, end_at}
use Rattle.replay.proofs.replayed.replay_test.Goals as goal
use Rattle.replay.proofs.replayed.replay_test.Goals.{then-is_same_path, else-is_same_path}

pub returns-then-is_real-clause-told : goal.returns-then-is_real-clause-told
returns-then-is_real-clause-told c =
    let p : c.in_ok-path.path ≡ path_at (core_of c.args.checked.now) c.args.bounds.now (c.args.test.now).input = c.in_ok-path.ensures.path c.args.checked.now c.args.bounds.now (c.args.test.now).input c.in_ok-trace.ensures.trace in
    let e : c.in_ok-trace.trace.end ≡ end_at (core_of c.args.checked.now) c.args.bounds.now (c.args.test.now).input = c.in_ok-trace.ensures.end_of_run in
    elim c.if-is_same_path.branch [
      | then-is_same_path w ↦ record {
        within = c.requires.input;
        path = sym c.as_slice-2.ensures ∙ sym (c.is_same_path.ensures.same w.if-is_same_path.true) ∙ c.as_slice.ensures ∙ p;
        end = sym (w.is_same_end-is_real.ensures.same (sym w.is_real-is ∙ c.if-is_real.true)) ∙ e;
      }
      | else-is_same_path w ↦ absurd (cc (w.if-is_same_path.false, w.is_real-is, c.if-is_real.true))
    ]

pub returns-clause-told : goal.returns-clause-told
returns-clause-told c =
    let p : c.in_ok-path.path ≡ path_at (core_of c.args.checked.now) c.args.bounds.now (c.args.test.now).input = c.in_ok-path.ensures.path c.args.checked.now c.args.bounds.now (c.args.test.now).input c.in_ok-trace.ensures.trace in
    let e : c.in_ok-trace.trace.end ≡ end_at (core_of c.args.checked.now) c.args.bounds.now (c.args.test.now).input = c.in_ok-trace.ensures.end_of_run in (
      (λ r. elim c.if-is_same_path.branch [
        | then-is_same_path w ↦ w.is_same_end-is_real.ensures.other (sym w.is_real-is ∙ c.if-is_real.false) (e ∙ sym r.end)
        | else-is_same_path w ↦ c.is_same_path.ensures.other w.if-is_same_path.false (c.as_slice.ensures ∙ p ∙ sym r.path ∙ sym c.as_slice-2.ensures)
      ]),
      p,
      e,
    )

pub returns-clause-bytes : goal.returns-clause-bytes
returns-clause-bytes c = subst (All HasByte) (sym c.in_ok-path.ensures.outcomes) c.in_ok-trace.ensures.bytes
