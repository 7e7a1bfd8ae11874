use Rattle.std.proofs.Common.{◌≡◌, ◌≤◌, inl, inr, length, refl, ◌∙◌, arith, rules}
use Rattle.search_walks.specs.Passing.{current_of}
use Rattle.search_walks.specs.Task.{setting_of}
use Rattle.search_base.proofs.OnLaws.{on_err}
use Rattle.search_walks.proofs.PassLaws.{pass_over, pass_cut}
use Rattle.search_walks.proofs.DrawLaws.{path_short}
use Rattle.search_walks.proofs.passing.pass.Goals as goal

pub events-init : goal.events-init
events-init g c =
    record {
      stands = record { run = c.requires.base; within = omega arith };
      within = c.requires.within;
      size = refl;
      came = λ start before passes a. a;
      falls = omega arith;
    }

pub step-requires-clause-there : goal.step-requires-clause-there
step-requires-clause-there g c =
    let w = c.events.invariant.stands.within in
    let n : c.events.standing.event ≡ length (current_of c.events.standing (c.args.base).now).path → ⊥ = search rules in
    omega (arith, w, n)

pub step-requires-clause-short : goal.step-requires-clause-short
step-requires-clause-short g c =
    path_short (setting_of (c.args.task).now) (current_of c.events.standing (c.args.base).now) c.events.invariant.stands.run

pub step-requires-clause-size : goal.step-requires-clause-size
step-requires-clause-size g c =
    c.events.invariant.size ∙ c.requires.size

pub events-preserved : goal.events-preserved
events-preserved g c =
    let f = c.events.invariant.falls in
    let h = c.in_ok-step.ensures.never_falls in
    record {
      stands = c.in_ok-step.ensures.stands;
      within = c.in_ok-step.ensures.within;
      size = c.in_ok-step.ensures.size ∙ c.events.invariant.size;
      came = λ start before passes a. c.in_ok-step.ensures.came start before passes (c.events.invariant.came start before passes a);
      falls = omega (arith, f, h);
    }

pub events-smaller : goal.events-smaller
events-smaller g c =
    c.in_ok-step.ensures.falls

pub returns-in_err-step-clause-err : goal.returns-in_err-step-clause-err
returns-in_err-step-clause-err g c =
    on_err _ (pass_cut (setting_of (c.args.task).now) ((c.args.task).now).limit _ _ _ _ _ _ _ _ _ _ _ c.events.invariant.came c.in_err-step.ensures.err)

pub returns-then-is_over-clause-passed : goal.returns-then-is_over-clause-passed
returns-then-is_over-clause-passed g c =
    let s = setting_of (c.args.task).now in
    let limit = ((c.args.task).now).limit in
    let e : c.events.standing.event ≡ length (current_of c.events.standing (c.args.base).now).path = search rules in
    λ start before passes a. pass_over s limit start before passes (current_of c.events.standing (c.args.base).now) c.events.standing.event _ _ _ c.events.invariant.stands (c.events.invariant.came start before passes a) (inr e)

pub returns-clause-passed : goal.returns-clause-passed
returns-clause-passed g c =
    let s = setting_of (c.args.task).now in
    let limit = ((c.args.task).now).limit in
    let h : limit ≤ c.events.log.made = search rules in
    λ start before passes a. pass_over s limit start before passes (current_of c.events.standing (c.args.base).now) c.events.standing.event _ _ _ c.events.invariant.stands (c.events.invariant.came start before passes a) (inl h)
