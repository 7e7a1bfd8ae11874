use Rattle.std.proofs.Common.{◌∙◌, sym, ap, subst, List}
use Rattle.cc_base.specs.Inequality as plain
use Rattle.cc_base.specs.Pass.{pass}
use Rattle.cc_base.specs.declared.passes.Mode.TheVariants.{Real}
use Rattle.cc_base.specs.declared.passes.PassEnd.{PassEnd}
use Rattle.cc_base.specs.declared.passes.PassEnd.TheVariants.{Open, Full}
use Rattle.linear_solver.specs.Ordered.{SafeAll}
use Rattle.linear_solver.specs.Seen.{seen_all, seen_counted, counted, done}
use Rattle.linear_solver.proofs.Choosing.{one_over, one_empty, one_more, done_within}
use Rattle.linear_solver.proofs.choice.one_choice_of.Goals as goal

pub pass_of-requires-clause-safe : goal.pass_of-requires-clause-safe
pass_of-requires-clause-safe c = subst (λ (l : List plain.Inequality). SafeAll l) (sym c.in_ok-copy_all.ensures) c.requires.safe

pub returns-in-Over-clause-count : goal.returns-in-Over-clause-count
returns-in-Over-clause-count c =
    let copy = ap (λ (l : List plain.Inequality). counted c.args.used c.args.budget (pass Real c.args.n l)) c.in_ok-copy_all.ensures in
    one_over c.args.used c.args.budget c.args.n (seen_all c.args.list.now) (sym (ap seen_counted c.in-Over.is) ∙ c.in_ok-pass_of.ensures.count ∙ copy)

pub returns-in-Empty-clause-count : goal.returns-in-Empty-clause-count
returns-in-Empty-clause-count c =
    let copy = ap (λ (l : List plain.Inequality). counted c.args.used c.args.budget (pass Real c.args.n l)) c.in_ok-copy_all.ensures in
    one_empty c.args.used c.args.budget c.in-Done.spent c.args.n (seen_all c.args.list.now)
    (sym (ap (λ (e : PassEnd). done e c.in-Done.spent) c.in-Empty.is) ∙ sym (ap seen_counted c.in-Done.is) ∙ c.in_ok-pass_of.ensures.count ∙ copy)

pub returns-in_ok-dark-in-Full-clause-count : goal.returns-in_ok-dark-in-Full-clause-count
returns-in_ok-dark-in-Full-clause-count c =
    let copy = ap (λ (l : List plain.Inequality). counted c.args.used c.args.budget (pass Real c.args.n l)) c.in_ok-copy_all.ensures in
    one_more c.args.used c.args.budget c.in-Done.spent c.args.n (seen_all c.args.list.now) Full _
    (sym (ap (λ (e : PassEnd). done e c.in-Done.spent) c.in-Full.is) ∙ sym (ap seen_counted c.in-Done.is) ∙ c.in_ok-pass_of.ensures.count ∙ copy) (λ x. cc x) c.in_ok-dark-in-Full.ensures.count

pub returns-in_ok-dark-in-Open-clause-count : goal.returns-in_ok-dark-in-Open-clause-count
returns-in_ok-dark-in-Open-clause-count c =
    let copy = ap (λ (l : List plain.Inequality). counted c.args.used c.args.budget (pass Real c.args.n l)) c.in_ok-copy_all.ensures in
    one_more c.args.used c.args.budget c.in-Done.spent c.args.n (seen_all c.args.list.now) Open _
    (sym (ap (λ (e : PassEnd). done e c.in-Done.spent) c.in-Open.is) ∙ sym (ap seen_counted c.in-Done.is) ∙ c.in_ok-pass_of.ensures.count ∙ copy) (λ x. cc x) c.in_ok-dark-in-Open.ensures.count

pub dark_choice-requires-clause-within : goal.dark_choice-requires-clause-within
dark_choice-requires-clause-within c =
    let copy = ap (λ (l : List plain.Inequality). counted c.args.used c.args.budget (pass Real c.args.n l)) c.in_ok-copy_all.ensures in
    done_within c.args.used c.args.budget c.in-Done.spent Full (pass Real c.args.n (seen_all c.args.list.now))
    (sym (ap (λ (e : PassEnd). done e c.in-Done.spent) c.in-Full.is) ∙ sym (ap seen_counted c.in-Done.is) ∙ c.in_ok-pass_of.ensures.count ∙ copy)

pub dark_choice-requires-in-Open-clause-within : goal.dark_choice-requires-in-Open-clause-within
dark_choice-requires-in-Open-clause-within c =
    let copy = ap (λ (l : List plain.Inequality). counted c.args.used c.args.budget (pass Real c.args.n l)) c.in_ok-copy_all.ensures in
    done_within c.args.used c.args.budget c.in-Done.spent Open (pass Real c.args.n (seen_all c.args.list.now))
    (sym (ap (λ (e : PassEnd). done e c.in-Done.spent) c.in-Open.is) ∙ sym (ap seen_counted c.in-Done.is) ∙ c.in_ok-pass_of.ensures.count ∙ copy)
