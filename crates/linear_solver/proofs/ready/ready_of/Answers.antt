use Rattle.std.proofs.Common.{◌≡◌, ◌∙◌, sym, ap, subst, List}
use Rattle.cc_base.specs.Inequality as plain
use Rattle.cc_base.specs.Pass.{go_on, ready, some_wide, some_false, with_terms}
use Rattle.linear_solver.specs.declared.inequalities.Inequality.{Inequality}
use Rattle.linear_solver.specs.Ordered.{NarrowAll}
use Rattle.linear_solver.specs.Seen.{seen_all}
use Rattle.linear_solver.proofs.Pairing.{judged_wide, judged_false, judged_on, narrow_left}
use Rattle.linear_solver.proofs.ready.ready_of.Goals as goal

pub returns-then-has_wide : goal.returns-then-has_wide
returns-then-has_wide c =
    judged_wide (seen_all c.args.list.items) (sym (c.has_wide.ensures ∙ ap (λ (l : List Inequality). some_wide (seen_all l)) c.deref.ensures.value ∙ ap some_wide c.in_ok-normal.ensures) ∙ c.if-has_wide.true)

pub returns-then-has_false : goal.returns-then-has_false
returns-then-has_false c =
    judged_false (seen_all c.args.list.items)
    (sym (c.has_wide.ensures ∙ ap (λ (l : List Inequality). some_wide (seen_all l)) c.deref.ensures.value ∙ ap some_wide c.in_ok-normal.ensures) ∙ c.if-has_wide.false)
    (sym (c.has_false.ensures ∙ ap (λ (l : List Inequality). some_false (seen_all l)) c.deref-2.ensures.value ∙ ap some_false c.in_ok-normal.ensures) ∙ c.if-has_false.true)

pub go_on_with-requires : goal.go_on_with-requires
go_on_with-requires c =
    subst (λ (m : List plain.Inequality). NarrowAll m) (sym (c.in_ok-left.ensures ∙ ap with_terms c.in_ok-normal.ensures))
    (narrow_left (seen_all c.args.list.items) c.requires (sym (c.has_wide.ensures ∙ ap (λ (l : List Inequality). some_wide (seen_all l)) c.deref.ensures.value ∙ ap some_wide c.in_ok-normal.ensures) ∙ c.if-has_wide.false))

pub returns : goal.returns
returns c =
    let e : go_on (seen_all c.in_ok-left.left.items) ≡ ready (seen_all c.args.list.items) = ap go_on (c.in_ok-left.ensures ∙ ap with_terms c.in_ok-normal.ensures) ∙ judged_on (seen_all c.args.list.items)
    (sym (c.has_wide.ensures ∙ ap (λ (l : List Inequality). some_wide (seen_all l)) c.deref.ensures.value ∙ ap some_wide c.in_ok-normal.ensures) ∙ c.if-has_wide.false)
    (sym (c.has_false.ensures ∙ ap (λ (l : List Inequality). some_false (seen_all l)) c.deref-2.ensures.value ∙ ap some_false c.in_ok-normal.ensures) ∙ c.if-has_false.false) in
    c.in_ok-ready.ensures ∙ e
