use Rattle.std.proofs.Common.{◌≡◌, ◌∙◌, sym, ap, arith, ℕ, suc, ◌+◌}
use Rattle.pointer_solver.proofs.Marked.{class_null, class_other}
use Rattle.pointer_solver.proofs.forest.Forest.class_of.Goals as goal

next : (p : ℕ) → p + 1 ≡ suc p
next p = omega arith

pub returns-then-own-null-clause-class : goal.returns-then-own-null-clause-class
returns-then-own-null-clause-class c = λ root t.
    let s = c.find-null.ensures.rooted root t in let u = c.find-own.ensures.rooted root s.0 in
    (u.0, sym (class_null root c.args.place (sym (u.1 ∙ ap root (next c.args.place)) ∙ c.if-own-null.true ∙ s.1)))

pub returns-else-own-null-clause-class : goal.returns-else-own-null-clause-class
returns-else-own-null-clause-class c = λ root t.
    let s = c.find-null.ensures.rooted root t in let u = c.find-own.ensures.rooted root s.0 in
    let own = u.1 ∙ ap root (next c.args.place) in
    (u.0, own ∙ sym (class_other root c.args.place (λ e. c.if-own-null.false (own ∙ e ∙ sym s.1))))
