use Rattle.std.proofs.Common.{◌∙◌, sym, ap, List, ◌++◌, append-nil}
use Rattle.cc_base.specs.Forms.{Atom}
use Rattle.sym_expr.specs.AtomsSeen.{atoms_of}
use Rattle.slice_solve.specs.Joins.{joined}
use Rattle.slice_solve.proofs.Steps.{joined_first, joined_none, no_first}
use Rattle.slice_solve.proofs.joins.join.Goals as goal

pub returns-in_ok-join_to-clause-joined : goal.returns-in_ok-join_to-clause-joined
returns-in_ok-join_to-clause-joined c =
    let t = c.terms_of-terms.result.now in
    c.in_ok-join_to.ensures.joined ∙ ap (λ (l : List Atom). atoms_of c.args.joins.now.items ++ l) (sym (joined_first t c.in-Some.first.now (sym c.in-Some.ensures.value)) ∙ ap joined c.terms_of-terms.ensures.terms)

pub returns-in_default-clause-joined : goal.returns-in_default-clause-joined
returns-in_default-clause-joined c =
    let t = c.terms_of-terms.result.now in
    sym (append-nil (atoms_of c.args.joins.now.items))
    ∙ ap (λ (l : List Atom). atoms_of c.args.joins.now.items ++ l) (sym (joined_none t (no_first c.first.result t (λ x e. c.in_default.not-Some x e) c.first.ensures.value)) ∙ ap joined c.terms_of-terms.ensures.terms)
