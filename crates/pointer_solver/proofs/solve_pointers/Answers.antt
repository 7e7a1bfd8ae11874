use Rattle.std.proofs.Common.{◌≡◌, ◌∙◌, ◌≤◌, ◌++◌, sym, ap, subst, arith, List, ℕ, length, take, drop, append-nil}
use Rattle.std.proofs.lemmas.Result.{err_from_is_err_and}
use Rattle.std.proofs.lemmas.List.{take_all}
use lib.ListN.{drop_of_length-le}
use Rattle.pointer_solver.specs.Marks.{marked_all}
use Rattle.cc_base.specs.Classes.{AreClasses}
use Rattle.sym_expr.specs.AtomsSeen.{atoms_of}
use Rattle.pointer_solver.proofs.Marked.{are_classes, first_contradiction}
use Rattle.pointer_solver.proofs.solve_pointers.Goals as goal

pub returns-in_err-forest-clause-fault : goal.returns-in_err-forest-clause-fault
returns-in_err-forest-clause-fault c = let p = err_from_is_err_and c.from_residual.result c.from_residual.ensures.1 in rw (p.1, p.2) tt

pub returns-in_err-classes-clause-fault : goal.returns-in_err-classes-clause-fault
returns-in_err-classes-clause-fault c = let p = err_from_is_err_and c.from_residual-in_err-classes.result c.from_residual-in_err-classes.ensures.1 in rw (p.1, p.2) tt

pub returns-in-Some-clause-fault : goal.returns-in-Some-clause-fault
returns-in-Some-clause-fault c =
    let s = c.state_all.ensures.solved in let f = c.in-Some.ensures.found s.0 s.1 in
    first_contradiction s.0 (atoms_of c.args.atoms.now) c.in-Some.index s.2 f.1

written : (n : ℕ) (new old : List ℕ) → n ≡ length old → length new ≡ length old → take n (new ++ drop (length new) old) ≡ new
written n new old e f =
    ap (λ (l : List ℕ). take n (new ++ l)) (drop_of_length-le old (let h : length old ≤ length new = omega arith in h)) ∙ ap (take n) (append-nil new) ∙ take_all n new (omega arith)

pub returns-clause-classes : goal.returns-clause-classes
returns-clause-classes c =
    let s = c.state_all.ensures.solved in let f = c.in_default.ensures.found s.0 s.1 in
    let l = atoms_of c.args.atoms.now in
    let v = c.in_ok-classes.classes in
    let d = c.deref_mut.ensures.value in
    let e = c.from_vec.ensures ∙ written v.len c.mark_all.new.classes v.items v.ok.0 (c.mark_all.auto.classes ∙ ap length d)
    ∙ c.mark_all.ensures.marked s.0 f.0 ∙ ap (marked_all s.0 l) (d ∙ c.in_ok-classes.ensures.items_if_clones_equal (λ y h. h)) in
    subst (λ (classes : List ℕ). AreClasses l c.args.places classes) (sym e) (are_classes c.first_contradiction.new.self.parents.items s.0 f.0 l s.2 c.args.places f.1)
