use Rattle.std.proofs.Common.{◌≡◌, ◌∙◌, sym, ap, subst, ℕ, ℤ, List, to_z, of_z}
use Rattle.std.proofs.lemmas.Int.{to_z-of_z}
use mir.Syntax.{w32}
use Rattle.cc_base.specs.Groups.{HoldAll}
use Rattle.cc_base.specs.Witness.{changed, origin}
use Rattle.linear_solver.specs.Atoms.{seen_atoms}
use Rattle.linear_solver.specs.Seen.{at_places}
use Rattle.linear_solver.proofs.Restoring.{at_none}
use Rattle.linear_solver.proofs.one_place.try_number.Goals as goal

pub returns-then-hold_all : goal.returns-then-hold_all
returns-then-hold_all c =
    let e : at_places c.put_value.new.values.items ≡ changed origin c.args.place c.args.number =
    c.in_ok-put_value.ensures ∙ ap (λ (v : ℕ → ℤ). changed v c.args.place (to_z w32 (of_z w32 c.args.number))) (at_none c.new-values.result.items c.new-values.ensures.items) ∙ ap (changed origin c.args.place) (to_z-of_z w32 c.args.number c.ranges.number) in
    (e, subst (λ (l : List ℤ). HoldAll (at_places l) (seen_atoms c.args.atoms.now)) c.deref.ensures.value (c.hold_all.ensures.0 c.if-hold_all.true))

pub returns : goal.returns
returns c = λ m.
    let e : at_places c.put_value.new.values.items ≡ changed origin c.args.place c.args.number =
    c.in_ok-put_value.ensures ∙ ap (λ (v : ℕ → ℤ). changed v c.args.place (to_z w32 (of_z w32 c.args.number))) (at_none c.new-values.result.items c.new-values.ensures.items) ∙ ap (changed origin c.args.place) (to_z-of_z w32 c.args.number c.ranges.number) in
    let t = c.hold_all.ensures.1 (subst (λ (l : List ℤ). HoldAll (at_places l) (seen_atoms c.args.atoms.now)) (sym c.deref.ensures.value) (subst (λ (v : ℕ → ℤ). HoldAll v (seen_atoms c.args.atoms.now)) (sym e) m)) in
    let f = c.if-hold_all.false in cc (t, f)
