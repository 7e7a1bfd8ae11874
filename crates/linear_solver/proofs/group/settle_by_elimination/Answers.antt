use Rattle.std.proofs.Common.{◌∙◌, sym, ap, ap₂, subst, arith, ℤ, ◌≤◌, List, length, to_z, of_z}
use Rattle.std.proofs.lemmas.Int.{to_z-of_z}
use mir.Syntax.{w32}
use Rattle.cc_base.specs.Groups.{places_in}
use Rattle.cc_base.specs.Inequality.{Inequality, MeetsAll}
use Rattle.cc_base.specs.Need.{first_list, disequalities, elimination}
use Rattle.linear_solver.specs.declared.choice.Tried.{Tried}
use Rattle.linear_solver.specs.Atoms.{seen_atoms}
use Rattle.linear_solver.specs.Counts.{seen_tried, tried_count, FoundMeets}
use Rattle.linear_solver.specs.Seen.{at_places}
use Rattle.linear_solver.proofs.Choosing.{found_within, closed_within}
use Rattle.linear_solver.proofs.Eliminated.{first_means}
use Rattle.linear_solver.proofs.Settling.{beyond_several, open_several, found_several, refuted_several}
use Rattle.linear_solver.proofs.group.settle_by_elimination.Goals as goal

pub returns-in-Beyond : goal.returns-in-Beyond
returns-in-Beyond c =
    let A = seen_atoms c.args.atoms.now in
    let s : 2 ≤ length (places_in A) = (let e = ap length c.requires.places in let h = c.requires.several in omega (arith, e, h)) in
    let n = sym (ap seen_tried c.in-Beyond.is) ∙ c.in_ok-elimination_of.ensures.count ∙ ap₂ (λ (a b : ℤ). tried_count 0 c.args.budget (elimination a b A)) (to_z-of_z w32 c.args.lo c.ranges.lo) (to_z-of_z w32 c.args.hi c.ranges.hi) in
    beyond_several c.args.lo c.args.hi c.args.budget A s c.requires.beyond n

pub returns-in-Found : goal.returns-in-Found
returns-in-Found c =
    let A = seen_atoms c.args.atoms.now in
    let s : 2 ≤ length (places_in A) = (let e = ap length c.requires.places in let h = c.requires.several in omega (arith, e, h)) in
    let n = sym (ap seen_tried c.in-Found.is) ∙ c.in_ok-elimination_of.ensures.count ∙ ap₂ (λ (a b : ℤ). tried_count 0 c.args.budget (elimination a b A)) (to_z-of_z w32 c.args.lo c.ranges.lo) (to_z-of_z w32 c.args.hi c.ranges.hi) in
    let m = subst (λ (r : Tried). FoundMeets r (first_list (to_z w32 (of_z w32 c.args.lo)) (to_z w32 (of_z w32 c.args.hi)) A) (disequalities A)) c.in-Found.is c.in_ok-elimination_of.ensures.values in
    let w = at_places c.in-Found.values.items in
    let r = first_means c.args.lo c.args.hi A w (subst (λ (l : List Inequality). MeetsAll w l) (ap₂ (λ (a b : ℤ). first_list a b A) (to_z-of_z w32 c.args.lo c.ranges.lo) (to_z-of_z w32 c.args.hi c.ranges.hi)) m.0) m.1 in
    (found_several c.args.lo c.args.hi c.args.budget _ A s n (found_within 0 c.args.budget _ (elimination c.args.lo c.args.hi A) n), r.0, r.1)

pub returns-in-Closed : goal.returns-in-Closed
returns-in-Closed c =
    let A = seen_atoms c.args.atoms.now in
    let s : 2 ≤ length (places_in A) = (let e = ap length c.requires.places in let h = c.requires.several in omega (arith, e, h)) in
    let n = sym (ap seen_tried c.in-Closed.is) ∙ c.in_ok-elimination_of.ensures.count ∙ ap₂ (λ (a b : ℤ). tried_count 0 c.args.budget (elimination a b A)) (to_z-of_z w32 c.args.lo c.ranges.lo) (to_z-of_z w32 c.args.hi c.ranges.hi) in
    refuted_several c.args.lo c.args.hi c.args.budget _ A s n (closed_within 0 c.args.budget _ (elimination c.args.lo c.args.hi A) n)

pub returns-in-Undecided : goal.returns-in-Undecided
returns-in-Undecided c =
    let A = seen_atoms c.args.atoms.now in
    let s : 2 ≤ length (places_in A) = (let e = ap length c.requires.places in let h = c.requires.several in omega (arith, e, h)) in
    let n = sym (ap seen_tried c.in-Undecided.is) ∙ c.in_ok-elimination_of.ensures.count ∙ ap₂ (λ (a b : ℤ). tried_count 0 c.args.budget (elimination a b A)) (to_z-of_z w32 c.args.lo c.ranges.lo) (to_z-of_z w32 c.args.hi c.ranges.hi) in
    open_several c.args.lo c.args.hi c.args.budget _ A s c.requires.beyond n
