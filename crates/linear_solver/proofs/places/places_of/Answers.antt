use Rattle.std.proofs.Common.{◌≡◌, ◌∙◌, sym, ap, arith, ℕ, ◌+◌, ◌-◌, ◌<◌, ◌≤◌, List, [], drop, length, get_or, reverse}
use Rattle.cc_base.specs.declared.forms.Multiple.{Multiple}
use Rattle.cc_base.specs.Groups.{Form, put_all, named, places_in}
use Rattle.linear_solver.specs.declared.atoms.LinearAtom.{LinearAtom}
use Rattle.linear_solver.specs.Atoms.{seen_atoms}
use Rattle.linear_solver.proofs.Writing.{atoms_drop, atoms_end, seen_form_is}
use Rattle.linear_solver.proofs.places.places_of.Goals as goal

no_places : (l : List LinearAtom) (n : ℕ) (o : List ℕ) → o ≡ [] → length l ≤ n → reverse o ≡ places_in (seen_atoms (drop n l))
unfolding places_in
no_places l n o e h = ap reverse e ∙ sym (ap places_in (atoms_end l n h))

more_places : (l : List LinearAtom) (n k : ℕ) (x : LinearAtom) (o p : List ℕ) → n ≡ k + 1 → k < length l → x ≡ get_or l k x → p ≡ put_all (named x.terms.items) o → o ≡ places_in (seen_atoms (drop n l)) → p ≡ places_in (seen_atoms (drop k l))
unfolding places_in
more_places l n k x o p e h i f g =
    f ∙ ap (put_all (named x.terms.items)) (g ∙ ap (λ (j : ℕ). places_in (seen_atoms (drop j l))) e)
    ∙ sym (ap places_in (atoms_drop l k x h i) ∙ ap (λ (q : Form). put_all (named q.terms) (places_in (seen_atoms (drop (k + 1) l)))) (seen_form_is x))

pub atoms-init : goal.atoms-init
atoms-init c = record { within = omega arith; same = no_places c.args.atoms.now _ c.new-out.result.items c.new-out.ensures.items (omega arith) }

pub atoms-preserved : goal.atoms-preserved
atoms-preserved c = record {
  within = omega arith;
  same = more_places c.args.atoms.now c.atoms.left (c.atoms.left - 1) c.index-atoms-left.result (reverse c.atoms.out.items) (reverse c.add_named.new.list.items) (omega arith) (omega arith) c.index-atoms-left.is
      (c.in_ok-add_named.ensures ∙ ap (λ (m : List Multiple). put_all (named m) (reverse c.atoms.out.items)) (c.deref.ensures.value ∙ ap (λ (y : LinearAtom). y.terms.items) (sym c.index-atoms-left.is))) c.atoms.invariant.same;
}

pub returns : goal.returns
returns c = let e : c.atoms.left ≡ 0 = omega arith in c.reverse.ensures.items ∙ c.atoms.invariant.same ∙ ap (λ (j : ℕ). places_in (seen_atoms (drop j c.args.atoms.now))) e
