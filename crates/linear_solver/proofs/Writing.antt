-- Atoms as inequalities.
use Rattle.std.proofs.Common.{◌≡◌, ◌∙◌, sym, ap, ap₂, subst, refl, arith, ℕ, zero, suc, ◌+◌, ◌*◌, ◌^◌, ◌<◌, ◌≤◌, List, [], ◌∷◌, ◌++◌, length, map, drop, get_or, All, ℤ, negsuc, ◌-ℤ◌, unsigned_abs, SFits, FitsSigned, to_z, of_z}
use Rattle.std.proofs.lemmas.Int.{ints, to_z-of_z}
use Rattle.std.proofs.lemmas.List.{drop_more, drop_all}
use Rattle.std.proofs.lemmas.List.Elements.{All-weaker}
use mir.Syntax.{w128}
use Rattle.cc_base.specs.Inequality.{Inequality, scaled}
use Rattle.cc_base.specs.declared.forms.Multiple.{Multiple}
use Rattle.cc_base.specs.Groups.{Form, form_of}
use Rattle.cc_base.specs.Need.{at_most, at_least, disequality, disequalities}
use Rattle.linear_solver.specs.declared.atoms.LinearAtom.{LinearAtom}
use Rattle.linear_solver.specs.declared.atoms.Sign.{Sign}
use Rattle.linear_solver.specs.declared.atoms.Sign.TheVariants.{AtMostZero, Zero, NotZero}
use Rattle.linear_solver.specs.Atoms.{atom_of, seen_form, seen_atom, seen_atoms, FitForm, FitAll}
use Rattle.linear_solver.specs.Ordered.{Safe}
use Rattle.linear_solver.proofs.Pairing.{ordered_scaled, small_scaled}

pub differs : (n k : ℤ) → SFits w128 n → SFits w128 k → unsigned_abs n ≤ 1 → unsigned_abs k ≤ 2 ^ 72 + 2 ^ 33 → to_z w128 (of_z w128 (to_z w128 (of_z w128 n) -ℤ to_z w128 (of_z w128 k))) ≡ n -ℤ k
differs n k f g h i = ap (λ (z : ℤ). to_z w128 (of_z w128 z)) (ap₂ (λ (x y : ℤ). x -ℤ y) (to_z-of_z w128 n f) (to_z-of_z w128 k g)) ∙ to_z-of_z w128 (n -ℤ k) (let s : FitsSigned w128 (n -ℤ k) = omega (arith, ints, h, i) in s)

pub fits_difference : (n k : ℤ) → SFits w128 n → SFits w128 k → unsigned_abs n ≤ 1 → unsigned_abs k ≤ 2 ^ 72 + 2 ^ 33 → SFits w128 (to_z w128 (of_z w128 n) -ℤ to_z w128 (of_z w128 k))
fits_difference n k f g h i = subst (λ (z : ℤ). SFits w128 z) (sym (ap₂ (λ (x y : ℤ). x -ℤ y) (to_z-of_z w128 n f) (to_z-of_z w128 k g))) (let s : FitsSigned w128 (n -ℤ k) = omega (arith, ints, h, i) in s)

pub differs_back : (n k : ℤ) → SFits w128 n → SFits w128 k → unsigned_abs n ≤ 1 → unsigned_abs k ≤ 2 ^ 72 + 2 ^ 33 → to_z w128 (of_z w128 (to_z w128 (of_z w128 k) -ℤ to_z w128 (of_z w128 n))) ≡ k -ℤ n
differs_back n k f g h i = ap (λ (z : ℤ). to_z w128 (of_z w128 z)) (ap₂ (λ (x y : ℤ). x -ℤ y) (to_z-of_z w128 k g) (to_z-of_z w128 n f)) ∙ to_z-of_z w128 (k -ℤ n) (let s : FitsSigned w128 (k -ℤ n) = omega (arith, ints, h, i) in s)

pub fits_back : (n k : ℤ) → SFits w128 n → SFits w128 k → unsigned_abs n ≤ 1 → unsigned_abs k ≤ 2 ^ 72 + 2 ^ 33 → SFits w128 (to_z w128 (of_z w128 k) -ℤ to_z w128 (of_z w128 n))
fits_back n k f g h i = subst (λ (z : ℤ). SFits w128 z) (sym (ap₂ (λ (x y : ℤ). x -ℤ y) (to_z-of_z w128 k g) (to_z-of_z w128 n f))) (let s : FitsSigned w128 (k -ℤ n) = omega (arith, ints, h, i) in s)

pub at_most_is : (g : Form) (n m : ℤ) (ts : List Multiple) → ts ≡ g.terms → m ≡ n -ℤ g.constant → (let r : Inequality = record { terms = ts; most = m } in r) ≡ at_most g n
unfolding at_most
at_most_is g n m ts e f = ap₂ (λ (t : List Multiple) (z : ℤ). let r : Inequality = record { terms = t; most = z } in r) e f

pub at_least_is : (g : Form) (n m : ℤ) (ts : List Multiple) → ts ≡ scaled (negsuc 0) g.terms → m ≡ g.constant -ℤ n → (let r : Inequality = record { terms = ts; most = m } in r) ≡ at_least g n
unfolding at_least
at_least_is g n m ts e f = ap₂ (λ (t : List Multiple) (z : ℤ). let r : Inequality = record { terms = t; most = z } in r) e f

pub wider : (l : List Multiple) → All (λ t. unsigned_abs t.coefficient ≤ 2 ^ 40) l → All (λ t. unsigned_abs t.coefficient ≤ 2 ^ 44) l
wider l a = All-weaker (λ t. unsigned_abs t.coefficient ≤ 2 ^ 40) (λ t. unsigned_abs t.coefficient ≤ 2 ^ 44) (λ t h. omega (arith, h)) l a

pub safe_at_most : (g : Form) (n : ℤ) → FitForm g → Safe (at_most g n)
unfolding at_most
safe_at_most g n f = record { ordered = f.ordered; terms = All-weaker (λ t. unsigned_abs t.coefficient ≤ 2 ^ 40) (λ t. unsigned_abs t.coefficient < 2 ^ 127) (λ t h. omega (arith, h)) g.terms f.terms }

pub safe_at_least : (g : Form) (n : ℤ) → FitForm g → Safe (at_least g n)
unfolding at_least
safe_at_least g n f = record {
  ordered = ordered_scaled 0 (negsuc 0) g.terms f.ordered;
  terms = let s = small_scaled (2 ^ 40) 1 (negsuc 0) g.terms (let h : unsigned_abs (negsuc 0) ≤ 1 = omega (arith, ints) in h) f.terms in
      All-weaker (λ t. unsigned_abs t.coefficient ≤ 1 * 2 ^ 40) (λ t. unsigned_abs t.coefficient < 2 ^ 127) (λ t h. omega (arith, h)) (scaled (negsuc 0) g.terms) s;
}

-- ---- atoms at an index

pub atoms_drop : (l : List LinearAtom) (k : ℕ) (x : LinearAtom) → k < length l → x ≡ get_or l k x → seen_atoms (drop k l) ≡ seen_atom x ∷ seen_atoms (drop (k + 1) l)
unfolding seen_atoms
atoms_drop l k x h e = ap (map seen_atom) (drop_more l k x h ∙ ap (λ (y : LinearAtom). y ∷ drop (k + 1) l) (sym e))

pub atoms_end : (l : List LinearAtom) (k : ℕ) → length l ≤ k → seen_atoms (drop k l) ≡ []
unfolding seen_atoms
atoms_end l k h = ap (map seen_atom) (drop_all k l h)

form_is : (s : Sign) (g : Form) → form_of (atom_of s g) ≡ g
unfolding form_of
form_is AtMostZero g = refl
form_is Zero g = refl
form_is NotZero g = refl

pub seen_form_is : (x : LinearAtom) → form_of (seen_atom x) ≡ seen_form x
seen_form_is x = form_is x.sign (seen_form x)

pub fit_at : (l : List LinearAtom) (k : ℕ) (x : LinearAtom) → FitAll (seen_atoms l) → k < length l → x ≡ get_or l k x → FitForm (seen_form x)
unfolding seen_atoms
fit_at [] k x f h e = absurd (omega arith)
fit_at (a ∷ l) zero x f h e = subst (λ (y : LinearAtom). FitForm (seen_form y)) (sym e) (subst FitForm (seen_form_is a) f.0)
fit_at (a ∷ l) (suc k) x f h e = fit_at l k x f.1 (omega arith) e

none_here : (s : Sign) (g : Form) → (s ≡ NotZero → ⊥) → disequality (atom_of s g) ≡ []
unfolding disequality
none_here AtMostZero g n = refl
none_here Zero g n = refl
none_here NotZero g n = absurd (n refl)

one_here : (s : Sign) (g : Form) → s ≡ NotZero → disequality (atom_of s g) ≡ g ∷ []
unfolding disequality
one_here AtMostZero g n = absurd (cc n)
one_here Zero g n = absurd (cc n)
one_here NotZero g n = refl

pub no_disequality : (l : List LinearAtom) (k : ℕ) (x : LinearAtom) → k < length l → x ≡ get_or l k x → (x.sign ≡ NotZero → ⊥) → disequalities (seen_atoms (drop (k + 1) l)) ≡ disequalities (seen_atoms (drop k l))
unfolding disequalities
no_disequality l k x h e n = sym (ap disequalities (atoms_drop l k x h e) ∙ ap (λ (m : List Form). m ++ disequalities (seen_atoms (drop (k + 1) l))) (none_here x.sign (seen_form x) n))

pub one_disequality : (l : List LinearAtom) (k : ℕ) (x : LinearAtom) → k < length l → x ≡ get_or l k x → x.sign ≡ NotZero → seen_form x ∷ disequalities (seen_atoms (drop (k + 1) l)) ≡ disequalities (seen_atoms (drop k l))
unfolding disequalities
one_disequality l k x h e n = sym (ap disequalities (atoms_drop l k x h e) ∙ ap (λ (m : List Form). m ++ disequalities (seen_atoms (drop (k + 1) l))) (one_here x.sign (seen_form x) n))

pub last_disequality : (l : List LinearAtom) (k : ℕ) → length l ≤ k → [] ≡ disequalities (seen_atoms (drop k l))
unfolding disequalities
last_disequality l k h = sym (ap disequalities (atoms_end l k h))
