-- The first list of elimination, written in loops.
use Rattle.std.proofs.Common.{◌≡◌, ◌∙◌, sym, ap, ap₂, subst, arith, ℕ, zero, suc, ◌+◌, ◌^◌, ◌<◌, ◌≤◌, Bool, inl, inr, List, [], ◌∷◌, ◌++◌, length, drop, get_or, append_assoc, append-nil, ℤ, pos, negsuc, neg_ℤ, ◌-ℤ◌, unsigned_abs, if◌then◌else◌, SFits, FitsSigned, to_z, of_z}
use mir.Syntax.{w128, w32}
use Rattle.std.proofs.lemmas.Int.{ints, to_z-of_z}
use Rattle.std.proofs.lemmas.List.{drop_more, drop_all, length-map}
use Rattle.cc_base.specs.Inequality as plain
use Rattle.cc_base.specs.declared.forms.Multiple.{Multiple}
use Rattle.cc_base.specs.Groups.{Form, Atom, at_most_zero, is_zero, not_zero, same, differ, form_of, contains, put, put_all, named, places_in}
use Rattle.cc_base.specs.Need.{at_most, at_least, bounds, written, all_written, first_list}
use Rattle.linear_solver.specs.declared.atoms.LinearAtom.{LinearAtom}
use Rattle.linear_solver.specs.declared.atoms.Sign.{Sign}
use Rattle.linear_solver.specs.declared.atoms.Sign.TheVariants.{AtMostZero, Zero, NotZero}
use Rattle.linear_solver.specs.declared.inequalities.Inequality.{Inequality}
use Rattle.linear_solver.specs.Atoms.{atom_of, seen_atom, seen_atoms, FitForm, FitAll}
use Rattle.linear_solver.specs.Ordered.{Ordered, Safe, SafeAll}
use Rattle.linear_solver.specs.Seen.{seen, seen_all, single}
use Rattle.linear_solver.proofs.Integers.{bool_cases}
use Rattle.linear_solver.proofs.Loops.{seen_push}
use Rattle.linear_solver.proofs.Pairing.{safe_append}
use Rattle.linear_solver.proofs.Writing.{atoms_drop, atoms_end, safe_at_most, safe_at_least}

pub wrote_none : (s : Sign) (g : Form) (o : List plain.Inequality) → s ≡ NotZero → o ≡ o ++ written (atom_of s g)
unfolding written
wrote_none AtMostZero g o e = absurd (cc e)
wrote_none Zero g o e = absurd (cc e)
wrote_none NotZero g o e = sym (append-nil o)

pub wrote_one : (s : Sign) (g : Form) (o u : List Inequality) (i : Inequality) → s ≡ AtMostZero → u ≡ o ++ (i ∷ []) → seen i ≡ at_most g (pos 0) → seen_all u ≡ seen_all o ++ written (atom_of s g)
unfolding written
wrote_one AtMostZero g o u i e f h = ap seen_all f ∙ seen_push o i ∙ ap (λ (j : plain.Inequality). seen_all o ++ (j ∷ [])) h
wrote_one Zero g o u i e f h = absurd (cc e)
wrote_one NotZero g o u i e f h = absurd (cc e)

two : (o u v : List Inequality) (i j : Inequality) (a b : plain.Inequality) → u ≡ o ++ (i ∷ []) → v ≡ u ++ (j ∷ []) → seen i ≡ a → seen j ≡ b → seen_all v ≡ seen_all o ++ (a ∷ (b ∷ []))
two o u v i j a b e f g h =
    ap seen_all f ∙ seen_push u j ∙ ap (λ (l : List Inequality). seen_all l ++ (seen j ∷ [])) e ∙ ap (λ (l : List plain.Inequality). l ++ (seen j ∷ [])) (seen_push o i)
    ∙ append_assoc (seen_all o) (seen i ∷ []) (seen j ∷ []) ∙ ap₂ (λ (x y : plain.Inequality). seen_all o ++ (x ∷ (y ∷ []))) g h

pub wrote_two : (s : Sign) (g : Form) (o u v : List Inequality) (i j : Inequality) → s ≡ Zero → u ≡ o ++ (i ∷ []) → v ≡ u ++ (j ∷ []) → seen i ≡ at_most g (pos 0) → seen j ≡ at_least g (pos 0) → seen_all v ≡ seen_all o ++ written (atom_of s g)
unfolding written
wrote_two AtMostZero g o u v i j e f h m n = absurd (cc e)
wrote_two Zero g o u v i j e f h m n = two o u v i j (at_most g (pos 0)) (at_least g (pos 0)) f h m n
wrote_two NotZero g o u v i j e f h m n = absurd (cc e)

pub wrote_bounds : (lo hi : ℤ) (x : ℕ) (o u v : List Inequality) (i j : Inequality) → u ≡ o ++ (i ∷ []) → v ≡ u ++ (j ∷ []) → seen i ≡ single x (pos 1) hi → seen j ≡ single x (negsuc 0) (neg_ℤ lo) → seen_all v ≡ seen_all o ++ bounds lo hi (x ∷ [])
unfolding bounds single
wrote_bounds lo hi x o u v i j e f g h = two o u v i j _ _ e f g h

pub wide_number : (z : ℤ) → SFits w32 z → to_z w128 (of_z w128 (to_z w32 (of_z w32 z))) ≡ z
wide_number z f = ap (λ (y : ℤ). to_z w128 (of_z w128 y)) (to_z-of_z w32 z f) ∙ to_z-of_z w128 z (let s = f.sfits in let g : FitsSigned w128 z = omega (arith, ints, s) in g)

pub wide_negative : (z : ℤ) → SFits w32 z → to_z w128 (of_z w128 (pos 0 -ℤ to_z w128 (of_z w128 (to_z w32 (of_z w32 z))))) ≡ neg_ℤ z
wide_negative z f = ap (λ (y : ℤ). to_z w128 (of_z w128 (pos 0 -ℤ y))) (wide_number z f) ∙ to_z-of_z w128 (pos 0 -ℤ z) (let s = f.sfits in let g : FitsSigned w128 (pos 0 -ℤ z) = omega (arith, ints, s) in g) ∙ (omega (arith, ints))

pub single_is : (x : ℕ) (k m k' m' : ℤ) (ts o : List Multiple) → ts ≡ o ++ ((let t : Multiple = record { place = x; coefficient = k' } in t) ∷ []) → o ≡ [] → k' ≡ k → m' ≡ m → (let r : plain.Inequality = record { terms = ts; most = m' } in r) ≡ single x k m
unfolding single
single_is x k m k' m' ts o e f g h =
    ap₂ (λ (t : List Multiple) (z : ℤ). let r : plain.Inequality = record { terms = t; most = z } in r)
    (e ∙ ap₂ (λ (p : List Multiple) (z : ℤ). p ++ ((let t : Multiple = record { place = x; coefficient = z } in t) ∷ [])) f g) h

-- ---- the loops

pub atoms_wrote : (o u : List Inequality) (l : List LinearAtom) (k : ℕ) (a : LinearAtom) (w : List plain.Inequality) → k < length l → a ≡ get_or l k a → seen_all u ≡ seen_all o ++ written (seen_atom a) →
    seen_all o ++ all_written (seen_atoms (drop k l)) ≡ w → seen_all u ++ all_written (seen_atoms (drop (k + 1) l)) ≡ w
unfolding all_written
atoms_wrote o u l k a w h e f g =
    ap (λ (m : List plain.Inequality). m ++ all_written (seen_atoms (drop (k + 1) l))) f ∙ append_assoc (seen_all o) (written (seen_atom a)) (all_written (seen_atoms (drop (k + 1) l)))
    ∙ sym (ap (λ (m : List Atom). seen_all o ++ all_written m) (atoms_drop l k a h e)) ∙ g

pub atoms_written : (o : List Inequality) (l : List LinearAtom) (k : ℕ) (w : List plain.Inequality) → length l ≤ k → seen_all o ++ all_written (seen_atoms (drop k l)) ≡ w → seen_all o ≡ w
unfolding all_written
atoms_written o l k w h g = sym (ap (λ (m : List Atom). seen_all o ++ all_written m) (atoms_end l k h) ∙ append-nil (seen_all o)) ∙ g

pub bounds_wrote : (lo hi : ℤ) (o u : List Inequality) (l : List ℕ) (k : ℕ) (w : List plain.Inequality) → k < length l → seen_all u ≡ seen_all o ++ bounds lo hi (get_or l k 0 ∷ []) →
    seen_all o ++ bounds lo hi (drop k l) ≡ w → seen_all u ++ bounds lo hi (drop (k + 1) l) ≡ w
unfolding bounds
bounds_wrote lo hi o u l k w h f g =
    ap (λ (m : List plain.Inequality). m ++ bounds lo hi (drop (k + 1) l)) f ∙ append_assoc (seen_all o) (bounds lo hi (get_or l k 0 ∷ [])) (bounds lo hi (drop (k + 1) l))
    ∙ sym (ap (λ (m : List ℕ). seen_all o ++ bounds lo hi m) (drop_more l k 0 h)) ∙ g

pub bounds_written : (lo hi : ℤ) (o : List Inequality) (l : List ℕ) (k : ℕ) (w : List plain.Inequality) → length l ≤ k → seen_all o ++ bounds lo hi (drop k l) ≡ w → seen_all o ≡ w
unfolding bounds
bounds_written lo hi o l k w h g = sym (ap (λ (m : List ℕ). seen_all o ++ bounds lo hi m) (drop_all k l h) ∙ append-nil (seen_all o)) ∙ g

pub first_written : (lo hi : ℤ) (l : List Atom) (o : List plain.Inequality) (p : List ℕ) → o ≡ all_written l → p ≡ places_in l → o ++ bounds lo hi p ≡ first_list lo hi l
unfolding first_list
first_written lo hi l o p e f = ap₂ (λ (m : List plain.Inequality) (q : List ℕ). m ++ bounds lo hi q) e f

-- ---- it is safe

abbrev Short : List ℕ → Type 0
Short [] = Unit {0}
Short (x ∷ l) = (x < 2 ^ 32) × Short l

short_put : (x : ℕ) (l : List ℕ) → x < 2 ^ 32 → Short l → Short (put x l)
unfolding put
short_put x l h s = elim (bool_cases (contains l x)) [
  | inl t ↦ subst (λ (b : Bool). Short (if b then l else x ∷ l)) (sym t) s
  | inr t ↦ subst (λ (b : Bool). Short (if b then l else x ∷ l)) (sym t) (h, s)
]

short_all : (p l : List ℕ) → Short p → Short l → Short (put_all p l)
unfolding put_all
short_all [] l h s = s
short_all (x ∷ p) l h s = short_put x (put_all p l) h.0 (short_all p l h.1 s)

short_named : (n : ℕ) (p : List Multiple) → Ordered n p → Short (named p)
unfolding named
short_named n [] o = tt
short_named n (t ∷ p) o = short_put t.place (named p) o.1 (short_named (suc t.place) p o.2)

short_places : (l : List Atom) → FitAll l → Short (places_in l)
unfolding places_in
short_places [] f = tt
short_places (a ∷ l) f = short_all (named (form_of a).terms) (places_in l) (short_named 0 (form_of a).terms (f.0).ordered) (short_places l f.1)

unit : (x : ℕ) (k m : ℤ) → x < 2 ^ 32 → unsigned_abs k ≤ 1 → Safe (let r : plain.Inequality = record { terms = record { place = x; coefficient = k } ∷ []; most = m } in r)
unit x k m h i = record { ordered = (omega arith, h, tt); terms = λ j d n. one j d n }
  where
    one : (j : ℕ) (d : Multiple) → j < 1 → unsigned_abs (get_or ((let t : Multiple = record { place = x; coefficient = k } in t) ∷ []) j d).coefficient < 2 ^ 127
    one zero d n = omega (arith, i)
    one (suc j) d n = absurd (omega arith)

safe_bounds : (lo hi : ℤ) (l : List ℕ) → Short l → SafeAll (bounds lo hi l)
unfolding bounds
safe_bounds lo hi [] s = tt
safe_bounds lo hi (x ∷ l) s = (unit x (pos 1) hi s.0 (let e : unsigned_abs (pos 1) ≤ 1 = omega (arith, ints) in e), (unit x (negsuc 0) (neg_ℤ lo) s.0 (let e : unsigned_abs (negsuc 0) ≤ 1 = omega (arith, ints) in e), safe_bounds lo hi l s.1))

safe_written : (a : Atom) → FitForm (form_of a) → SafeAll (written a)
unfolding written form_of
safe_written (at_most_zero g) f = (safe_at_most g (pos 0) f, tt)
safe_written (is_zero g) f = (safe_at_most g (pos 0) f, (safe_at_least g (pos 0) f, tt))
safe_written (not_zero g) f = tt
safe_written (same a b) f = tt
safe_written (differ a b) f = tt

safe_all_written : (l : List Atom) → FitAll l → SafeAll (all_written l)
unfolding all_written
safe_all_written [] f = tt
safe_all_written (a ∷ l) f = safe_append (written a) (all_written l) (safe_written a f.0) (safe_all_written l f.1)

pub safe_first : (lo hi : ℤ) (l : List Atom) → FitAll l → SafeAll (first_list lo hi l)
unfolding first_list
safe_first lo hi l f = safe_append (all_written l) (bounds lo hi (places_in l)) (safe_all_written l f) (safe_bounds lo hi (places_in l) (short_places l f))

pub atoms_length : (l : List LinearAtom) → length (seen_atoms l) ≡ length l
unfolding seen_atoms
atoms_length l = length-map l seen_atom
