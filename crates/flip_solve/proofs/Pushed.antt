-- The pointer atoms that were put together, and the classes that they force.
use Rattle.std.proofs.Common.{◌≡◌, ℕ, zero, suc, ◌+◌, ◌^◌, ◌<◌, ◌≤◌, inl, inr, List, [], ◌∷◌, ◌++◌, length, get_or, refl, sym, ap, ap₂, ◌∙◌, subst, arith, length-append}
use Rattle.std.specs.List.{All}
use Rattle.cc_base.specs.Classes.{SideBelow, PointersBelow, AreClasses, Contradicts}
use Rattle.cc_base.specs.Forms.{Side, nothing, at, Atom, at_most_zero, is_zero, not_zero, same, differ}
use Rattle.cc_base.specs.Holds.{places_of_side}
use Rattle.cc_base.specs.Paths.{In}
use Rattle.sym_expr.specs.declared.atoms.Atom.{Atom as Written}
use Rattle.sym_expr.specs.AtomsSeen.{atom_of, atoms_of}
use Rattle.pointer_solver.specs.declared.PointerFault.TheVariants.{Unsat}
use Rattle.pointer_solver.specs.Faults.{IsFault}
use Rattle.flip_solve.specs.Choosing.{pointer_part, pointers_of, AtomBelow, NamesPlaces}
use Rattle.flip_solve.proofs.Members.{in_left, in_right, in_either}
use Rattle.flip_solve.proofs.Pointers.{part_in, only_those, pointers_append, contradicts_wide, whole_classes}

pub both_pushed : (start once twice c d : List Written) → start ≡ [] → atoms_of once ≡ atoms_of start ++ pointers_of (atoms_of c) → atoms_of twice ≡ atoms_of once ++ pointers_of (atoms_of d)
    → atoms_of twice ≡ pointers_of (atoms_of c ++ atoms_of d)
both_pushed start once twice c d e f g =
    g ∙ ap (λ (m : List Atom). m ++ pointers_of (atoms_of d)) (f ∙ ap (λ (l : List Written). atoms_of l ++ pointers_of (atoms_of c)) e) ∙ sym (pointers_append (atoms_of c) (atoms_of d))

-- ---- how many

length_seen : (l : List Written) → length (atoms_of l) ≡ length l
length_seen [] = refl
length_seen (a ∷ l) = ap suc (length_seen l)

part_short : (a : Atom) → length (pointer_part a) ≤ 1
part_short (same a b) = omega arith
part_short (differ a b) = omega arith
part_short (at_most_zero g) = omega arith
part_short (is_zero g) = omega arith
part_short (not_zero g) = omega arith

pointers_short : (l : List Atom) → length (pointers_of l) ≤ length l
unfolding pointers_of
pointers_short [] = omega arith
pointers_short (a ∷ l) = let h = part_short a in let k = pointers_short l in let e = length-append (pointer_part a) (pointers_of l) in omega (arith, h, k, e)

pub few_pointers : (l c d : List Written) → atoms_of l ≡ pointers_of (atoms_of c ++ atoms_of d) → length c + length d < 2 ^ 28 → length l < 2 ^ 32
few_pointers l c d e h =
    let f : length l ≡ length (pointers_of (atoms_of c ++ atoms_of d)) = sym (length_seen l) ∙ ap length e in
    let g = pointers_short (atoms_of c ++ atoms_of d) in
    let k : length (atoms_of c ++ atoms_of d) ≡ length c + length d = length-append (atoms_of c) (atoms_of d) ∙ ap₂ (λ (m n : ℕ). m + n) (length_seen c) (length_seen d) in
    omega (arith, f, g, k, h)

-- ---- which

pointer_only : (l : List Atom) (a : Atom) → In a (pointers_of l) → In a (pointer_part a)
unfolding pointers_of
pointer_only [] a i = absurd i
pointer_only (x ∷ l) a i = elim (in_either a (pointer_part x) (pointers_of l) i) [
  | inl j ↦ subst (λ (y : Atom). In a (pointer_part y)) (sym (part_in x a j)) j
  | inr j ↦ pointer_only l a j
]

side_below : (n : ℕ) (s : Side) → ((x : ℕ) → In x (places_of_side s) → x < n) → SideBelow n s
side_below n nothing h = tt
side_below n (at p) h = h p (inl refl)

pointer_below : (n : ℕ) (a : Atom) → In a (pointer_part a) → AtomBelow n a → PointersBelow n a
pointer_below n (same a b) i h = (side_below n a (λ x j. h x (in_left x (places_of_side a) (places_of_side b) j)), side_below n b (λ x j. h x (in_right x (places_of_side a) (places_of_side b) j)))
pointer_below n (differ a b) i h = (side_below n a (λ x j. h x (in_left x (places_of_side a) (places_of_side b) j)), side_below n b (λ x j. h x (in_right x (places_of_side a) (places_of_side b) j)))
pointer_below n (at_most_zero g) i h = absurd i
pointer_below n (is_zero g) i h = absurd i
pointer_below n (not_zero g) i h = absurd i

in_seen : (l : List Written) (k : ℕ) (x : Written) → k < length l → In (atom_of (get_or l k x)) (atoms_of l)
in_seen [] k x h = absurd (omega (arith, h))
in_seen (a ∷ l) zero x h = inl refl
in_seen (a ∷ l) (suc k) x h = inr (in_seen l k x (omega (arith, h)))

pub pointers_below : (n : ℕ) (l : List Written) (m : List Atom) → atoms_of l ≡ pointers_of m → NamesPlaces n m → All (λ a. PointersBelow n (atom_of a)) l
pointers_below n l m e h = λ k x i.
    let j = subst (In (atom_of (get_or l k x))) e (in_seen l k x i) in
    pointer_below n (atom_of (get_or l k x)) (pointer_only m (atom_of (get_or l k x)) j) (h (atom_of (get_or l k x)) (only_those m (atom_of (get_or l k x)) j))

-- ---- classes

pub classes_of : (l : List Written) (m : List Atom) (n : ℕ) (classes : List ℕ) → atoms_of l ≡ pointers_of m → AreClasses (atoms_of l) n classes → AreClasses m n classes
classes_of l m n classes e h = whole_classes m n classes (subst (λ (k : List Atom). AreClasses k n classes) e h)

pub fault_of : (l : List Written) (m : List Atom) (k : ℕ) → atoms_of l ≡ pointers_of m → IsFault (atoms_of l) (Unsat k) → (j : ℕ) × Contradicts m j
fault_of l m k e h = contradicts_wide m k (subst (λ (i : List Atom). Contradicts i k) e h.here)
