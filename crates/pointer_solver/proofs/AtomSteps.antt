-- The steps of loops over atoms.
use Rattle.std.proofs.Common.{◌≡◌, ◌∙◌, inl, inr, sym, ap, subst, refl, arith, ℕ, ◌+◌, ◌<◌, nat_eq, IsTrue, List, [], ◌∷◌, ◌++◌, length, take, get_or, slice_get, Some, eq-eqb}
use borrow.Author.Tests.{eqb-true}
use Rattle.std.specs.Option.{option_map}
use Rattle.std.proofs.lemmas.Bool.{cases_lt}
use Rattle.std.proofs.lemmas.List.{take_more}
use Rattle.std.proofs.lemmas.Option.{same_Some, slice_get-map, slice_get_read}
use Rattle.cc_base.specs.Forms.{Side, Atom as PlainAtom, same}
use Rattle.sym_expr.specs.declared.atoms.PtrTerm.{PtrTerm}
use Rattle.sym_expr.specs.declared.atoms.Atom.{Atom}
use Rattle.sym_expr.specs.declared.atoms.Atom.TheVariants.{Le, Eq, Ne, Same, Differ}
use Rattle.sym_expr.specs.AtomsSeen.{side_of, atom_of, atoms_of}
use Rattle.pointer_solver.specs.Forest.{node, Joins, ContradictedAt, NoneBefore}

pub contradicted_by : (root : ℕ → ℕ) (atom : Atom) (a b : PtrTerm) (x y : ℕ) → atom ≡ Differ a b → x ≡ root (node (side_of a)) → y ≡ root (node (side_of b))
    → (IsTrue (nat_eq x y) → ContradictedAt root (atom_of atom)) × (ContradictedAt root (atom_of atom) → IsTrue (nat_eq x y))
contradicted_by root atom a b x y e f g =
    subst (λ (w : Atom). (IsTrue (nat_eq x y) → ContradictedAt root (atom_of w)) × (ContradictedAt root (atom_of w) → IsTrue (nat_eq x y))) (sym e)
    (λ t. sym f ∙ eqb-true x y t ∙ g, λ h. eq-eqb x y (f ∙ h ∙ sym g))

pub joined_nodes : (old new : ℕ → ℕ) (x y a b : ℕ) → Joins old new x y → x ≡ a → y ≡ b → Joins old new a b
joined_nodes old new x y a b j e f = subst (λ (w : ℕ). Joins old new w b) e (subst (λ (w : ℕ). Joins old new x w) f j)

pub not_same : (atom : Atom) → ((a b : PtrTerm) → atom ≡ Same a b → ⊥) → (x y : Side) → atom_of atom ≡ same x y → ⊥
not_same (Le g) n x y e = cc e
not_same (Eq g) n x y e = cc e
not_same (Ne g) n x y e = cc e
not_same (Same a b) n x y e = n a b refl
not_same (Differ a b) n x y e = cc e

atoms_append : (p q : List Atom) → atoms_of (p ++ q) ≡ atoms_of p ++ atoms_of q
atoms_append [] q = refl
atoms_append (a ∷ p) q = ap (λ (l : List PlainAtom). atom_of a ∷ l) (atoms_append p q)

pub taken_more : (atoms : List Atom) (i : ℕ) (x : Atom) → i < length atoms → x ≡ get_or atoms i x → atoms_of (take (i + 1) atoms) ≡ atoms_of (take i atoms) ++ atom_of x ∷ []
taken_more atoms i x h e = ap atoms_of (take_more atoms i x h) ∙ atoms_append (take i atoms) (get_or atoms i x ∷ []) ∙ ap (λ (a : Atom). atoms_of (take i atoms) ++ atom_of a ∷ []) (sym e)

pub atom_at : (atoms : List Atom) (i : ℕ) (x : Atom) → i < length atoms → x ≡ get_or atoms i x → slice_get (atoms_of atoms) i ≡ Some (atom_of x)
atom_at atoms i x h e = slice_get-map atom_of atoms i ∙ ap (option_map atom_of) (slice_get_read atoms (length atoms) i x refl h e)

pub none_more : (root : ℕ → ℕ) (atoms : List Atom) (i : ℕ) (x : Atom) → i < length atoms → x ≡ get_or atoms i x → NoneBefore root (atoms_of atoms) i → (ContradictedAt root (atom_of x) → ⊥) → NoneBefore root (atoms_of atoms) (i + 1)
none_more root atoms i x h e n m = λ j a k f g. elim (cases_lt j i) [
  | inl l ↦ n j a l f g
  | inr l ↦ let q : j ≡ i = omega arith in
      let s : a ≡ atom_of x = same_Some a (atom_of x) (sym f ∙ ap (slice_get (atoms_of atoms)) q ∙ atom_at atoms i x h e) in
      m (subst (ContradictedAt root) s g)
]
