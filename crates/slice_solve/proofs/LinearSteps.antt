-- Atoms as the solver of linear atoms has them.
use Rattle.std.proofs.Common.{◌≡◌, ◌∙◌, sym, ap, ap₂, subst, refl, arith, ℕ, suc, ◌+◌, ◌^◌, ◌<◌, ◌≤◌, ℤ, List, [], ◌∷◌, ◌++◌, length, map, take, get_or, Result, Ok, Err, IfOk, Bool, true, false, append-nil, SFits, unsigned_abs}
use Rattle.std.proofs.lemmas.Int.{fits_signed_from_abs}
use mir.Syntax.{w128}
use Rattle.std.specs.declared.alloc.AllocError.{AllocError}
use Rattle.std.proofs.lemmas.List.{take_more, map-append}
use Rattle.cc_base.specs.declared.forms.Multiple.{Multiple}
use Rattle.cc_base.specs.Forms.{Form, Atom as PlainAtom}
use Rattle.cc_base.specs.Groups.{form_of}
use Rattle.sym_expr.specs.declared.atoms.Atom.{Atom}
use Rattle.sym_expr.specs.declared.forms.FormTerm.{FormTerm}
use Rattle.sym_expr.specs.AtomsSeen.{atom_of, atoms_of}
use Rattle.sym_expr.specs.TermsSeen.{multiple_of, multiples_of}
use Rattle.sym_expr.specs.Sums.{IsForm, AllAbove, Ascending}
use Rattle.linear_solver.specs.declared.atoms.LinearAtom.{LinearAtom}
use Rattle.linear_solver.specs.declared.atoms.Sign.{Sign}
use Rattle.linear_solver.specs.declared.atoms.Sign.TheVariants.{AtMostZero, Zero, NotZero}
use Rattle.linear_solver.specs.Answers.{Below, BelowAll}
use Rattle.linear_solver.specs.Ordered.{Ordered}
use Rattle.linear_solver.specs.Atoms.{atom_of as signed, seen_form, seen_atom, seen_atoms, FitForm, FitAll}
use Rattle.linear_solver.proofs.Writing.{seen_form_is}
use Rattle.slice_solve.specs.Linear.{linear, IsLinear, AreLinear}
use Rattle.cc_base.specs.Solve.{Right}
use Rattle.cc_base.specs.declared.memory.NoMemory.{NoMemory}
use Rattle.linear_solver.specs.declared.solve.Solved.{Solved}
use Rattle.linear_solver.specs.Answers.{Given, answer_of}
use Rattle.slice_solve.proofs.Carried.{form_linear, right_linear, given_linear}
use Rattle.slice_solve.specs.Joins.{first_is_null, met}
use Rattle.slice_solve.proofs.Steps.{grow, atoms_append, met_more}

-- ---- limits

abbrev FirstFrom : ℕ → List Multiple → Type 0
FirstFrom n [] = Unit {0}
FirstFrom n (t ∷ l) = n ≤ t.place

above_first : (x : ℕ) (l : List Multiple) → AllAbove x l → FirstFrom (suc x) l
above_first x [] h = tt
above_first x (t ∷ l) h = omega (arith, h.0)

ordered : (n : ℕ) (l : List Multiple) → FirstFrom n l → Ascending l → Below (2 ^ 32) l → Ordered n l
ordered n [] f a b = tt
ordered n (t ∷ l) f a b = (f, b.0, ordered (suc t.place) l (above_first t.place l a.0) a.1 b.1)

from_zero : (l : List Multiple) → FirstFrom 0 l
from_zero [] = tt
from_zero (t ∷ l) = omega arith

fits_form : (g : Form) → IsForm g → Below (2 ^ 32) g.terms → FitForm g
fits_form g h b = record { ordered = ordered 0 g.terms (from_zero g.terms) h.ascending b; terms = h.coefficients; constant = h.number }

pub fits_constant : (z : ℤ) (g : Form) → z ≡ g.constant → IsForm g → SFits w128 z
fits_constant z g e h = let k : unsigned_abs z ≤ 2 ^ 72 + 2 ^ 33 = subst (λ (y : ℤ). unsigned_abs y ≤ 2 ^ 72 + 2 ^ 33) (sym e) h.number in fits_signed_from_abs w128 z (omega (arith, k))

-- ---- an atom

linear_signed : (s : Sign) (g : Form) → linear (signed s g) ≡ signed s g
unfolding linear
linear_signed AtMostZero g = refl
linear_signed Zero g = refl
linear_signed NotZero g = refl

pub is_linear : (r : LinearAtom) (s : Sign) (g : Form) → r.sign ≡ s → r.constant ≡ g.constant → r.terms.items ≡ g.terms → IsForm g → Below (2 ^ 32) g.terms → IsLinear (signed s g) r
is_linear r s g e f h i b =
    let k : seen_form r ≡ g = ap₂ (λ (z : ℤ) (l : List Multiple). let w : Form = record { constant = z; terms = l } in w) f h in
    record { seen = ap₂ signed e k ∙ sym (linear_signed s g); fit = subst FitForm (sym k) (fits_form g i b) }

pub linear_as : (o : Result LinearAtom AllocError) (p q : PlainAtom) → linear p ≡ linear q → IfOk o (IsLinear p) → IfOk o (IsLinear q)
linear_as (Ok r) p q e h = record { seen = h.seen ∙ e; fit = h.fit }
linear_as (Err x) p q e h = tt

-- ---- a list

pub none_linear : AreLinear [] []
unfolding seen_atoms
none_linear = record { seen = refl; fit = tt }

fit_append : (k l : List PlainAtom) → FitAll k → FitAll l → FitAll (k ++ l)
fit_append [] l h i = i
fit_append (a ∷ k) l h i = (h.0, fit_append k l h.1 i)

pub more_linear : (l : List PlainAtom) (v w : List LinearAtom) (a : PlainAtom) (r : LinearAtom) → w ≡ v ++ r ∷ [] → IsLinear a r → AreLinear l v → AreLinear (l ++ a ∷ []) w
unfolding seen_atoms
more_linear l v w a r e i h =
    let k : seen_atoms (v ++ r ∷ []) ≡ seen_atoms v ++ seen_atom r ∷ [] = map-append seen_atom v (r ∷ []) in
    subst (AreLinear (l ++ a ∷ [])) (sym e) (record {
      seen = k ∙ ap₂ (λ (p : List PlainAtom) (d : PlainAtom). p ++ d ∷ []) h.seen i.seen ∙ sym (map-append linear l (a ∷ []));
      fit = subst FitAll (sym k) (fit_append (seen_atoms v) (seen_atom r ∷ []) h.fit (subst FitForm (sym (seen_form_is r)) i.fit, tt));
    })

-- one atom more of p behind l
pub pushed_linear : (l : List PlainAtom) (v w : List LinearAtom) (p : List Atom) (i : ℕ) (a : Atom) (r : LinearAtom) → i < length p → a ≡ get_or p i a → w ≡ v ++ r ∷ [] → IsLinear (atom_of a) r
    → AreLinear (l ++ atoms_of (take i p)) v → AreLinear (l ++ atoms_of (take (i + 1) p)) w
pushed_linear l v w p i a r h e f s m =
    subst (λ (q : List PlainAtom). AreLinear q w)
    (grow Atom PlainAtom atoms_of atoms_append l (l ++ atoms_of (take i p)) ((l ++ atoms_of (take i p)) ++ atom_of a ∷ []) p i a a h e refl refl)
    (more_linear (l ++ atoms_of (take i p)) v w (atom_of a) r f s m)

-- one atom more of the condition, or not
pub met_yes : (k : List ℕ) (l : List Atom) (i : ℕ) (a : Atom) (v w : List LinearAtom) (r : LinearAtom) (b : Bool) (p : List Multiple) → i < length l → a ≡ get_or l i a
    → b ≡ first_is_null k p → p ≡ (form_of (atom_of a)).terms → b ≡ true → w ≡ v ++ r ∷ [] → IsLinear (atom_of a) r
    → AreLinear (met k (atoms_of (take i l))) v → AreLinear (met k (atoms_of (take (i + 1) l))) w
met_yes k l i a v w r b p h e f g t s m q =
    subst (λ (o : List PlainAtom). AreLinear o w) (met_more k l i a true h e (sym t ∙ f ∙ ap (first_is_null k) g)) (more_linear (met k (atoms_of (take i l))) v w (atom_of a) r s m q)

pub met_no : (k : List ℕ) (l : List Atom) (i : ℕ) (a : Atom) (v w : List LinearAtom) (b : Bool) (p : List Multiple) → i < length l → a ≡ get_or l i a
    → b ≡ first_is_null k p → p ≡ (form_of (atom_of a)).terms → b ≡ false → w ≡ v
    → AreLinear (met k (atoms_of (take i l))) v → AreLinear (met k (atoms_of (take (i + 1) l))) w
met_no k l i a v w b p h e f g t s q =
    subst (λ (o : List PlainAtom). AreLinear o w) (sym (append-nil (met k (atoms_of (take i l)))) ∙ met_more k l i a false h e (sym t ∙ f ∙ ap (first_is_null k) g)) (subst (AreLinear (met k (atoms_of (take i l)))) (sym s) q)

below_linear : (n : ℕ) (l : List PlainAtom) → BelowAll n l → BelowAll n (map linear l)
below_linear n [] h = tt
below_linear n (a ∷ l) h = (subst (λ (g : Form). Below n g.terms) (sym (form_linear a)) h.0, below_linear n l h.1)

pub seen_below : (n : ℕ) (l : List PlainAtom) (v : List LinearAtom) → AreLinear l v → BelowAll n l → BelowAll n (seen_atoms v)
seen_below n l v m h = subst (BelowAll n) (sym m.seen) (below_linear n l h)

-- ---- answers

if_ok : (o : Result Solved NoMemory) (P Q : Solved → Type 0) → ((s : Solved) → P s → Q s) → IfOk o P → IfOk o Q
if_ok (Ok s) P Q f h = f s h
if_ok (Err e) P Q f h = tt

pub right_seen : (lo hi : ℤ) (b : ℕ) (l : List PlainAtom) (v : List LinearAtom) (o : Result Solved NoMemory) → AreLinear l v
    → IfOk o (λ s. Right lo hi b (seen_atoms v) (answer_of s)) → IfOk o (λ s. Right lo hi b l (answer_of s))
right_seen lo hi b l v o m h = if_ok o (λ s. Right lo hi b (seen_atoms v) (answer_of s)) (λ s. Right lo hi b l (answer_of s))
    (λ s r. right_linear lo hi b l (answer_of s) (subst (λ (q : List PlainAtom). Right lo hi b q (answer_of s)) m.seen r)) h

pub given_seen : (lo hi : ℤ) (n : ℕ) (l : List PlainAtom) (v : List LinearAtom) (o : Result Solved NoMemory) → AreLinear l v
    → IfOk o (Given lo hi n (seen_atoms v)) → IfOk o (Given lo hi n l)
given_seen lo hi n l v o m h = if_ok o (Given lo hi n (seen_atoms v)) (Given lo hi n l)
    (λ s r. given_linear lo hi n l s (subst (λ (q : List PlainAtom). Given lo hi n q s) m.seen r)) h

-- ---- the terms of a form

below_append : (n : ℕ) (p q : List Multiple) → Below n p → Below n q → Below n (p ++ q)
below_append n [] q h i = i
below_append n (t ∷ p) q h i = (h.0, below_append n p q h.1 i)

pub one_multiple : (n : ℕ) (u w : List Multiple) (x : Multiple) → x.place < n → w ≡ u ++ x ∷ [] → Below n u → Below n w
one_multiple n u w x h e b = subst (Below n) (sym e) (below_append n u (x ∷ []) b (h, tt))

pub made_multiples : (p : List FormTerm) (i : ℕ) (d : FormTerm) (u w : List Multiple) (x : Multiple) → i < length p → x ≡ multiple_of (get_or p i d) → w ≡ u ++ x ∷ []
    → u ≡ multiples_of (take i p) → w ≡ multiples_of (take (i + 1) p)
made_multiples p i d u w x h f e k =
    e ∙ ap₂ (λ (q : List Multiple) (y : Multiple). q ++ y ∷ []) k f ∙ sym (ap multiples_of (take_more p i d h) ∙ map-append multiple_of (take i p) (get_or p i d ∷ []))
