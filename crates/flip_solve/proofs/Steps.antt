-- One step of each loop.
use Rattle.std.proofs.Common.{◌≡◌, ℕ, zero, suc, ◌+◌, ◌<◌, ◌≤◌, inl, inr, ℤ, Bool, true, false, List, [], ◌∷◌, ◌++◌, length, take, drop, Option, Some, None, option_and_then, get_or, refl, sym, ap, ap₂, ◌∙◌, subst, arith, append_assoc, length-append, slice_get, nat_eq, if◌then◌else◌}
use native.Mathlib.Decide.{ℕ_discrete}
use borrow.Author.Tests.{eqb-true}
use Rattle.cc_base.specs.declared.inputs.Input.{Input}
use Rattle.cc_base.specs.declared.outcomes.Outcome.{Outcome}
use Rattle.cc_base.specs.Forms.{Atom}
use Rattle.cc_base.specs.Paths.{In}
use Rattle.cc_base.specs.Places.{Place, Placed, arg, field, stream, at_place}
use Rattle.cc_model.specs.Conditions as asks
use Rattle.cc_model.specs.Conditions.{same_outcome}
use Rattle.sym_expr.specs.declared.atoms.Atom.{Atom as Written}
use Rattle.sym_expr.specs.declared.places.PlaceId.{PlaceId}
use Rattle.sym_expr.specs.AtomsSeen.{atom_of, atoms_of}
use Rattle.sym_run.specs.declared.trace.Choice.{Choice}
use Rattle.sym_run.specs.declared.trace.Event.{Event}
use Rattle.sym_run.specs.Asks.{choices_of}
use Rattle.flip_solve.specs.Choosing.{pointer_part, pointers_of, taken_of, HasCellIn, number_for, AreNumbers, block_of, HasAlso, AreBlocks}
use Rattle.flip_solve.proofs.Members.{some_same, got_in, taken_got, got_taken, in_left, in_right, in_either}

plus_one : (i : ℕ) → i + 1 ≡ suc i
plus_one i = omega arith

atoms_append : (l m : List Written) → atoms_of (l ++ m) ≡ atoms_of l ++ atoms_of m
atoms_append [] m = refl
atoms_append (a ∷ l) m = ap (λ (k : List Atom). atom_of a ∷ k) (atoms_append l m)

-- ---- atoms

taken_next : (es : List Event) (i : ℕ) (x : Event) → i < length es → taken_of (take (suc i) es) ≡ taken_of (take i es) ++ atoms_of ((get_or es i x).taken).atoms
unfolding taken_of
taken_next [] i x h = absurd (omega (arith, h))
taken_next (e ∷ es) zero x h = append_nil (atoms_of (e.taken).atoms)
  where
    append_nil : (l : List Atom) → l ++ [] ≡ l
    append_nil [] = refl
    append_nil (a ∷ l) = ap (λ (k : List Atom). a ∷ k) (append_nil l)
taken_next (e ∷ es) (suc i) x h = ap (λ (k : List Atom). atoms_of (e.taken).atoms ++ k) (taken_next es i x (omega (arith, h))) ∙ sym (append_assoc (atoms_of (e.taken).atoms) (taken_of (take i es)) (atoms_of ((get_or es i x).taken).atoms))

pub taken_none : (es : List Event) → [] ≡ taken_of (take 0 es)
unfolding taken_of
taken_none es = refl

pub taken_more : (es : List Event) (i : ℕ) (x : Event) (l more new : List Written) → i < length es → atoms_of l ≡ taken_of (take i es) → x ≡ get_or es i x → more ≡ (x.taken).atoms → new ≡ l ++ more
    → atoms_of new ≡ taken_of (take (i + 1) es)
taken_more es i x l more new h e s f g =
    ap atoms_of g ∙ atoms_append l more ∙ ap₂ (λ (m n : List Atom). m ++ n) e (ap atoms_of (f ∙ ap (λ (y : Event). (y.taken).atoms) s)) ∙ sym (ap (λ (k : ℕ). taken_of (take k es)) (plus_one i) ∙ taken_next es i x h)

-- an outcome's atoms are among the choices from here on
first_other : (o : Outcome) (c : Choice) (cs : List Choice) → same_outcome c.outcome o ≡ false → asks.atoms_of o (choices_of (c ∷ cs)) ≡ asks.atoms_of o (choices_of cs)
unfolding asks.atoms_of
first_other o c cs e = ap (λ (b : Bool). if b then atoms_of c.atoms else asks.atoms_of o (choices_of cs)) e

first_is : (o : Outcome) (c : Choice) (cs : List Choice) → same_outcome c.outcome o ≡ true → asks.atoms_of o (choices_of (c ∷ cs)) ≡ atoms_of c.atoms
unfolding asks.atoms_of
first_is o c cs e = ap (λ (b : Bool). if b then atoms_of c.atoms else asks.atoms_of o (choices_of cs)) e

drop_step : (cs : List Choice) (i : ℕ) (x : Choice) → i < length cs → drop i cs ≡ get_or cs i x ∷ drop (suc i) cs
drop_step [] i x h = absurd (omega (arith, h))
drop_step (c ∷ cs) zero x h = refl
drop_step (c ∷ cs) (suc i) x h = drop_step cs i x (omega (arith, h))

dropped : (cs : List Choice) (i : ℕ) (x : Choice) → i < length cs → x ≡ get_or cs i x → drop i cs ≡ x ∷ drop (suc i) cs
dropped cs i x h e = drop_step cs i x h ∙ ap (λ (y : Choice). y ∷ drop (suc i) cs) (sym e)

pub not_here : (o : Outcome) (cs : List Choice) (i : ℕ) (x : Choice) (r : Bool) (m : List Atom) → i < length cs → x ≡ get_or cs i x → r ≡ same_outcome x.outcome o → r ≡ false → asks.atoms_of o (choices_of (drop i cs)) ≡ m
    → asks.atoms_of o (choices_of (drop (i + 1) cs)) ≡ m
not_here o cs i x r m h e s n f = ap (λ (k : ℕ). asks.atoms_of o (choices_of (drop k cs))) (plus_one i) ∙ sym (first_other o x (drop (suc i) cs) (sym s ∙ n))
    ∙ sym (ap (λ (l : List Choice). asks.atoms_of o (choices_of l)) (dropped cs i x h e)) ∙ f

pub here_is : (o : Outcome) (cs : List Choice) (i : ℕ) (x : Choice) (r : Bool) (m : List Atom) (got : List Written) → i < length cs → x ≡ get_or cs i x → r ≡ same_outcome x.outcome o → r ≡ true → asks.atoms_of o (choices_of (drop i cs)) ≡ m
    → got ≡ x.atoms → atoms_of got ≡ m
here_is o cs i x r m got h e s n f g = ap atoms_of g ∙ sym (first_is o x (drop (suc i) cs) (sym s ∙ n)) ∙ sym (ap (λ (l : List Choice). asks.atoms_of o (choices_of l)) (dropped cs i x h e)) ∙ f

drop_all : (cs : List Choice) (i : ℕ) → length cs ≤ i → drop i cs ≡ []
drop_all [] zero h = refl
drop_all [] (suc i) h = refl
drop_all (c ∷ cs) zero h = absurd (omega (arith, h))
drop_all (c ∷ cs) (suc i) h = drop_all cs i (omega (arith, h))

pub nowhere : (o : Outcome) (cs : List Choice) (i : ℕ) (m : List Atom) → length cs ≤ i → asks.atoms_of o (choices_of (drop i cs)) ≡ m → [] ≡ m
unfolding asks.atoms_of
nowhere o cs i m h e = sym (ap (λ (l : List Choice). asks.atoms_of o (choices_of l)) (drop_all cs i h)) ∙ e

-- ---- pointer atoms

pointers_next : (l : List Written) (i : ℕ) (x : Written) → i < length l → pointers_of (atoms_of (take (suc i) l)) ≡ pointers_of (atoms_of (take i l)) ++ pointer_part (atom_of (get_or l i x))
unfolding pointers_of
pointers_next [] i x h = absurd (omega (arith, h))
pointers_next (a ∷ l) zero x h = append_nil (pointer_part (atom_of a))
  where
    append_nil : (l : List Atom) → l ++ [] ≡ l
    append_nil [] = refl
    append_nil (b ∷ m) = ap (λ (k : List Atom). b ∷ k) (append_nil m)
pointers_next (a ∷ l) (suc i) x h = ap (λ (k : List Atom). pointer_part (atom_of a) ++ k) (pointers_next l i x (omega (arith, h)))
    ∙ sym (append_assoc (pointer_part (atom_of a)) (pointers_of (atoms_of (take i l))) (pointer_part (atom_of (get_or l i x))))

-- what stands is the start, and the pointer atoms of the first i
abbrev pub Stand : List Written → List Written → List Written → ℕ → Type 0
Stand l start now i = atoms_of now ≡ atoms_of start ++ pointers_of (atoms_of (take i l))

pointers_then : (l start now : List Written) (i : ℕ) (x : Written) → i < length l → x ≡ get_or l i x → Stand l start now i
    → atoms_of start ++ pointers_of (atoms_of (take (i + 1) l)) ≡ atoms_of now ++ pointer_part (atom_of x)
pointers_then l start now i x h s e =
    ap (λ (m : List Atom). atoms_of start ++ m) (ap (λ (k : ℕ). pointers_of (atoms_of (take k l))) (plus_one i) ∙ pointers_next l i x h ∙ ap (λ (y : Written). pointers_of (atoms_of (take i l)) ++ pointer_part (atom_of y)) (sym s))
    ∙ sym (append_assoc (atoms_of start) (pointers_of (atoms_of (take i l))) (pointer_part (atom_of x)))
    ∙ ap (λ (m : List Atom). m ++ pointer_part (atom_of x)) (sym e)

pub pointers_same : (l start now new : List Written) (i : ℕ) (x : Written) (r : Bool) → i < length l → x ≡ get_or l i x → pointer_part (atom_of x) ≡ (if r then atom_of x ∷ [] else []) → r ≡ false → Stand l start now i → new ≡ now → Stand l start new (i + 1)
pointers_same l start now new i x r h s p n e g =
    ap atoms_of g ∙ sym (append_nil (atoms_of now)) ∙ ap (λ (m : List Atom). atoms_of now ++ m) (sym (p ∙ ap (λ (b : Bool). if b then atom_of x ∷ [] else []) n)) ∙ sym (pointers_then l start now i x h s e)
  where
    append_nil : (l : List Atom) → l ++ [] ≡ l
    append_nil [] = refl
    append_nil (b ∷ m) = ap (λ (k : List Atom). b ∷ k) (append_nil m)

pub pointers_more : (l start now new : List Written) (i : ℕ) (x a : Written) (r : Bool) → i < length l → x ≡ get_or l i x → pointer_part (atom_of x) ≡ (if r then atom_of x ∷ [] else []) → r ≡ true → Stand l start now i → a ≡ x → new ≡ now ++ a ∷ [] → Stand l start new (i + 1)
pointers_more l start now new i x a r h s p n e q g =
    ap atoms_of g ∙ atoms_append now (a ∷ []) ∙ ap (λ (y : Written). atoms_of now ++ (atom_of y ∷ [])) q ∙ ap (λ (m : List Atom). atoms_of now ++ m) (sym (p ∙ ap (λ (b : Bool). if b then atom_of x ∷ [] else []) n)) ∙ sym (pointers_then l start now i x h s e)

pub pointers_start : (l start : List Written) → atoms_of start ≡ atoms_of start ++ pointers_of (atoms_of (take 0 l))
unfolding pointers_of
pointers_start l start = sym (append_nil (atoms_of start))
  where
    append_nil : (l : List Atom) → l ++ [] ≡ l
    append_nil [] = refl
    append_nil (b ∷ m) = ap (λ (k : List Atom). b ∷ k) (append_nil m)

-- ---- numbers

get_front : (l : List (Option ℤ)) (x : Option ℤ) (k : ℕ) → k < length l → slice_get (l ++ x ∷ []) k ≡ slice_get l k
get_front [] x k h = absurd (omega (arith, h))
get_front (y ∷ l) x zero h = refl
get_front (y ∷ l) x (suc k) h = get_front l x k (omega (arith, h))

get_last : (l : List (Option ℤ)) (x : Option ℤ) → slice_get (l ++ x ∷ []) (length l) ≡ Some x
get_last [] x = refl
get_last (y ∷ l) x = get_last l x

pub numbers_none : (all : List Placed) (u : Input) (base : ℤ) (o : List (Option ℤ)) → AreNumbers all 0 u base o []
numbers_none all u base o = record { each = refl; numbers = λ id e h g. absurd (omega (arith, h)) }

pub numbers_more : (all : List Placed) (n : ℕ) (u : Input) (base : ℤ) (o l new : List (Option ℤ)) (x : Option ℤ) → AreNumbers all n u base o l
    → ((e : Placed) → slice_get all n ≡ Some e → x ≡ number_for e.holds (get_or o n None) (at_place all u base n)) → new ≡ l ++ x ∷ [] → AreNumbers all (n + 1) u base o new
numbers_more all n u base o l new x h f g = subst (λ (m : List (Option ℤ)). AreNumbers all (n + 1) u base o m) (sym g) (record {
  each = let e = h.each in let k = length-append l (x ∷ []) in omega (arith, e, k);
  numbers = λ id e i q. elim (ℕ_discrete id n) [
    | yes s ↦ ap (λ (m : ℕ). slice_get (l ++ x ∷ []) m) (s ∙ sym h.each) ∙ get_last l x ∙ ap Some (f e (sym (ap (slice_get all) s) ∙ q) ∙ ap (λ (m : ℕ). number_for e.holds (get_or o m None) (at_place all u base m)) (sym s))
    | no s ↦ let k = h.each in get_front l x id (omega (arith, i, s, k)) ∙ h.numbers id e (omega (arith, i, s)) q
  ];
})

-- ---- blocks

block_place : (q : Place) (t : PlaceId) → block_of q ≡ Some t → (c : ℕ) × (q ≡ field t.0 c)
block_place (field p c) t e = let f : record { 0 = p } ≡ t = some_same (record { 0 = p }) t e in (c, ap (λ (x : PlaceId). field x.0 c) f)
block_place (arg i) t e = absurd (cc e)
block_place (stream i) t e = absurd (cc e)

place_block : (q : Place) (p c : ℕ) → q ≡ field p c → block_of q ≡ Some (record { 0 = p })
place_block q p c e = ap block_of e

wider : (all : List Placed) (n : ℕ) (q : ℕ) → HasCellIn (take n all) q → HasCellIn (take (n + 1) all) q
wider all n q w = let r = taken_got n all w.0 (record { place = field q w.1; holds = w.2 }) w.3 in let h = r.0 in
    (w.0, w.1, w.2, got_taken (n + 1) all w.0 (record { place = field q w.1; holds = w.2 }) (omega (arith, h)) r.1)

at_then : (all : List Placed) (n : ℕ) (t : Option PlaceId) (e : Placed) → slice_get all n ≡ Some e → option_and_then (λ (x : Placed). block_of x.place) (slice_get all n) ≡ t → block_of e.place ≡ t
at_then all n t e g h = sym (ap (λ (o : Option Placed). option_and_then (λ (x : Placed). block_of x.place) o) g) ∙ h

there : (all : List Placed) (n : ℕ) (t : PlaceId) → (o : Option Placed) → slice_get all n ≡ o → option_and_then (λ (x : Placed). block_of x.place) o ≡ Some t → HasCellIn (take (n + 1) all) t.0
there all n t None g h = absurd (cc h)
there all n t (Some e) g h = let r = block_place e.place t h in
    (n, r.0, e.holds, got_taken (n + 1) all n (record { place = field t.0 r.0; holds = e.holds }) (omega arith) (g ∙ ap (λ (q : Place). Some (record { place = q; holds = e.holds })) r.1))

pub blocks_none : (all : List Placed) → AreBlocks all 0 []
blocks_none all = record { touched = λ t i. absurd i; parents = λ id e p c h g s. absurd (omega (arith, h)) }

pub blocks_same : (all : List Placed) (n : ℕ) (l : List PlaceId) → AreBlocks all n l → option_and_then (λ (x : Placed). block_of x.place) (slice_get all n) ≡ None → AreBlocks all (n + 1) l
blocks_same all n l h none = record {
  touched = λ t i. wider all n t.0 (h.touched t i);
  parents = λ id e p c k g s. elim (ℕ_discrete id n) [
    | yes q ↦ absurd (let a = at_then all n None e (sym (ap (slice_get all) q) ∙ g) none in let z = place_block e.place p c s in cc (a, z))
    | no q ↦ h.parents id e p c (omega (arith, k, q)) g s
  ];
}

pub blocks_more : (all : List Placed) (n : ℕ) (l new : List PlaceId) (t : PlaceId) → AreBlocks all n l → option_and_then (λ (x : Placed). block_of x.place) (slice_get all n) ≡ Some t → HasAlso t l new → AreBlocks all (n + 1) new
blocks_more all n l new t h some also = record {
  touched = λ x i. elim (also.only x i) [
    | inl j ↦ wider all n x.0 (h.touched x j)
    | inr e ↦ subst (λ (y : PlaceId). HasCellIn (take (n + 1) all) y.0) (sym e) (there all n t (slice_get all n) refl some)
  ];
  parents = λ id e p c k g s. elim (ℕ_discrete id n) [
    | yes q ↦ subst (λ (y : PlaceId). In y new) (some_same t (record { 0 = p }) (sym (at_then all n (Some t) e (sym (ap (slice_get all) q) ∙ g) some) ∙ place_block e.place p c s)) also.here
    | no q ↦ also.kept (record { 0 = p }) (h.parents id e p c (omega (arith, k, q)) g s)
  ];
}

pub also_last : (l new : List PlaceId) (t : PlaceId) → new ≡ l ++ t ∷ [] → HasAlso t l new
also_last l new t e = subst (HasAlso t l) (sym e) (record {
  here = in_right t l (t ∷ []) (inl refl);
  kept = λ x i. in_left x l (t ∷ []) i;
  only = λ x i. elim (in_either x l (t ∷ []) i) [ inl j ↦ inl j | inr j ↦ elim j [ inl f ↦ inr f | inr f ↦ absurd f ] ];
})

pub also_there : (l new : List PlaceId) (t : PlaceId) → new ≡ l → In t l → HasAlso t l new
also_there l new t e i = subst (HasAlso t l) (sym e) (record { here = i; kept = λ x j. j; only = λ x j. inl j })

pub last_there : (l : List PlaceId) (k : ℕ) (x t : PlaceId) → Some x ≡ slice_get l k → nat_eq x.0 t.0 ≡ true → In t l
last_there l k x t e h = let f : x ≡ t = ap (λ (n : ℕ). record { 0 = n }) (eqb-true x.0 t.0 h) in subst (λ (y : PlaceId). In y l) f (got_in l k x (sym e))
