-- The steps of the loops.
use Rattle.std.proofs.Common.{◌≡◌, ◌∙◌, sym, ap, subst, refl, arith, ℕ, zero, suc, ◌+◌, ◌<◌, Bool, true, false, nat_eq, if◌then◌else◌, List, [], ◌∷◌, ◌++◌, length, take, get_or, slice_get, Option, Some, None, Bor, option_copied, append_assoc, append-nil, All}
use Rattle.std.proofs.lemmas.List.{take_more, map-append}
use Rattle.std.proofs.lemmas.List.Elements.{All-nil, All-cons}
use Rattle.std.proofs.lemmas.Option.{same_Some}
use Rattle.cc_base.specs.declared.forms.Multiple.{Multiple}
use Rattle.cc_base.specs.Forms.{Side, nothing, at, Atom as PlainAtom, at_most_zero, is_zero, not_zero, same, differ}
use Rattle.cc_base.specs.Classes.{SideBelow, PointersBelow, FirstContradiction}
use Rattle.cc_base.specs.Groups.{form_of, parts, places_in, shares, named, atoms_on}
use Rattle.cc_base.specs.Slice.{parts_with, slice_of}
use Rattle.sym_expr.specs.declared.atoms.Atom.{Atom}
use Rattle.sym_expr.specs.declared.forms.FormTerm.{FormTerm}
use Rattle.sym_expr.specs.AtomsSeen.{atom_of, atoms_of}
use Rattle.sym_expr.specs.TermsSeen.{multiples_of}
use Rattle.linear_solver.specs.Answers.{Below, BelowAll}
use Rattle.slice_solve.specs.Joins.{joined_to, joined, all_joined, all_null, joins, first_is_null, met}

-- ---- one more of a list

pub grow : (A B : Type 0) (F : List A → List B) → ((p q : List A) → F (p ++ q) ≡ F p ++ F q) → (o u w : List B) (p : List A) (i : ℕ) (x d : A)
    → i < length p → x ≡ get_or p i d → w ≡ u ++ F (x ∷ []) → u ≡ o ++ F (take i p) → w ≡ o ++ F (take (i + 1) p)
grow A B F f o u w p i x d h e g k =
    g ∙ ap (λ (v : List B). v ++ F (x ∷ [])) k ∙ append_assoc o (F (take i p)) (F (x ∷ []))
    ∙ ap (λ (v : List B). o ++ v) (sym (f (take i p) (x ∷ [])) ∙ ap (λ (y : A). F (take i p ++ y ∷ [])) e ∙ ap F (sym (take_more p i d h)))

pub atoms_append : (p q : List Atom) → atoms_of (p ++ q) ≡ atoms_of p ++ atoms_of q
atoms_append p q = map-append atom_of p q

-- ---- the equalities

to_append : (s : Side) (p q : List FormTerm) → joined_to s (multiples_of (p ++ q)) ≡ joined_to s (multiples_of p) ++ joined_to s (multiples_of q)
unfolding joined_to
to_append s [] q = refl
to_append s (t ∷ p) q = ap (λ (l : List PlainAtom). same s (at t.place.0) ∷ l) (to_append s p q)

pub to_more : (s : Side) (o u w : List Atom) (x : Atom) (p : List FormTerm) (i : ℕ) (d : FormTerm) → i < length p → w ≡ u ++ x ∷ [] → atom_of x ≡ same s (at (get_or p i d).place.0)
    → atoms_of u ≡ atoms_of o ++ joined_to s (multiples_of (take i p)) → atoms_of w ≡ atoms_of o ++ joined_to s (multiples_of (take (i + 1) p))
unfolding joined_to
to_more s o u w x p i d h f g k =
    grow FormTerm PlainAtom (λ q. joined_to s (multiples_of q)) (to_append s) (atoms_of o) (atoms_of u) (atoms_of w) p i (get_or p i d) d h refl
    (ap atoms_of f ∙ atoms_append u (x ∷ []) ∙ ap (λ (a : PlainAtom). atoms_of u ++ a ∷ []) g) k

pub joined_first : (p : List FormTerm) (t : FormTerm) → slice_get p 0 ≡ Some t → joined (multiples_of p) ≡ joined_to (at t.place.0) (multiples_of p)
unfolding joined
joined_first [] t e = absurd (cc e)
joined_first (u ∷ p) t e = ap (λ (d : FormTerm). joined_to (at d.place.0) (multiples_of (u ∷ p))) (same_Some u t e)

pub joined_none : (p : List FormTerm) → slice_get p 0 ≡ None → joined (multiples_of p) ≡ []
unfolding joined
joined_none [] e = refl
joined_none (u ∷ p) e = absurd (cc e)

pub joined_append : (p q : List Atom) → all_joined (atoms_of (p ++ q)) ≡ all_joined (atoms_of p) ++ all_joined (atoms_of q)
unfolding all_joined
joined_append [] q = refl
joined_append (a ∷ p) q = ap (λ (l : List PlainAtom). joined (form_of (atom_of a)).terms ++ l) (joined_append p q)
    ∙ sym (append_assoc (joined (form_of (atom_of a)).terms) (all_joined (atoms_of p)) (all_joined (atoms_of q)))

pub joined_more : (o u w : List PlainAtom) (p : List Atom) (i : ℕ) (a : Atom) → i < length p → a ≡ get_or p i a → w ≡ u ++ joined (form_of (atom_of a)).terms
    → u ≡ o ++ all_joined (atoms_of (take i p)) → w ≡ o ++ all_joined (atoms_of (take (i + 1) p))
unfolding all_joined
joined_more o u w p i a h e f k = grow Atom PlainAtom (λ q. all_joined (atoms_of q)) joined_append o u w p i a a h e
    (f ∙ ap (λ (l : List PlainAtom). u ++ l) (sym (append-nil (joined (form_of (atom_of a)).terms)))) k

null_append : (p q : List Atom) → all_null (atoms_of (p ++ q)) ≡ all_null (atoms_of p) ++ all_null (atoms_of q)
unfolding all_null
null_append [] q = refl
null_append (a ∷ p) q = ap (λ (l : List PlainAtom). joined_to nothing (form_of (atom_of a)).terms ++ l) (null_append p q)
    ∙ sym (append_assoc (joined_to nothing (form_of (atom_of a)).terms) (all_null (atoms_of p)) (all_null (atoms_of q)))

pub null_more : (o u w : List PlainAtom) (p : List Atom) (i : ℕ) (a : Atom) (l : List Multiple) → i < length p → a ≡ get_or p i a → l ≡ (form_of (atom_of a)).terms → w ≡ u ++ joined_to nothing l
    → u ≡ o ++ all_null (atoms_of (take i p)) → w ≡ o ++ all_null (atoms_of (take (i + 1) p))
unfolding all_null
null_more o u w p i a l h e m f k = grow Atom PlainAtom (λ q. all_null (atoms_of q)) null_append o u w p i a a h e
    (f ∙ ap (λ (q : List Multiple). u ++ joined_to nothing q) m ∙ ap (λ (q : List PlainAtom). u ++ q) (sym (append-nil (joined_to nothing (form_of (atom_of a)).terms)))) k

-- nothing stands where there was nothing
pub both_joins : (u w : List PlainAtom) (c a : List PlainAtom) → u ≡ [] ++ all_joined c → w ≡ u ++ all_null a → w ≡ joins c a
unfolding joins
both_joins u w c a e f = f ∙ ap (λ (q : List PlainAtom). q ++ all_null a) e

-- ---- they are of pointers below n, and none is a disequality

abbrev SamesBelow : ℕ → List PlainAtom → Type 0
SamesBelow n [] = Unit {0}
SamesBelow n (same a b ∷ l) = (SideBelow n a × SideBelow n b) × SamesBelow n l
SamesBelow n (differ a b ∷ l) = ⊥
SamesBelow n (at_most_zero g ∷ l) = ⊥
SamesBelow n (is_zero g ∷ l) = ⊥
SamesBelow n (not_zero g ∷ l) = ⊥

sames_append : (n : ℕ) (p q : List PlainAtom) → SamesBelow n p → SamesBelow n q → SamesBelow n (p ++ q)
sames_append n [] q h i = i
sames_append n (same a b ∷ p) q h i = (h.0, sames_append n p q h.1 i)
sames_append n (differ a b ∷ p) q h i = absurd h
sames_append n (at_most_zero g ∷ p) q h i = absurd h
sames_append n (is_zero g ∷ p) q h i = absurd h
sames_append n (not_zero g ∷ p) q h i = absurd h

to_below : (n : ℕ) (s : Side) (p : List Multiple) → SideBelow n s → Below n p → SamesBelow n (joined_to s p)
unfolding joined_to
to_below n s [] h b = tt
to_below n s (t ∷ p) h b = ((h, b.0), to_below n s p h b.1)

joined_below : (n : ℕ) (p : List Multiple) → Below n p → SamesBelow n (joined p)
unfolding joined
joined_below n [] b = tt
joined_below n (t ∷ p) b = to_below n (at t.place) (t ∷ p) b.0 b

all_joined_below : (n : ℕ) (l : List PlainAtom) → BelowAll n l → SamesBelow n (all_joined l)
unfolding all_joined
all_joined_below n [] b = tt
all_joined_below n (a ∷ l) b = sames_append n (joined (form_of a).terms) (all_joined l) (joined_below n (form_of a).terms b.0) (all_joined_below n l b.1)

all_null_below : (n : ℕ) (l : List PlainAtom) → BelowAll n l → SamesBelow n (all_null l)
unfolding all_null
all_null_below n [] b = tt
all_null_below n (a ∷ l) b = sames_append n (joined_to nothing (form_of a).terms) (all_null l) (to_below n nothing (form_of a).terms tt b.0) (all_null_below n l b.1)

joins_below : (n : ℕ) (c a : List PlainAtom) → BelowAll n c → BelowAll n a → SamesBelow n (joins c a)
unfolding joins
joins_below n c a h i = sames_append n (all_joined c) (all_null a) (all_joined_below n c h) (all_null_below n a i)

sames_first : (n : ℕ) (a : PlainAtom) (l : List PlainAtom) → SamesBelow n (a ∷ l) → PointersBelow n a × SamesBelow n l
sames_first n (same x y) l h = h
sames_first n (differ x y) l h = absurd h
sames_first n (at_most_zero g) l h = absurd h
sames_first n (is_zero g) l h = absurd h
sames_first n (not_zero g) l h = absurd h

all_pointers : (n : ℕ) (v : List Atom) → SamesBelow n (atoms_of v) → All (λ a. PointersBelow n (atom_of a)) v
all_pointers n [] h = All-nil (λ a. PointersBelow n (atom_of a))
all_pointers n (a ∷ v) h = let r = sames_first n (atom_of a) (atoms_of v) h in All-cons (λ d. PointersBelow n (atom_of d)) a v r.0 (all_pointers n v r.1)

pub join_pointers : (n : ℕ) (v : List Atom) (c a : List PlainAtom) → atoms_of v ≡ joins c a → BelowAll n c → BelowAll n a → All (λ x. PointersBelow n (atom_of x)) v
join_pointers n v c a e h i = all_pointers n v (subst (SamesBelow n) (sym e) (joins_below n c a h i))

no_differ : (n : ℕ) (l : List PlainAtom) (k : ℕ) (x y : Side) → SamesBelow n l → slice_get l k ≡ Some (differ x y) → ⊥
no_differ n [] k x y h e = cc e
no_differ n (same a b ∷ l) zero x y h e = cc e
no_differ n (same a b ∷ l) (suc k) x y h e = no_differ n l k x y h.1 e
no_differ n (differ a b ∷ l) k x y h e = h
no_differ n (at_most_zero g ∷ l) k x y h e = h
no_differ n (is_zero g ∷ l) k x y h e = h
no_differ n (not_zero g ∷ l) k x y h e = h

pub joins_agree : (n : ℕ) (v : List Atom) (c a : List PlainAtom) (k : ℕ) → atoms_of v ≡ joins c a → BelowAll n c → BelowAll n a → FirstContradiction (atoms_of v) k → ⊥
joins_agree n v c a k e h i f = let d = f.here in no_differ n (atoms_of v) k d.0 d.1 (subst (SamesBelow n) (sym e) (joins_below n c a h i)) d.2

-- ---- what the classes let in

pub first_is : (k : List ℕ) (p : List FormTerm) (t : FormTerm) (b : Bool) → slice_get p 0 ≡ Some t → b ≡ nat_eq (get_or k t.place.0 0) 0 → b ≡ first_is_null k (multiples_of p)
unfolding first_is_null
first_is k [] t b e f = absurd (cc e)
first_is k (u ∷ p) t b e f = f ∙ ap (λ (d : FormTerm). nat_eq (get_or k d.place.0 0) 0) (sym (same_Some u t e))

pub first_none : (k : List ℕ) (p : List FormTerm) → slice_get p 0 ≡ None → false ≡ first_is_null k (multiples_of p)
unfolding first_is_null
first_none k [] e = refl
first_none k (u ∷ p) e = absurd (cc e)

chosen_append : (b : Bool) (a : PlainAtom) (x y z : List PlainAtom) → z ≡ x ++ y → (if b then a ∷ z else z) ≡ (if b then a ∷ x else x) ++ y
chosen_append true a x y z e = ap (λ (l : List PlainAtom). a ∷ l) e
chosen_append false a x y z e = e

pub met_append : (k : List ℕ) (p q : List Atom) → met k (atoms_of (p ++ q)) ≡ met k (atoms_of p) ++ met k (atoms_of q)
unfolding met
met_append k [] q = refl
met_append k (a ∷ p) q = chosen_append (first_is_null k (form_of (atom_of a)).terms) (atom_of a) (met k (atoms_of p)) (met k (atoms_of q)) (met k (atoms_of (p ++ q))) (met_append k p q)

met_one : (k : List ℕ) (a : Atom) (b : Bool) → b ≡ first_is_null k (form_of (atom_of a)).terms → (if b then atom_of a ∷ [] else []) ≡ met k (atoms_of (a ∷ []))
unfolding met
met_one k a b e = ap (λ (c : Bool). if c then atom_of a ∷ [] else []) e

-- one more atom of the condition
pub met_more : (k : List ℕ) (p : List Atom) (i : ℕ) (a : Atom) (b : Bool) → i < length p → a ≡ get_or p i a → b ≡ first_is_null k (form_of (atom_of a)).terms
    → met k (atoms_of (take i p)) ++ (if b then atom_of a ∷ [] else []) ≡ met k (atoms_of (take (i + 1) p))
met_more k p i a b h e f = grow Atom PlainAtom (λ q. met k (atoms_of q)) (met_append k) [] (met k (atoms_of (take i p))) (met k (atoms_of (take i p)) ++ (if b then atom_of a ∷ [] else [])) p i a a h e
    (ap (λ (l : List PlainAtom). met k (atoms_of (take i p)) ++ l) (met_one k a b f)) refl

-- ---- places of the slice

chosen_below : (n : ℕ) (a : PlainAtom) (l : List PlainAtom) (b : Bool) → Below n (form_of a).terms → BelowAll n l → BelowAll n (if b then a ∷ l else l)
chosen_below n a l true h i = (h, i)
chosen_below n a l false h i = i

on_below : (n : ℕ) (c : List ℕ) (l : List PlainAtom) → BelowAll n l → BelowAll n (atoms_on c l)
unfolding atoms_on
on_below n c [] h = tt
on_below n c (a ∷ l) h = chosen_below n a (atoms_on c l) (shares (named (form_of a).terms) c) h.0 (on_below n c l h.1)

below_append : (n : ℕ) (k l : List PlainAtom) → BelowAll n k → BelowAll n l → BelowAll n (k ++ l)
below_append n [] l h i = i
below_append n (a ∷ k) l h i = (h.0, below_append n k l h.1 i)

pub slice_below : (n : ℕ) (c a : List PlainAtom) → BelowAll n c → BelowAll n a → BelowAll n (slice_of c a)
unfolding slice_of
slice_below n c a h i = let s = parts_with (places_in a) (parts (c ++ a)) in below_append n (atoms_on s c) a (on_below n s c h) i

pub below_at : (n : ℕ) (l : List Atom) (i : ℕ) (a : Atom) (p : List Multiple) → i < length l → a ≡ get_or l i a → p ≡ (form_of (atom_of a)).terms → BelowAll n (atoms_of l) → Below n p
below_at n [] i a p h e f b = absurd (omega arith)
below_at n (d ∷ l) zero a p h e f b = subst (Below n) (sym f) (subst (λ (x : Atom). Below n (form_of (atom_of x)).terms) (sym e) b.0)
below_at n (d ∷ l) (suc i) a p h e f b = below_at n l i a p (omega arith) e f b.1

pub no_first : (o : Option (Bor FormTerm)) (p : List FormTerm) → ((x : Bor FormTerm) → o ≡ Some x → ⊥) → option_copied o ≡ slice_get p 0 → slice_get p 0 ≡ None
no_first None p n e = sym e
no_first (Some x) p n e = absurd (n x refl)
