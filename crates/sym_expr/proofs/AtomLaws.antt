-- Values of the places of an atom decide whether it holds.
use Rattle.std.proofs.Common.{◌≡◌, ◌≢◌, ◌∙◌, inl, inr, sym, ap, ap₂, subst, refl, ℕ, ℤ, pos, ◌+ℤ◌, ◌*ℤ◌, ◌≤ℤ◌, Option, IsSome, unwrap_or, List, [], ◌∷◌, ◌++◌, map}
use Rattle.cc_base.specs.declared.forms.Multiple.{Multiple}
use Rattle.cc_base.specs.Forms.{Form, Side, nothing, at, Atom, at_most_zero, is_zero, not_zero, same, differ}
use Rattle.cc_base.specs.Holds.{total, value_of_form, value_of_side, Compares, AllValued, places_of_side, places_of_atom, or_zero, Holds, Meets}
use Rattle.cc_base.specs.Paths.{In}

-- one value everywhere among the places of a list
abbrev pub Agree : {A : Type 0} → (ℕ → A) → (ℕ → A) → List ℕ → Type 0
Agree f g l = (p : ℕ) → In p l → f p ≡ g p

in_front : (p : ℕ) (l m : List ℕ) → In p l → In p (l ++ m)
in_front p [] m h = absurd h
in_front p (q ∷ l) m h = elim h [ inl e ↦ inl e | inr i ↦ inr (in_front p l m i) ]

in_back : (p : ℕ) (l m : List ℕ) → In p m → In p (l ++ m)
in_back p [] m h = h
in_back p (q ∷ l) m h = inr (in_back p l m h)

pub total-same : (f g : ℕ → ℤ) (l : List Multiple) → Agree f g (map (λ t. t.place) l) → total f l ≡ total g l
unfolding total
total-same f g [] h = refl
total-same f g (t ∷ l) h = ap₂ (λ (x y : ℤ). (t.coefficient *ℤ x) +ℤ y) (h t.place (inl refl)) (total-same f g l (λ p i. h p (inr i)))

-- the values of a form's places decide its own
pub value-same : (f g : ℕ → ℤ) (a : Form) → Agree f g (map (λ t. t.place) a.terms) → value_of_form f a ≡ value_of_form g a
unfolding value_of_form
value-same f g a h = ap (λ (z : ℤ). a.constant +ℤ z) (total-same f g a.terms h)

side_same : (f g : ℕ → ℤ) (a : Side) → Agree f g (places_of_side a) → value_of_side f a ≡ value_of_side g a
side_same f g nothing h = refl
side_same f g (at p) h = h p (inl refl)

pub Compares-same : (f g : ℕ → ℤ) (a : Atom) → Agree f g (places_of_atom a) → Compares f a → Compares g a
Compares-same f g (at_most_zero a) h c = subst (λ (z : ℤ). z ≤ℤ pos 0) (value-same f g a h) c
Compares-same f g (is_zero a) h c = subst (λ (z : ℤ). z ≡ pos 0) (value-same f g a h) c
Compares-same f g (not_zero a) h c = subst (λ (z : ℤ). z ≢ pos 0) (value-same f g a h) c
Compares-same f g (same a b) h c =
    sym (side_same f g a (λ p i. h p (in_front p (places_of_side a) (places_of_side b) i))) ∙ c ∙ side_same f g b (λ p i. h p (in_back p (places_of_side a) (places_of_side b) i))
Compares-same f g (differ a b) h c = λ e.
    c (side_same f g a (λ p i. h p (in_front p (places_of_side a) (places_of_side b) i)) ∙ e ∙ sym (side_same f g b (λ p i. h p (in_back p (places_of_side a) (places_of_side b) i))))

valued_same : (f g : ℕ → Option ℤ) (l : List ℕ) → Agree f g l → AllValued f l → AllValued g l
valued_same f g [] h v = tt
valued_same f g (p ∷ l) h v = (subst (λ (o : Option ℤ). IsSome o) (h p (inl refl)) v.0, valued_same f g l (λ q i. h q (inr i)) v.1)

-- the values of an atom's places decide whether it holds
pub Holds-same : (f g : ℕ → Option ℤ) (a : Atom) → Agree f g (places_of_atom a) → Holds f a → Holds g a
Holds-same f g a h s = record {
  valued = valued_same f g (places_of_atom a) h s.valued;
  compares = Compares-same (or_zero f) (or_zero g) a (λ p i. ap (λ (o : Option ℤ). unwrap_or o (pos 0)) (h p i)) s.compares;
}

-- a list's two parts hold together
pub Meets-append : (f : ℕ → Option ℤ) (l m : List Atom) → Meets f l → Meets f m → Meets f (l ++ m)
Meets-append f [] m s t = t
Meets-append f (a ∷ l) m s t = (s.0, Meets-append f l m s.1 t)

pub Meets-front : (f : ℕ → Option ℤ) (l m : List Atom) → Meets f (l ++ m) → Meets f l
Meets-front f [] m s = tt
Meets-front f (a ∷ l) m s = (s.0, Meets-front f l m s.1)

pub Meets-back : (f : ℕ → Option ℤ) (l m : List Atom) → Meets f (l ++ m) → Meets f m
Meets-back f [] m s = s
Meets-back f (a ∷ l) m s = Meets-back f l m s.1
