-- Values of places meet atoms: the solver's those of the slice, the own ones the others, and those of the classes the pointer atoms.
use Rattle.std.proofs.Common.{◌≡◌, ◌≢◌, ℕ, ◌⊎◌, inl, inr, ◌↔◌, ℤ, pos, ◌≤ℤ◌, Bool, true, false, List, [], ◌∷◌, ◌++◌, Option, Some, None, IsSome, unwrap_or, refl, sym, ap, ◌∙◌, subst}
use Rattle.cc_base.specs.Classes.{Forced, stated, itself, turned, Mentions, Contradicts}
use Rattle.cc_base.specs.Forms.{Side, nothing, at, Atom, at_most_zero, is_zero, not_zero, same, differ}
use Rattle.cc_base.specs.Groups.{contains, form_of, places_in, HoldAll}
use Rattle.cc_base.specs.Groups as grouped
use Rattle.cc_base.specs.Holds.{or_zero, AllValued, places_of_atom, Compares, Holds, Meets}
use Rattle.cc_base.specs.Paths.{In}
use Rattle.cc_base.specs.Places.{Placed}
use Rattle.cc_base.specs.Slice.{slice_of}
use Rattle.sym_expr.proofs.AtomLaws.{Holds-same, Compares-same}
use Rattle.sym_run.specs.Placing.{IsNumberAt, IsPointerAt, NamesAtom}
use Rattle.flip_solve.proofs.Members.{in_got}
use Rattle.flip_solve.proofs.Refuted.{value_same}
use Rattle.flip_solve.proofs.Sliced.{places_asked, in_places, in_or_out, named_in}

pub some_of : (o : Option ℤ) → IsSome o → (z : ℤ) × (o ≡ Some z)
some_of (Some z) h = (z, refl)
some_of None h = absurd (cc h)

pub is_some_of : (o : Option ℤ) (z : ℤ) → o ≡ Some z → IsSome o
is_some_of o z e = subst (λ (x : Option ℤ). IsSome x) (sym e) refl

or_zero_of : (f : ℕ → Option ℤ) (p : ℕ) (z : ℤ) → f p ≡ Some z → or_zero f p ≡ z
or_zero_of f p z e = ap (λ (o : Option ℤ). unwrap_or o (pos 0)) e

-- two that have a value, and one value, are the same
both_same : (x y : Option ℤ) → IsSome x → IsSome y → unwrap_or x (pos 0) ≡ unwrap_or y (pos 0) → x ≡ y
both_same (Some x) (Some y) s t e = ap Some e
both_same None y s t e = absurd (cc s)
both_same (Some x) None s t e = absurd (cc t)

-- ---- pointers

-- the values of pointers are equal exactly where atoms force it
pub record PointersStand (front : List Placed) (l : List Atom) (f : ℕ → Option ℤ) : Type 0 where
  pub valued : (p : ℕ) → IsPointerAt front p → IsSome (f p)
  pub equal : (p q : ℕ) → IsPointerAt front p → IsPointerAt front q → Mentions l p → Mentions l q → (f p ≡ f q) ↔ Forced l (at p) (at q)
  pub null : (p : ℕ) → IsPointerAt front p → (f p ≡ Some (pos 0)) ↔ (Forced l (at p) nothing ⊎ (Mentions l p → ⊥))
  pub apart : (k : ℕ) → Contradicts l k → ⊥

module _ (front : List Placed) (l : List Atom) (f : ℕ → Option ℤ) (stand : PointersStand front l f) where
  holds_same : (a b : Side) → In (same a b) l → NamesAtom front (same a b) → Holds f (same a b)
  holds_same nothing nothing i n = record { valued = tt; compares = refl }
  holds_same (at p) nothing i n = let k = in_got l (same (at p) nothing) i in
      record { valued = (stand.valued p n.0, tt); compares = or_zero_of f p (pos 0) ((stand.null p n.0).1 (inl (stated k.0 (at p) nothing k.1))) }
  holds_same nothing (at q) i n = let k = in_got l (same nothing (at q)) i in
      record { valued = (stand.valued q n.1, tt); compares = sym (or_zero_of f q (pos 0) ((stand.null q n.1).1 (inl (turned nothing (at q) (stated k.0 nothing (at q) k.1))))) }
  holds_same (at p) (at q) i n = let k = in_got l (same (at p) (at q)) i in
      record {
        valued = (stand.valued p n.0, (stand.valued q n.1, tt));
        compares = ap (λ (o : Option ℤ). unwrap_or o (pos 0)) ((stand.equal p q n.0 n.1 (k.0, same (at p) (at q), k.1, inl refl) (k.0, same (at p) (at q), k.1, inr refl)).1 (stated k.0 (at p) (at q) k.1));
      }

  not_null : (p : ℕ) → IsPointerAt front p → Mentions l p → (Forced l (at p) nothing → ⊥) → or_zero f p ≢ pos 0
  not_null p n m h e = let s = stand.valued p n in elim ((stand.null p n).0 (both_same (f p) (Some (pos 0)) s refl e)) [ inl g ↦ h g | inr g ↦ g m ]

  holds_differ : (a b : Side) → In (differ a b) l → NamesAtom front (differ a b) → Holds f (differ a b)
  holds_differ nothing nothing i n = let k = in_got l (differ nothing nothing) i in
      absurd (stand.apart k.0 (nothing, nothing, k.1, itself nothing))
  holds_differ (at p) nothing i n = let k = in_got l (differ (at p) nothing) i in
      record {
        valued = (stand.valued p n.0, tt);
        compares = not_null p n.0 (k.0, differ (at p) nothing, k.1, inl refl) (λ g. stand.apart k.0 (at p, nothing, k.1, g));
      }
  holds_differ nothing (at q) i n = let k = in_got l (differ nothing (at q)) i in
      record {
        valued = (stand.valued q n.1, tt);
        compares = λ e. not_null q n.1 (k.0, differ nothing (at q), k.1, inr refl) (λ g. stand.apart k.0 (nothing, at q, k.1, turned (at q) nothing g)) (sym e);
      }
  holds_differ (at p) (at q) i n = let k = in_got l (differ (at p) (at q)) i in
      record {
        valued = (stand.valued p n.0, (stand.valued q n.1, tt));
        compares = λ e. stand.apart k.0 (
          at p,
          at q,
          k.1,
          (stand.equal p q n.0 n.1 (k.0, differ (at p) (at q), k.1, inl refl) (k.0, differ (at p) (at q), k.1, inr refl)).0
              (both_same (f p) (f q) (stand.valued p n.0) (stand.valued q n.1) e),
        );
      }

-- ---- numbers

-- a place that the slice names has the solver's value v, another one its own, g
pub record NumbersStand (front : List Placed) (c d : List Atom) (f g : ℕ → Option ℤ) (v : ℕ → ℤ) : Type 0 where
  pub given : (p : ℕ) → IsNumberAt front p → contains (places_in (slice_of c d)) p ≡ true → f p ≡ Some (v p)
  pub kept : (p : ℕ) → IsNumberAt front p → contains (places_in (slice_of c d)) p ≡ false → f p ≡ g p

hold_in : (v : ℕ → ℤ) (l : List Atom) → HoldAll v l → (a : Atom) → In a l → grouped.Holds v a
hold_in v [] h a i = absurd i
hold_in v (b ∷ l) h a (inl e) = subst (grouped.Holds v) (sym e) h.0
hold_in v (b ∷ l) h a (inr i) = hold_in v l h.1 a i

-- the values compare as an atom of integers says
abbrev pub OfNumbers : Atom → Type 0
OfNumbers (at_most_zero g) = Unit {0}
OfNumbers (is_zero g) = Unit {0}
OfNumbers (not_zero g) = Unit {0}
OfNumbers (same a b) = ⊥
OfNumbers (differ a b) = ⊥

compares : (v : ℕ → ℤ) (a : Atom) → OfNumbers a → grouped.Holds v a → Compares v a
compares v (at_most_zero g) n h = subst (λ (z : ℤ). z ≤ℤ pos 0) (value_same v g) h
compares v (is_zero g) n h = sym (value_same v g) ∙ h
compares v (not_zero g) n h = λ e. h (value_same v g ∙ e)
compares v (same a b) n h = absurd n
compares v (differ a b) n h = absurd n

-- the places of an atom of integers are those of its form, and numbers stand there
form_places : (front : List Placed) (a : Atom) → OfNumbers a → NamesAtom front a → (p : ℕ) → In p (places_of_atom a) → IsNumberAt front p × (contains (places_asked a) p ≡ true)
unfolding form_of
form_places front (at_most_zero g) n m p i = (m p i, named_in g.terms p i)
form_places front (is_zero g) n m p i = (m p i, named_in g.terms p i)
form_places front (not_zero g) n m p i = (m p i, named_in g.terms p i)
form_places front (same a b) n m p i = absurd n
form_places front (differ a b) n m p i = absurd n

all_valued : (f : ℕ → Option ℤ) (l : List ℕ) → ((p : ℕ) → In p l → IsSome (f p)) → AllValued f l
all_valued f [] h = tt
all_valued f (p ∷ l) h = (h p (inl refl), all_valued f l (λ q i. h q (inr i)))

module _ (front : List Placed) (c d : List Atom) (f g : ℕ → Option ℤ) (v : ℕ → ℤ) (stand : NumbersStand front c d f g v) where
  holds_number : HoldAll v (slice_of c d) → ((a : Atom) → In a c → Holds g a) → (a : Atom) → In a (c ++ d) → OfNumbers a → NamesAtom front a → Holds f a
  holds_number solved own a i n m = elim (in_or_out c d a i) [
    | inl j ↦
        let has : (p : ℕ) → In p (places_of_atom a) → f p ≡ Some (v p) = λ p k. let r = form_places front a n m p k in stand.given p r.0 (in_places (slice_of c d) a p j r.1) in
        record {
          valued = all_valued f (places_of_atom a) (λ p k. is_some_of (f p) (v p) (has p k));
          compares = Compares-same v (or_zero f) a (λ p k. sym (or_zero_of f p (v p) (has p k))) (compares v a n (hold_in v (slice_of c d) solved a j));
        }
    | inr j ↦ Holds-same g f a (λ p k. let r = form_places front a n m p k in
        sym (stand.kept p r.0 (not_true (contains (places_in (slice_of c d)) p) (j.1 p r.1)))) (own a j.0)
  ]
    where
      not_true : (x : Bool) → (x ≡ true → ⊥) → x ≡ false
      not_true true h = absurd (h refl)
      not_true false h = refl

-- ---- all atoms

module _ (front : List Placed) (c d : List Atom) (f g : ℕ → Option ℤ) (v : ℕ → ℤ) (pointers : PointersStand front (c ++ d) f) (numbers : NumbersStand front c d f g v) where
  pub each_holds : HoldAll v (slice_of c d) → ((a : Atom) → In a c → Holds g a) → (a : Atom) → In a (c ++ d) → NamesAtom front a → Holds f a
  each_holds solved own (same x y) i n = holds_same front (c ++ d) f pointers x y i n
  each_holds solved own (differ x y) i n = holds_differ front (c ++ d) f pointers x y i n
  each_holds solved own (at_most_zero k) i n = holds_number front c d f g v numbers solved own (at_most_zero k) i tt n
  each_holds solved own (is_zero k) i n = holds_number front c d f g v numbers solved own (is_zero k) i tt n
  each_holds solved own (not_zero k) i n = holds_number front c d f g v numbers solved own (not_zero k) i tt n

pub meets_all : (f : ℕ → Option ℤ) (l : List Atom) → ((a : Atom) → In a l → Holds f a) → Meets f l
meets_all f [] h = tt
meets_all f (a ∷ l) h = (h a (inl refl), meets_all f l (λ b i. h b (inr i)))
