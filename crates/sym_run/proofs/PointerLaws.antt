-- What pointers ask.
use Rattle.std.proofs.Common.{◌≡◌, ◌≢◌, ◌||◌, ◌+◌, ◌<◌, ◌≤◌, drop, get_or, append_assoc, ℕ, zero, suc, Bool, true, false, List, [], ◌∷◌, ◌++◌, length, map, Result, Ok, Err, IfOk, Some, refl, sym, ap, ◌∙◌, arith, if◌then◌else◌}
use Rattle.std.proofs.lemmas.List.{append-nil}
use Rattle.cc_base.specs.declared.outcomes.Outcome.TheVariants.{Object}
use Rattle.cc_base.specs.Forms.{Side, at, Atom, same, differ}
use Rattle.cc_laws.proofs.Members.{is_same, not_same}
use Rattle.cc_model.specs.Core as core
use Rattle.cc_model.specs.Core.{Cmp}
use Rattle.cc_model.specs.Traced as traced
use Rattle.cc_model.specs.Traced.{Touched, Shadow, asks_nothing, one_of}
use Rattle.checked_memory.specs.Contents.{TouchedBlock}
use Rattle.sym_run.specs.declared.symbols.Symbol.{Symbol}
use Rattle.sym_run.specs.declared.objects.First.{First}
use Rattle.sym_run.specs.Pointers.{is_ne, blank}
use Rattle.sym_run.specs.Remembers.{touched_seen}

pub if_ok : {A E : Type 0} {P Q : A → Type 0} (r : Result A E) → IfOk r P → ((x : A) → P x → Q x) → IfOk r Q
if_ok (Ok x) h f = f x h
if_ok (Err e) h f = tt

same_choices_is : (o : Cmp) (d : Bool) (a b : Side) → is_ne o ≡ d → (if d then traced.two_choices (differ a b) (same a b) else traced.two_choices (same a b) (differ a b)) ≡ traced.same_choices o a b
unfolding traced.same_choices
same_choices_is core.ne true a b e = refl
same_choices_is core.ne false a b e = absurd (cc e)
same_choices_is core.eq false a b e = refl
same_choices_is core.eq true a b e = absurd (cc e)
same_choices_is core.lt false a b e = refl
same_choices_is core.lt true a b e = absurd (cc e)
same_choices_is core.gt false a b e = refl
same_choices_is core.gt true a b e = absurd (cc e)
same_choices_is core.le false a b e = refl
same_choices_is core.le true a b e = absurd (cc e)
same_choices_is core.ge false a b e = refl
same_choices_is core.ge true a b e = absurd (cc e)

pub both_nothing : (o : Cmp) (t : Bool) (a b : Side) → t ≡ traced.same_side a b → t ≡ true → asks_nothing ≡ traced.sides_asked o (Some a) (Some b)
unfolding traced.sides_asked
both_nothing o t a b e f = ap (λ (u : Bool). if u then asks_nothing else one_of (traced.same_choices o a b)) (sym f ∙ e)

pub both_choices : (o : Cmp) (d t : Bool) (a b : Side) → t ≡ traced.same_side a b → t ≡ false → is_ne o ≡ d
    → one_of (if d then traced.two_choices (differ a b) (same a b) else traced.two_choices (same a b) (differ a b)) ≡ traced.sides_asked o (Some a) (Some b)
unfolding traced.sides_asked
both_choices o d t a b e f g = ap one_of (same_choices_is o d a b g) ∙ ap (λ (u : Bool). if u then asks_nothing else one_of (traced.same_choices o a b)) (sym f ∙ e)

-- ---- what an access asks doesn't hang on the blocks' cells

is_first_blank : (symbols : List Symbol) (p : ℕ) (fs : List First) (bs : List TouchedBlock) → length fs ≡ length bs → traced.is_first p (map blank fs) ≡ traced.is_first p (touched_seen symbols fs bs)
unfolding traced.is_first
is_first_blank symbols p [] bs l = refl
is_first_blank symbols p (f ∷ fs) [] l = absurd (omega (arith, l))
is_first_blank symbols p (f ∷ fs) (b ∷ bs) l = rw (is_first_blank symbols p fs bs (omega (arith, l))) refl

letters_blank : (symbols : List Symbol) (p t n : ℕ) (fs : List First) (bs : List TouchedBlock) → length fs ≡ length bs → traced.letters p t n (map blank fs) ≡ traced.letters p t n (touched_seen symbols fs bs)
unfolding traced.letters
letters_blank symbols p t n [] bs l = refl
letters_blank symbols p t n (f ∷ fs) [] l = absurd (omega (arith, l))
letters_blank symbols p t n (f ∷ fs) (b ∷ bs) l = rw (letters_blank symbols p t (suc n) fs bs (omega (arith, l))) refl

differs_blank : (symbols : List Symbol) (p t : ℕ) (fs : List First) (bs : List TouchedBlock) → length fs ≡ length bs → traced.differs p t (map blank fs) ≡ traced.differs p t (touched_seen symbols fs bs)
unfolding traced.differs
differs_blank symbols p t [] bs l = refl
differs_blank symbols p t (f ∷ fs) [] l = absurd (omega (arith, l))
differs_blank symbols p t (f ∷ fs) (b ∷ bs) l = rw (differs_blank symbols p t fs bs (omega (arith, l))) refl

length_blank : (symbols : List Symbol) (fs : List First) (bs : List TouchedBlock) → length fs ≡ length bs → length (map blank fs) ≡ length (touched_seen symbols fs bs)
length_blank symbols [] bs l = refl
length_blank symbols (f ∷ fs) [] l = absurd (omega (arith, l))
length_blank symbols (f ∷ fs) (b ∷ bs) l = ap suc (length_blank symbols fs bs (omega (arith, l)))

pub access_blank : (symbols : List Symbol) (s : Shadow) (fs : List First) (bs : List TouchedBlock) → length fs ≡ length bs → traced.access_asked s (map blank fs) ≡ traced.access_asked s (touched_seen symbols fs bs)
unfolding traced.access_asked traced.access_choices
access_blank symbols (traced.form g) fs bs l = refl
access_blank symbols traced.none fs bs l = refl
access_blank symbols (traced.place p t) fs bs l = rw (is_first_blank symbols p fs bs l, letters_blank symbols p t 0 fs bs l, differs_blank symbols p t fs bs l, length_blank symbols fs bs l) refl

-- ---- walks over the first places

pub drop_past : {A : Type 0} (l : List A) (i : ℕ) → length l ≤ i → drop i l ≡ []
drop_past [] zero h = refl
drop_past [] (suc i) h = refl
drop_past (x ∷ l) zero h = absurd (omega (arith, h))
drop_past (x ∷ l) (suc i) h = drop_past l i (omega (arith, h))

drop_one : (fs : List First) (i : ℕ) (d : First) → i < length fs → drop i fs ≡ get_or fs i d ∷ drop (i + 1) fs
drop_one [] i d h = absurd (omega (arith, h))
drop_one (f ∷ fs) zero d h = refl
drop_one (f ∷ fs) (suc i) d h = drop_one fs i d (omega (arith, h)) ∙ ap (λ (n : ℕ). get_or fs i d ∷ drop n (f ∷ fs)) (let e : suc (i + 1) ≡ suc i + 1 = omega arith in e)

module _ (p : ℕ) (fs : List First) (i : ℕ) (d : First) (r : Bool) where
  pub first_here : i < length fs → (get_or fs i d).place.0 ≡ p → traced.is_first p (map blank (drop i fs)) ≡ r → true ≡ r
  unfolding traced.is_first
  first_here h e k = sym (ap (λ (t : Bool). t || traced.is_first p (map blank (drop (i + 1) fs))) (is_same p (get_or fs i d).place.0 (sym e))) ∙ sym (ap (λ (l : List First). traced.is_first p (map blank l)) (drop_one fs i d h)) ∙ k

  pub first_past : i < length fs → (get_or fs i d).place.0 ≢ p → traced.is_first p (map blank (drop i fs)) ≡ r → traced.is_first p (map blank (drop (i + 1) fs)) ≡ r
  unfolding traced.is_first
  first_past h e k = sym (ap (λ (t : Bool). t || traced.is_first p (map blank (drop (i + 1) fs))) (not_same p (get_or fs i d).place.0 (λ q. e (sym q)))) ∙ sym (ap (λ (l : List First). traced.is_first p (map blank l)) (drop_one fs i d h)) ∙ k

pub first_none : (p : ℕ) (fs : List First) (i : ℕ) (r : Bool) → length fs ≤ i → traced.is_first p (map blank (drop i fs)) ≡ r → false ≡ r
unfolding traced.is_first
first_none p fs i r h k = sym (ap (λ (l : List First). traced.is_first p (map blank l)) (drop_past fs i h)) ∙ k

module _ (p t : ℕ) (fs : List First) (i : ℕ) (d : First) (old r : List traced.Choice) where
  pub letter_here : i < length fs → t ≡ (get_or fs i d).ty.0 → old ++ traced.letters p t i (map blank (drop i fs)) ≡ r
      → (old ++ record { outcome = Object i; atoms = same (at p) (at (get_or fs i d).place.0) ∷ [] } ∷ []) ++ traced.letters p t (i + 1) (map blank (drop (i + 1) fs)) ≡ r
  unfolding traced.letters
  letter_here h e k =
      let next : suc i ≡ i + 1 = omega arith in
      let c : traced.Choice = record { outcome = Object i; atoms = same (at p) (at (get_or fs i d).place.0) ∷ [] } in
      append_assoc old (c ∷ []) (traced.letters p t (i + 1) (map blank (drop (i + 1) fs)))
      ∙ ap (λ (n : ℕ). old ++ c ∷ traced.letters p t n (map blank (drop (i + 1) fs))) (sym next)
      ∙ sym (ap (λ (b : Bool). old ++ (if b then c ∷ traced.letters p t (suc i) (map blank (drop (i + 1) fs)) else traced.letters p t (suc i) (map blank (drop (i + 1) fs)))) (is_same t (get_or fs i d).ty.0 e))
      ∙ sym (ap (λ (l : List First). old ++ traced.letters p t i (map blank l)) (drop_one fs i d h)) ∙ k

  pub letter_past : i < length fs → t ≢ (get_or fs i d).ty.0 → old ++ traced.letters p t i (map blank (drop i fs)) ≡ r → old ++ traced.letters p t (i + 1) (map blank (drop (i + 1) fs)) ≡ r
  unfolding traced.letters
  letter_past h e k =
      let next : suc i ≡ i + 1 = omega arith in
      let c : traced.Choice = record { outcome = Object i; atoms = same (at p) (at (get_or fs i d).place.0) ∷ [] } in
      ap (λ (n : ℕ). old ++ traced.letters p t n (map blank (drop (i + 1) fs))) (sym next)
      ∙ sym (ap (λ (b : Bool). old ++ (if b then c ∷ traced.letters p t (suc i) (map blank (drop (i + 1) fs)) else traced.letters p t (suc i) (map blank (drop (i + 1) fs)))) (not_same t (get_or fs i d).ty.0 e))
      ∙ sym (ap (λ (l : List First). old ++ traced.letters p t i (map blank l)) (drop_one fs i d h)) ∙ k

  pub letters_done : length fs ≤ i → old ++ traced.letters p t i (map blank (drop i fs)) ≡ r → old ≡ r
  unfolding traced.letters
  letters_done h k = sym (append-nil old) ∙ sym (ap (λ (l : List First). old ++ traced.letters p t i (map blank l)) (drop_past fs i h)) ∙ k

module _ (p t : ℕ) (fs : List First) (i : ℕ) (d : First) (old r : List Atom) where
  pub atom_here : i < length fs → t ≡ (get_or fs i d).ty.0 → old ++ traced.differs p t (map blank (drop i fs)) ≡ r
      → (old ++ differ (at p) (at (get_or fs i d).place.0) ∷ []) ++ traced.differs p t (map blank (drop (i + 1) fs)) ≡ r
  unfolding traced.differs
  atom_here h e k =
      let c : Atom = differ (at p) (at (get_or fs i d).place.0) in
      append_assoc old (c ∷ []) (traced.differs p t (map blank (drop (i + 1) fs)))
      ∙ sym (ap (λ (b : Bool). old ++ (if b then c ∷ traced.differs p t (map blank (drop (i + 1) fs)) else traced.differs p t (map blank (drop (i + 1) fs)))) (is_same t (get_or fs i d).ty.0 e))
      ∙ sym (ap (λ (l : List First). old ++ traced.differs p t (map blank l)) (drop_one fs i d h)) ∙ k

  pub atom_past : i < length fs → t ≢ (get_or fs i d).ty.0 → old ++ traced.differs p t (map blank (drop i fs)) ≡ r → old ++ traced.differs p t (map blank (drop (i + 1) fs)) ≡ r
  unfolding traced.differs
  atom_past h e k =
      let c : Atom = differ (at p) (at (get_or fs i d).place.0) in
      sym (ap (λ (b : Bool). old ++ (if b then c ∷ traced.differs p t (map blank (drop (i + 1) fs)) else traced.differs p t (map blank (drop (i + 1) fs)))) (not_same t (get_or fs i d).ty.0 e))
      ∙ sym (ap (λ (l : List First). old ++ traced.differs p t (map blank l)) (drop_one fs i d h)) ∙ k

  pub atoms_done : length fs ≤ i → old ++ traced.differs p t (map blank (drop i fs)) ≡ r → old ≡ r
  unfolding traced.differs
  atoms_done h k = sym (append-nil old) ∙ sym (ap (λ (l : List First). old ++ traced.differs p t (map blank l)) (drop_past fs i h)) ∙ k
