-- The walk through a list for a place.
use Rattle.std.proofs.Common.{◌≡◌, ◌∙◌, sym, ap, subst, arith, ℕ, suc, ◌+◌, ◌<◌, ◌≤◌, Bool, true, false, ◌||◌, inl, inr, nat_eq, List, [], ◌∷◌, length, drop, get_or, All}
use Rattle.std.proofs.lemmas.List.{drop_more, drop_all}
use borrow.Author.Tests.{eqb-true, eq-eqb}
use Rattle.cc_base.specs.Groups.{contains}
use Rattle.linear_solver.proofs.Integers.{bool_cases}
use Rattle.linear_solver.proofs.Tidied.{or_true}

pub found_here : (l : List ℕ) (k x : ℕ) (w : Bool) → k < length l → get_or l k 0 ≡ x → contains (drop k l) x ≡ w → true ≡ w
unfolding contains
found_here l k x w h e f =
    let s : nat_eq x (get_or l k 0) ≡ true = eq-eqb x (get_or l k 0) (sym e) in
    sym (ap (λ (b : Bool). b || contains (drop (k + 1) l) x) s) ∙ sym (ap (λ (m : List ℕ). contains m x) (drop_more l k 0 h)) ∙ f

pub not_here : (l : List ℕ) (k x : ℕ) (w : Bool) → k < length l → (get_or l k 0 ≡ x → ⊥) → contains (drop k l) x ≡ w → contains (drop (k + 1) l) x ≡ w
unfolding contains
not_here l k x w h n f = elim (bool_cases (nat_eq x (get_or l k 0))) [
  | inl t ↦ absurd (n (sym (eqb-true x (get_or l k 0) t)))
  | inr t ↦ sym (ap (λ (b : Bool). b || contains (drop (k + 1) l) x) t) ∙ sym (ap (λ (m : List ℕ). contains m x) (drop_more l k 0 h)) ∙ f
]

pub none_left : (l : List ℕ) (k x : ℕ) (w : Bool) → length l ≤ k → contains (drop k l) x ≡ w → false ≡ w
unfolding contains
none_left l k x w h f = sym (ap (λ (m : List ℕ). contains m x) (drop_all k l h)) ∙ f

pub all_member : (P : ℕ → Type 0) (l : List ℕ) (x : ℕ) → All P l → contains l x ≡ true → P x
unfolding contains
all_member P [] x a h = absurd (cc h)
all_member P (y ∷ l) x a h = elim (or_true (nat_eq x y) (contains l x) h) [
  | inl e ↦ subst P (sym (eqb-true x y e)) (a 0 y (omega arith))
  | inr e ↦ all_member P l x (λ k d m. a (suc k) d (omega arith)) e
]
