-- Trees follow the equalities of a list.
use Rattle.std.proofs.Common.{◌≡◌, ◌∙◌, ◌⊎◌, inl, inr, sym, ap, subst, refl, arith, ℕ, zero, suc, List, [], ◌∷◌, ◌++◌, length, get_or, slice_get, Some}
use Rattle.std.proofs.lemmas.Option.{same_Some}
use Rattle.cc_base.specs.Forms.{Side, nothing, at, Atom, same}
use Rattle.cc_base.specs.Classes.{Forced, stated, itself, turned, along}
use Rattle.pointer_solver.specs.Forest.{node, up, Joins, Agrees, Solves}

node_once : (a b : Side) → node a ≡ node b → a ≡ b
node_once nothing nothing e = refl
node_once nothing (at p) e = absurd (omega (arith, e))
node_once (at p) nothing e = absurd (omega (arith, e))
node_once (at p) (at q) e = ap at (let h : p ≡ q = omega (arith, e) in h)

pub get_front : (xs ys : List Atom) (k : ℕ) (x : Atom) → slice_get xs k ≡ Some x → slice_get (xs ++ ys) k ≡ Some x
get_front [] ys k x e = absurd (cc e)
get_front (y ∷ xs) ys zero x e = e
get_front (y ∷ xs) ys (suc k) x e = get_front xs ys k x e

pub get_last : (l : List Atom) (a : Atom) → slice_get (l ++ a ∷ []) (length l) ≡ Some a
get_last [] a = refl
get_last (x ∷ l) a = get_last l a

get_push_cases : (l : List Atom) (p q : Atom) (k : ℕ) → slice_get (l ++ p ∷ []) k ≡ Some q → (slice_get l k ≡ Some q) ⊎ ((k ≡ length l) × (p ≡ q))
get_push_cases [] p q zero e = inr (refl, same_Some p q e)
get_push_cases [] p q (suc k) e = absurd (cc e)
get_push_cases (x ∷ l) p q zero e = inl e
get_push_cases (x ∷ l) p q (suc k) e = elim (get_push_cases l p q k e) [ inl f ↦ inl f | inr f ↦ inr (ap suc f.0, f.1) ]

-- more atoms force no less
weaker : (l m : List Atom) (a b : Side) → Forced l a b → Forced (l ++ m) a b
weaker l m _ _ (stated k a b e) = stated k a b (get_front l m k (same a b) e)
weaker l m _ _ (itself a) = itself a
weaker l m _ _ (turned a b f) = turned a b (weaker l m a b f)
weaker l m _ _ (along a b c f g) = along a b c (weaker l m a b f) (weaker l m b c g)

-- ---- an equality more

module _ (l : List Atom) (a b : Side) (old new : ℕ → ℕ) (h : Agrees old l) (j : Joins old new (node a) (node b)) where
  joint : (x y : Side) → Forced (l ++ same a b ∷ []) x y → new (node x) ≡ new (node y)
  joint _ _ (stated k x y e) = elim (get_push_cases l (same a b) (same x y) k e) [
    | inl f ↦ j.kept (node x) (node y) ((h x y).1 (stated k x y f))
    | inr f ↦ let p : a ≡ x = cc f.1 in let q : b ≡ y = cc f.1 in sym (ap (λ (s : Side). new (node s)) p) ∙ j.joined ∙ ap (λ (s : Side). new (node s)) q
  ]
  joint _ _ (itself x) = refl
  joint _ _ (turned x y f) = sym (joint x y f)
  joint _ _ (along x y z f g) = joint x y f ∙ joint y z g

  forced : (x y : Side) → new (node x) ≡ new (node y) → Forced (l ++ same a b ∷ []) x y
  forced x y e =
      let s : Forced (l ++ same a b ∷ []) a b = stated (length l) a b (get_last l (same a b)) in
      elim (j.only (node x) (node y) e) [
        | inl i ↦ weaker l (same a b ∷ []) x y ((h x y).0 i)
        | inr k ↦ elim k [
          | inl i ↦ along x a y (weaker l (same a b ∷ []) x a ((h x a).0 i.0)) (along a b y s (turned y b (weaker l (same a b ∷ []) y b ((h y b).0 i.1))))
          | inr i ↦ along x b y (weaker l (same a b ∷ []) x b ((h x b).0 i.0)) (along b a y (turned a b s) (turned y a (weaker l (same a b ∷ []) y a ((h y a).0 i.1))))
        ]
      ]

  pub Agrees-same : Agrees new (l ++ same a b ∷ [])
  Agrees-same = λ x y. (forced x y, joint x y)

-- ---- another atom more

other : (l : List Atom) (c : Atom) → ((x y : Side) → c ≡ same x y → ⊥) → (x y : Side) → Forced (l ++ c ∷ []) x y → Forced l x y
other l c n _ _ (stated k x y e) = elim (get_push_cases l c (same x y) k e) [ inl f ↦ stated k x y f | inr f ↦ absurd (n x y f.1) ]
other l c n _ _ (itself x) = itself x
other l c n _ _ (turned x y f) = turned x y (other l c n x y f)
other l c n _ _ (along x y z f g) = along x y z (other l c n x y f) (other l c n y z g)

pub Solves-other : (p : List ℕ) (l : List Atom) (c : Atom) → ((x y : Side) → c ≡ same x y → ⊥) → Solves p l → Solves p (l ++ c ∷ [])
Solves-other p l c n s = (s.0, s.1, λ x y. (λ e. weaker l (c ∷ []) x y ((s.2 x y).0 e), λ f. (s.2 x y).1 (other l c n x y f)))

-- ---- the start

none_forced : (x y : Side) → Forced [] x y → x ≡ y
none_forced _ _ (stated k x y e) = absurd (cc e)
none_forced _ _ (itself x) = refl
none_forced _ _ (turned x y f) = sym (none_forced x y f)
none_forced _ _ (along x y z f g) = none_forced x y f ∙ none_forced y z g

pub Solves-none : (p : List ℕ) → ((x : ℕ) → up p x ≡ x) → Solves p []
Solves-none p h = (
  λ x. x,
  record { step = h; fixed = λ x e. refl; top = h },
  λ x y. (λ e. subst (λ (s : Side). Forced [] x s) (node_once x y e) (itself x), λ f. ap node (none_forced x y f)),
)

-- ---- parents that are all roots
at_push : (p : List ℕ) (v x d : ℕ) → (get_or (p ++ v ∷ []) x d ≡ get_or p x d) ⊎ ((x ≡ length p) × (get_or (p ++ v ∷ []) x d ≡ v))
at_push [] v zero d = inr (refl, refl)
at_push [] v (suc x) d = inl refl
at_push (y ∷ p) v zero d = inl refl
at_push (y ∷ p) v (suc x) d = elim (at_push p v x d) [ inl e ↦ inl e | inr e ↦ inr (ap suc e.0, e.1) ]

pub up_push : (p q : List ℕ) (v : ℕ) → ((x : ℕ) → up p x ≡ x) → q ≡ p ++ v ∷ [] → v ≡ length p → (x : ℕ) → up q x ≡ x
up_push p q v h i e x = ap (λ (l : List ℕ). up l x) i ∙ elim (at_push p v x x) [ inl f ↦ f ∙ h x | inr f ↦ f.1 ∙ e ∙ sym f.0 ]
