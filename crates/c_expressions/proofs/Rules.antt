-- How the pieces of the descent go one after another.
use Rattle.std.proofs.Common.{◌≡◌, ℕ, zero, suc, ◌+◌, ◌≤◌, refl, sym, ap, ◌∙◌, arith}
use Rattle.cc_model.specs.Spots.{Spot, back}
use Rattle.c_expressions.specs.Descent.{Fault, Got, got, failed, spent, P, go_on, ◌>>=◌, ◌>>◌, pure, leave, Ends}

-- one more unit of fuel
pub ends_suc : {A : Type 0} {s : Spot} {r : Got A} (f g : ℕ → P A) → ((m : ℕ) → f (suc m) s ≡ g m s) → Ends g s r → Ends f s r
ends_suc {A} {s} {r} f g e h = (suc h.0, go)
  where
    go : (m : ℕ) → suc h.0 ≤ m → f m s ≡ r
    go zero k = absurd (omega arith)
    go (suc m) k = e m ∙ h.1 m (omega arith)

pub ends_now : {A : Type 0} {s : Spot} {r : Got A} (f : P A) → f s ≡ r → Ends (λ _. f) s r
ends_now f e = (0, λ _ _. e)

pub ends_bind : {A B : Type 0} {s t : Spot} {a : A} {r : Got B} (f : ℕ → P A) (g : ℕ → A → P B) →
    Ends f s (got a t) → Ends (λ m. g m a) t r → Ends (λ m. f m >>= g m) s r
unfolding ◌>>=◌ go_on
ends_bind f g p q = (p.0 + q.0, λ m h. ap (λ x. go_on x (g m)) (p.1 m (omega arith)) ∙ q.1 m (omega arith))

pub ends_fail : {A B : Type 0} {s : Spot} {e : Fault} (f : ℕ → P A) (g : ℕ → A → P B) →
    Ends f s (failed e) → Ends (λ m. f m >>= g m) s (failed e)
unfolding ◌>>=◌ go_on
ends_fail f g p = (p.0, λ m h. ap (λ x. go_on x (g m)) (p.1 m h))

-- a token first
pub ends_then : {A B : Type 0} {s t : Spot} {a : A} {r : Got B} (f : P A) (g : ℕ → P B) →
    f s ≡ got a t → Ends g t r → Ends (λ m. f >> g m) s r
unfolding ◌>>=◌ ◌>>◌ go_on
ends_then f g p q = (q.0, λ m h. ap (λ x. go_on x (λ _. g m)) p ∙ q.1 m h)

pub ends_pure : {A : Type 0} (a : A) (s : Spot) → Ends (λ _. pure a) s (got a s)
unfolding pure
ends_pure a s = (0, λ _ _. refl)

-- two answers of one piece are equal
pub ends_once : {A : Type 0} {s : Spot} {r q : Got A} (f : ℕ → P A) → Ends f s r → Ends f s q → r ≡ q
ends_once f p q = sym (p.1 (p.0 + q.0) (omega arith)) ∙ q.1 (p.0 + q.0) (omega arith)

pub ends_leave : {A : Type 0} (n : ℕ) (a : A) (s : Spot) → Ends (λ _. leave n a) s (got a (back s n))
unfolding leave
ends_leave n a s = (0, λ _ _. refl)

-- what comes of a piece that goes on with g where the first part gave q
abbrev pub After : {A B : Type 0} → Got A → (ℕ → A → P B) → Got B → Type 0
After (got a t) g r = Ends (λ m. g m a) t r
After (failed x) g r = r ≡ failed x
After spent g r = ⊥

pub ends_go : {A B : Type 0} {s : Spot} {r : Got B} (q : Got A) (f : ℕ → P A) (g : ℕ → A → P B) → Ends f s q → After q g r → Ends (λ m. f m >>= g m) s r
unfolding ◌>>=◌ go_on
ends_go (got a t) f g p h = (p.0 + h.0, λ m k. ap (λ x. go_on x (g m)) (p.1 m (omega arith)) ∙ h.1 m (omega arith))
ends_go (failed x) f g p h = (p.0, λ m k. ap (λ x. go_on x (g m)) (p.1 m k) ∙ sym h)
ends_go spent f g p h = absurd h

pub takes_go : {A B : Type 0} {s : Spot} {r : Got B} (q : Got A) (f : P A) (g : ℕ → P B) → f s ≡ q → After q (λ m _. g m) r → Ends (λ m. f >> g m) s r
unfolding ◌>>◌
takes_go q f g e h = ends_go q (λ _. f) (λ m _. g m) (0, λ _ _. e) h
