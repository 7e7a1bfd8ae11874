-- Over two lists of tokens that agree up to a place, the descent gives the same, or is behind that place in both.
use Rattle.std.proofs.Common.{◌≡◌, ◌⊎◌, inl, inr, ℕ, ◌≤◌, ◌<◌, Bool, true, false, Option, Some, None, nat_lt, if◌then◌else◌, refl, ap, arith}
use Rattle.std.proofs.lemmas.Bool.Decides.{nat_tests}
use Rattle.cc_model.specs.declared.tokens.Kind.{Kind}
use Rattle.cc_model.specs.declared.tokens.Punct.{Punct}
use Rattle.cc_model.specs.declared.tokens.Keyword.{Keyword}
use Rattle.cc_model.specs.Spots.{Spot, passed, closed}
use Rattle.c_expressions.specs.Descent.{Fault, bad, deep, Got, got, failed, spent, P, go_on, ◌>>=◌, ◌>>◌, pure, leave, is_sign, is_key, is_name, on_some}
use Rattle.c_expressions.specs.Descent as of
use Rattle.c_expressions.proofs.Viable.{Piece, Verdict, place}

-- it ends, or fails, at K or behind it
abbrev pub Behind : {A : Type 0} → ℕ → Got A → Type 0
Behind K (got a t) = K ≤ t.at
Behind K (failed f) = K ≤ place f
Behind K spent = Unit {0}

-- what comes of the one list and of the other, in which any level fits
abbrev pub Alike : {A : Type 0} → ℕ → Got A → Got A → Type 0
Alike K (failed (deep i)) q = Unit {0}
Alike K r q = (q ≡ r) ⊎ (Behind K r × Behind K q)

-- the same of a piece that begins at s
abbrev pub Local : {A : Type 0} → ℕ → Spot → Got A → Got A → Type 0
Local K s r q = Alike K r q × (K ≤ s.at → Behind K r × Behind K q)

-- any level fits
abbrev pub any : ℕ → ℕ → Bool
any i level = true

pub behind_wide : {A : Type 0} (K n : ℕ) (r : Got A) → K ≤ n → Behind n r → Behind K r
behind_wide K n (got a t) h k = omega arith
behind_wide K n (failed f) h k = omega arith
behind_wide K n spent h k = tt

pub behind_of : {A : Type 0} (tok : ℕ → Option Kind) (fits : ℕ → ℕ → Bool) (R : Piece A) (s : Spot) (q : Got A) → Verdict R tok fits s q → Behind s.at q
behind_of tok fits R s (got a t) h = R.on tok fits s t a h
behind_of tok fits R s (failed f) h = h.1
behind_of tok fits R s spent h = tt

pub alike_same : {A : Type 0} (K : ℕ) (r q : Got A) → q ≡ r → Alike K r q
alike_same K (got a t) q e = inl e
alike_same K (failed (bad i)) q e = inl e
alike_same K (failed (deep i)) q e = tt
alike_same K spent q e = inl e

pub alike_behind : {A : Type 0} (K : ℕ) (r q : Got A) → Behind K r → Behind K q → Alike K r q
alike_behind K (got a t) q h k = inr (h, k)
alike_behind K (failed (bad i)) q h k = inr (h, k)
alike_behind K (failed (deep i)) q h k = tt
alike_behind K spent q h k = inr (h, k)

-- a piece that looks at its first token
pub local_at : {A : Type 0} (K : ℕ) (s : Spot) (r q : Got A) → (s.at < K → Alike K r q) → Behind s.at r → Behind s.at q → Local K s r q
local_at K s r q h x y = go (nat_lt s.at K) refl
  where
    go : (b : Bool) → nat_lt s.at K ≡ b → Local K s r q
    go true e = (h (grind (arith, nat_tests)), λ k. (behind_wide K s.at r k x, behind_wide K s.at q k y))
    go false e = let k : K ≤ s.at = grind (arith, nat_tests) in (alike_behind K r q (behind_wide K s.at r k x) (behind_wide K s.at q k y), λ k. (behind_wide K s.at r k x, behind_wide K s.at q k y))

module _ {A B : Type 0} (K : ℕ) (f g : A → P B) (rest : (a : A) (t : Spot) → Local K t (f a t) (g a t)) where
  first_behind : (r : Got A) → Behind K r → Behind K (go_on r f)
  unfolding go_on
  first_behind (got a t) h = ((rest a t).1 h).0
  first_behind (failed x) h = h
  first_behind spent h = tt

  second_behind : (r : Got A) → Behind K r → Behind K (go_on r g)
  unfolding go_on
  second_behind (got a t) h = ((rest a t).1 h).1
  second_behind (failed x) h = h
  second_behind spent h = tt

  on_alike : (r q : Got A) → Alike K r q → Alike K (go_on r f) (go_on q g)
  unfolding go_on
  on_alike (got a t) q (inl e) = rw e ((rest a t).0)
  on_alike (got a t) q (inr h) = alike_behind K (f a t) (go_on q g) (((rest a t).1 h.0).0) (second_behind q h.1)
  on_alike (failed (bad i)) q (inl e) = rw e (inl refl)
  on_alike (failed (bad i)) q (inr h) = inr (h.0, second_behind q h.1)
  on_alike (failed (deep i)) q h = tt
  on_alike spent q (inl e) = rw e (inl refl)
  on_alike spent q (inr h) = inr (tt, second_behind q h.1)

  pub local_bind : (s : Spot) (m k : P A) → Local K s (m s) (k s) → Local K s ((m >>= f) s) ((k >>= g) s)
  unfolding ◌>>=◌
  local_bind s m k h = (on_alike (m s) (k s) h.0, λ l. (first_behind (m s) (h.1 l).0, second_behind (k s) (h.1 l).1))

pub local_then : {B : Type 0} (K : ℕ) (s : Spot) (m k : P (Unit {0})) (f g : P B) → Local K s (m s) (k s) → ((t : Spot) → Local K t (f t) (g t)) → Local K s ((m >> f) s) ((k >> g) s)
unfolding ◌>>◌
local_then K s m k f g h rest = local_bind K (λ _. f) (λ _. g) (λ _ t. rest t) s m k h

pub local_if : {A : Type 0} (K : ℕ) (s : Spot) (c : Bool) (x y u v : Got A) → Local K s x u → Local K s y v → Local K s (if c then x else y) (if c then u else v)
local_if K s true x y u v h k = h
local_if K s false x y u v h k = k

pub local_some : {A B : Type 0} (K : ℕ) (s : Spot) (o : Option A) (f g : A → Got B) (y v : Got B) → ((a : A) → Local K s (f a) (g a)) → Local K s y v → Local K s (on_some o f y) (on_some o g v)
unfolding on_some
local_some K s (Some a) f g y v h k = h a
local_some K s None f g y v h k = k

pub pure_local : {A : Type 0} (K : ℕ) (a : A) (s : Spot) → Local K s (pure a s) (pure a s)
unfolding pure
pure_local K a s = (inl refl, λ k. (k, k))

pub leave_local : {A : Type 0} (K n : ℕ) (a : A) (s : Spot) → Local K s (leave n a s) (leave n a s)
unfolding leave
leave_local K n a s = (inl refl, λ k. (k, k))

pub bad_local : {A : Type 0} (K : ℕ) (s : Spot) → Local {A = A} K s (failed (bad s.at)) (failed (bad s.at))
bad_local K s = (inl refl, λ k. (k, k))

module _ (K : ℕ) (tok tok' : ℕ → Option Kind) (fits : ℕ → ℕ → Bool) (same : (i : ℕ) → i < K → tok' i ≡ tok i) where
  taken : (b : Bool) (s t u : Spot) → s.at ≤ t.at → u.at ≡ s.at → Local {A = Unit {0}} K u (if b then got tt t else failed (deep s.at)) (got tt t)
  taken true s t u h e = (inl refl, λ k. (omega arith, omega arith))
  taken false s t u h e = (tt, λ k. (omega arith, omega arith))

  pub take_local : (next : Spot → Spot) (s : Spot) → s.at ≤ (next s).at → Local K s (of.take tok fits next s) (of.take tok' any next s)
  unfolding of.take
  take_local next s h = taken (fits s.at s.level) s (next s) s h refl

  -- a token that is needed, by its test
  needed : (b c : Bool) (s t : Spot) (x : Bool) → (s.at < K → c ≡ b) → s.at ≤ t.at →
      Local {A = Unit {0}} K s (if b then (if x then got tt t else failed (deep s.at)) else failed (bad s.at)) (if c then got tt t else failed (bad s.at))
  needed b c s t x e h = local_at K s _ _ (λ k. rw (e k) (both b)) (first b) (second c)
    where
      both : (b : Bool) → Alike {A = Unit {0}} K (if b then (if x then got tt t else failed (deep s.at)) else failed (bad s.at)) (if b then got tt t else failed (bad s.at))
      both true = (taken x s t s h refl).0
      both false = inl refl

      first : (b : Bool) → Behind {A = Unit {0}} s.at (if b then (if x then got tt t else failed (deep s.at)) else failed (bad s.at))
      first true = inner x
        where
          inner : (x : Bool) → Behind {A = Unit {0}} s.at (if x then got tt t else failed (deep s.at))
          inner true = h
          inner false = omega arith
      first false = omega arith

      second : (c : Bool) → Behind {A = Unit {0}} s.at (if c then got tt t else failed (bad s.at))
      second true = h
      second false = omega arith

  pub sign_local : (p : Punct) (next : Spot → Spot) (s : Spot) → s.at ≤ (next s).at → Local K s (of.expect tok fits p next s) (of.expect tok' any p next s)
  unfolding of.expect of.take
  sign_local p next s h = needed (is_sign p (tok s.at)) (is_sign p (tok' s.at)) s (next s) (fits s.at s.level) (λ k. ap (is_sign p) (same s.at k)) h

  pub word_local : (w : Keyword) (s : Spot) → Local K s (of.expect_key tok fits w s) (of.expect_key tok' any w s)
  unfolding of.expect_key of.take
  word_local w s = needed (is_key w (tok s.at)) (is_key w (tok' s.at)) s (passed s) (fits s.at s.level) (λ k. ap (is_key w) (same s.at k)) (omega arith)

  pub name_local : (s : Spot) → Local K s (of.expect_name tok fits s) (of.expect_name tok' any s)
  unfolding of.expect_name of.take
  name_local s = needed (is_name (tok s.at)) (is_name (tok' s.at)) s (passed s) (fits s.at s.level) (λ k. ap is_name (same s.at k)) (omega arith)

  pub close_local : (p : Punct) (n : ℕ) (s : Spot) → Local K s (of.close tok fits p n s) (of.close tok' any p n s)
  unfolding of.close of.expect of.take
  close_local p n s = needed (is_sign p (tok s.at)) (is_sign p (tok' s.at)) s (closed s n) (fits s.at n) (λ k. ap (is_sign p) (same s.at k)) (omega arith)
