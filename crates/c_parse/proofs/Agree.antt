-- Two lists of tokens that agree before K: the descent gives the same over both, or is behind K in both.
-- The levels that fit in the one fit in the other, and from D on only these do.
use Rattle.std.proofs.Common.{◌≡◌, ℕ, ◌≤◌, ◌<◌, Bool, true, false, Option, Some, None, nat_lt, if◌then◌else◌, refl, ap, arith}
use Rattle.std.proofs.lemmas.Bool.Decides.{nat_tests}
use Rattle.cc_model.specs.declared.tokens.Kind.{Kind}
use Rattle.cc_model.specs.declared.tokens.Punct.{Punct}
use Rattle.cc_model.specs.declared.tokens.Keyword.{Keyword}
use Rattle.cc_model.specs.Spots.{Spot, passed, closed}
use Rattle.c_expressions.specs.Descent.{Fault, bad, deep, Got, got, failed, spent, P, go_on, ◌>>=◌, ◌>>◌, pure, leave, out, is_sign, is_key, is_name, on_some}
use Rattle.c_expressions.specs.Descent as of
use Rattle.c_expressions.proofs.Made.{Made}
use Rattle.c_expressions.proofs.Viable.{Tokens, Fits, Piece, Verdict, place}

-- it ends, or fails, at K or behind it
abbrev pub Behind : {A : Type 0} → ℕ → Got A → Type 0
Behind K (got a t) = K ≤ t.at
Behind K (failed f) = K ≤ place f
Behind K spent = Unit {0}

-- what comes of the one list and of the other; the one may be too deep before D
pub data Alike {A : Type 0} (K D : ℕ) : Got A → Got A → Type 0 where
  equal : {r : Got A} → Alike K D r r
  behind : {r q : Got A} → Behind K r → Behind K q → Alike K D r q
  early : {i : ℕ} {q : Got A} → i < D → Alike K D (failed (deep i)) q
  spent_one : {q : Got A} → Alike K D spent q
  spent_two : {r : Got A} → Alike K D r spent

-- the same of a piece that begins at s
abbrev pub Local : {A : Type 0} → ℕ → ℕ → Spot → Got A → Got A → Type 0
Local K D s r q = Alike K D r q × (K ≤ s.at → Behind K r × Behind K q)

pub record Agree (K D : ℕ) (tok tok' : Tokens) (fits fits' : Fits) : Type 0 where
  pub same : (i : ℕ) → i < K → tok' i ≡ tok i
  pub keeps : (i d : ℕ) → i < K → fits i d ≡ true → fits' i d ≡ true
  pub fails : (i d : ℕ) → D ≤ i → i < K → fits i d ≡ false → fits' i d ≡ false

-- a list agrees with itself
pub itself : (K D : ℕ) (tok : Tokens) (fits : Fits) → Agree K D tok tok fits fits
itself K D tok fits = record { same = λ i h. refl; keeps = λ i d h e. e; fails = λ i d a h e. e }

-- before K, or not
pub before : (K : ℕ) (Q : Type 0) (i : ℕ) → (i < K → Q) → (K ≤ i → Q) → Q
before K Q i f g = go (nat_lt i K) refl
  where
    go : (b : Bool) → nat_lt i K ≡ b → Q
    go true e = f (grind (arith, nat_tests))
    go false e = g (grind (arith, nat_tests))

pub behind_wide : {A : Type 0} (K n : ℕ) (r : Got A) → K ≤ n → Behind n r → Behind K r
behind_wide K n (got a t) h k = omega arith
behind_wide K n (failed f) h k = omega arith
behind_wide K n spent h k = tt

pub behind_of : {A : Type 0} (tok : ℕ → Option Kind) (fits : ℕ → ℕ → Bool) (R : Piece A) (s : Spot) (q : Got A) → Verdict R tok fits s q → Behind s.at q
behind_of tok fits R s (got a t) h = R.on tok fits s t a h
behind_of tok fits R s (failed f) h = h.1
behind_of tok fits R s spent h = tt

pub behind_on : {A B : Type 0} (K : ℕ) (r : Got A) (f : A → P B) → Behind K r → ((a : A) (t : Spot) → K ≤ t.at → Behind K (f a t)) → Behind K (go_on r f)
unfolding go_on
behind_on K (got a t) f h k = k a t h
behind_on K (failed x) f h k = h
behind_on K spent f h k = tt

pub alike_is : {A : Type 0} (K D : ℕ) (r q : Got A) → q ≡ r → Alike K D r q
alike_is K D r q e = rw e equal

-- a piece that looks at its first token
pub local_split : {A : Type 0} (K D : ℕ) (s : Spot) (r q : Got A) → (s.at < K → Alike K D r q) → (K ≤ s.at → Behind K r × Behind K q) → Local K D s r q
local_split K D s r q h k = (before K (Alike K D r q) s.at h (λ l. behind (k l).0 (k l).1), k)

pub local_at : {A : Type 0} (K D : ℕ) (s : Spot) (r q : Got A) → (s.at < K → Alike K D r q) → Behind s.at r → Behind s.at q → Local K D s r q
local_at K D s r q h x y = local_split K D s r q h (λ k. (behind_wide K s.at r k x, behind_wide K s.at q k y))

-- the rest is alike wherever the first part can end
module _ {A B : Type 0} (K D : ℕ) (E : A → Spot → Type 0) (f g : A → P B) (rest : (a : A) (t : Spot) → E a t → Local K D t (f a t) (g a t)) where
  first_behind : (r : Got A) → Made E r → Behind K r → Behind K (go_on r f)
  unfolding go_on
  first_behind (got a t) e h = ((rest a t e).1 h).0
  first_behind (failed x) e h = h
  first_behind spent e h = h

  second_behind : (r : Got A) → Made E r → Behind K r → Behind K (go_on r g)
  unfolding go_on
  second_behind (got a t) e h = ((rest a t e).1 h).1
  second_behind (failed x) e h = h
  second_behind spent e h = h

  on_same : (r : Got A) → Made E r → Alike K D (go_on r f) (go_on r g)
  unfolding go_on
  on_same (got a t) e = (rest a t e).0
  on_same (failed x) e = equal
  on_same spent e = equal

  on_alike : (r q : Got A) → Made E r → Made E q → Alike K D r q → Alike K D (go_on r f) (go_on q g)
  unfolding go_on
  on_alike r _ e x equal = on_same r e
  on_alike r q e x (behind h k) = behind (first_behind r e h) (second_behind q x k)
  on_alike _ q e x (early l) = early l
  on_alike _ q e x spent_one = spent_one
  on_alike r _ e x spent_two = spent_two

  pub local_made : (s : Spot) (m k : P A) → Made E (m s) → Made E (k s) → Local K D s (m s) (k s) → Local K D s ((m >>= f) s) ((k >>= g) s)
  unfolding ◌>>=◌
  local_made s m k e x h = (on_alike (m s) (k s) e x h.0, λ l. (first_behind (m s) e (h.1 l).0, second_behind (k s) x (h.1 l).1))

pub ends_on : {A : Type 0} (n : ℕ) (r : Got A) → Behind n r → Made (λ _ t. n ≤ t.at) r
ends_on n (got a t) h = h
ends_on n (failed f) h = tt
ends_on n spent h = tt

ends_any : {A : Type 0} (r : Got A) → Made (λ _ _. Unit {0}) r
ends_any (got a t) = tt
ends_any (failed f) = tt
ends_any spent = tt

pub local_bind : {A B : Type 0} (K D : ℕ) (f g : A → P B) → ((a : A) (t : Spot) → Local K D t (f a t) (g a t)) → (s : Spot) (m k : P A) → Local K D s (m s) (k s) → Local K D s ((m >>= f) s) ((k >>= g) s)
local_bind K D f g rest s m k h = local_made K D (λ _ _. Unit {0}) f g (λ a t _. rest a t) s m k (ends_any (m s)) (ends_any (k s)) h

pub local_then : {B : Type 0} (K D : ℕ) (s : Spot) (m k : P (Unit {0})) (f g : P B) → Local K D s (m s) (k s) → ((t : Spot) → Local K D t (f t) (g t)) → Local K D s ((m >> f) s) ((k >> g) s)
unfolding ◌>>◌
local_then K D s m k f g h rest = local_bind K D (λ _. f) (λ _. g) (λ _ t. rest t) s m k h

pub pure_local : {A : Type 0} (K D : ℕ) (a : A) (s : Spot) → Local K D s (pure a s) (pure a s)
unfolding pure
pure_local K D a s = (equal, λ k. (k, k))

pub leave_local : {A : Type 0} (K D n : ℕ) (a : A) (s : Spot) → Local K D s (leave n a s) (leave n a s)
unfolding leave
leave_local K D n a s = (equal, λ k. (k, k))

pub bad_local : {A : Type 0} (K D : ℕ) (s : Spot) → Local {A = A} K D s (failed (bad s.at)) (failed (bad s.at))
bad_local K D s = (equal, λ k. (k, k))

-- ---- tests

pub if_behind : {A : Type 0} (K : ℕ) (b : Bool) (x y : Got A) → Behind K x → Behind K y → Behind K (if b then x else y)
if_behind K true x y h k = h
if_behind K false x y h k = k

pub alike_if : {A : Type 0} (K D : ℕ) (b c : Bool) (x y u v : Got A) → c ≡ b → Alike K D x u → Alike K D y v → Alike K D (if b then x else y) (if c then u else v)
alike_if K D true c x y u v e h k = rw e h
alike_if K D false c x y u v e h k = rw e k

pub local_if : {A : Type 0} (K D : ℕ) (s : Spot) (c : Bool) (x y u v : Got A) → Local K D s x u → Local K D s y v → Local K D s (if c then x else y) (if c then u else v)
local_if K D s true x y u v h k = h
local_if K D s false x y u v h k = k

pub alike_some : {A B : Type 0} (K D : ℕ) (o q : Option A) (f g : A → Got B) (y v : Got B) → q ≡ o → ((a : A) → Alike K D (f a) (g a)) → Alike K D y v → Alike K D (on_some o f y) (on_some q g v)
unfolding on_some
alike_some K D (Some a) q f g y v e h k = rw e (h a)
alike_some K D None q f g y v e h k = rw e k

-- ---- tokens

module _ (K D : ℕ) (tok tok' : ℕ → Option Kind) (fits fits' : ℕ → ℕ → Bool) (agree : Agree K D tok tok' fits fits') where
  -- whether the level fits
  fit_alike : (i d : ℕ) (t : Spot) → i < K → (b : Bool) → fits i d ≡ b → Alike {A = Unit {0}} K D (if b then got tt t else failed (deep i)) (if fits' i d then got tt t else failed (deep i))
  fit_alike i d t h true e = rw (agree.keeps i d h e) equal
  fit_alike i d t h false e = before D (Alike K D (failed (deep i)) (if fits' i d then got tt t else failed (deep i))) i (λ l. early l) (λ l. rw (agree.fails i d l h e) equal)

  fit_behind : (i : ℕ) (t : Spot) → K ≤ i → i ≤ t.at → (b : Bool) → Behind {A = Unit {0}} K (if b then got tt t else failed (deep i))
  fit_behind i t h o true = omega arith
  fit_behind i t h o false = h

  fit_local : (s : Spot) (d : ℕ) (t : Spot) → s.at ≤ t.at → Local {A = Unit {0}} K D s (if fits s.at d then got tt t else failed (deep s.at)) (if fits' s.at d then got tt t else failed (deep s.at))
  fit_local s d t o = local_split K D s _ _ (λ h. fit_alike s.at d t h (fits s.at d) refl) (λ k. (fit_behind s.at t k o (fits s.at d), fit_behind s.at t k o (fits' s.at d)))

  pub take_local : (next : Spot → Spot) (s : Spot) → s.at ≤ (next s).at → Local K D s (of.take tok fits next s) (of.take tok' fits' next s)
  unfolding of.take
  take_local next s h = fit_local s s.level (next s) h

  -- a token that is needed, by its test
  needed : (b c : Bool) (s : Spot) (d : ℕ) (t : Spot) → (s.at < K → c ≡ b) → s.at ≤ t.at →
      Local {A = Unit {0}} K D s (if b then (if fits s.at d then got tt t else failed (deep s.at)) else failed (bad s.at)) (if c then (if fits' s.at d then got tt t else failed (deep s.at)) else failed (bad s.at))
  needed b c s d t e h = local_split K D s _ _ (λ k. alike_if K D b c _ _ _ _ (e k) ((fit_local s d t h).0) equal)
      (λ k. (if_behind K b _ _ (((fit_local s d t h).1 k).0) k, if_behind K c _ _ (((fit_local s d t h).1 k).1) k))

  pub sign_local : (p : Punct) (next : Spot → Spot) (s : Spot) → s.at ≤ (next s).at → Local K D s (of.expect tok fits p next s) (of.expect tok' fits' p next s)
  unfolding of.expect of.take
  sign_local p next s h = needed (is_sign p (tok s.at)) (is_sign p (tok' s.at)) s s.level (next s) (λ k. ap (is_sign p) (agree.same s.at k)) h

  pub word_local : (w : Keyword) (s : Spot) → Local K D s (of.expect_key tok fits w s) (of.expect_key tok' fits' w s)
  unfolding of.expect_key of.take
  word_local w s = needed (is_key w (tok s.at)) (is_key w (tok' s.at)) s s.level (passed s) (λ k. ap (is_key w) (agree.same s.at k)) (omega arith)

  pub name_local : (s : Spot) → Local K D s (of.expect_name tok fits s) (of.expect_name tok' fits' s)
  unfolding of.expect_name of.take
  name_local s = needed (is_name (tok s.at)) (is_name (tok' s.at)) s s.level (passed s) (λ k. ap is_name (agree.same s.at k)) (omega arith)

  pub close_local : (p : Punct) (n : ℕ) (s : Spot) → Local K D s (of.close tok fits p n s) (of.close tok' fits' p n s)
  unfolding of.close of.expect of.take
  close_local p n s = needed (is_sign p (tok s.at)) (is_sign p (tok' s.at)) s n (closed s n) (λ k. ap (is_sign p) (agree.same s.at k)) (omega arith)
