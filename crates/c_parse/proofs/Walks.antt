-- Behind `(` and a name, both readings of the stars that follow, as a cast and as an expression,
-- take the same tokens at the same levels.
use Rattle.std.proofs.Common.{◌≡◌, ◌⊎◌, inl, inr, ℕ, zero, suc, ◌+◌, ◌≤◌, ◌<◌, Bool, true, false, List, [], ◌∷◌, length, Option, Some, if◌then◌else◌, refl, ap, arith}
use Rattle.cc_model.specs.declared.tokens.Kind.{Kind}
use Rattle.cc_model.specs.declared.tokens.Kind.TheVariants as kind
use Rattle.cc_model.specs.declared.tokens.Punct.{Punct}
use Rattle.cc_model.specs.declared.tokens.Punct.TheVariants as punct
use Rattle.cc_model.specs.declared.trees.Base.{Base}
use Rattle.cc_model.specs.declared.trees.TypeName.{TypeName}
use Rattle.cc_model.specs.declared.trees.Expr.{Expr}
use Rattle.cc_model.specs.declared.trees.Expr.TheVariants as tree
use Rattle.cc_model.specs.Spots.{Spot, opened, passed}
use Rattle.cc_model.specs.ReadExpressions.{with_first}
use Rattle.c_expressions.specs.Descent.{Fault, bad, deep, Got, got, failed, spent, P, go_on, ◌>>=◌, ◌>>◌, pure, leave, out, is_sign, binary_at, prefix_at, field_at, of_rank, on_some, Start, a_name, start_at, base_at}
use Rattle.c_expressions.specs.Descent as of
use Rattle.c_expressions.proofs.Viable.{Peeks, close_token, close_verdict}
use Rattle.c_expressions.proofs.ViableExpressions.{base, stars, allocated, chain, tail, more, named, base_verdict, stars_verdict, allocated_verdict, casts_peek, chain_verdict, tail_verdict, unary_verdict, more_verdict, named_verdict}
use Rattle.c_parse.proofs.Agree.{Behind, Alike, equal, behind, early, spent_one, spent_two, Agree, before, behind_wide, behind_of, behind_on}

-- a token that stays open, or does not
abbrev pub step : Bool → Spot → Spot
step true s = opened s
step false s = passed s

-- m tokens that stay open
abbrev pub rep : ℕ → List Bool
rep zero = []
rep (suc m) = true ∷ rep m

module _ (K : ℕ) (tok : ℕ → Option Kind) (fits : ℕ → ℕ → Bool) where
  -- the tokens on the way p from u on are taken, up to the first one that is too deep; else it is behind K
  abbrev pub Walks : {A : Type 0} → List Bool → Spot → Got A → Type 0
  Walks [] u r = Behind K r
  Walks (b ∷ p) u r = (fits u.at u.level ≡ true → Walks p (step b u) r) × (fits u.at u.level ≡ false → (r ≡ failed (deep u.at)) ⊎ (r ≡ spent))

  pub walks_spent : (A : Type 0) (p : List Bool) (u : Spot) → Walks {A = A} p u spent
  walks_spent A [] u = tt
  walks_spent A (b ∷ p) u = (λ _. walks_spent A p (step b u), λ _. inr refl)

  stopped : {A B : Type 0} (i : ℕ) (r : Got A) (f : A → P B) → (r ≡ failed (deep i)) ⊎ (r ≡ spent) → (go_on r f ≡ failed (deep i)) ⊎ (go_on r f ≡ spent)
  unfolding go_on
  stopped i r f (inl e) = rw e (inl refl)
  stopped i r f (inr e) = rw e (inr refl)

  pub walks_on : {A B : Type 0} (p : List Bool) (u : Spot) (r : Got A) (f : A → P B) → Walks p u r → ((a : A) (t : Spot) → K ≤ t.at → Behind K (f a t)) → Walks p u (go_on r f)
  walks_on [] u r f h k = behind_on K r f h k
  walks_on (b ∷ p) u r f h k = (λ e. walks_on p (step b u) r f (h.0 e) k, λ e. stopped u.at r f (h.1 e))

  pub walks_bind : {A B : Type 0} (p : List Bool) (u : Spot) (m : P A) (f : A → P B) → Walks p u (m u) → ((a : A) (t : Spot) → K ≤ t.at → Behind K (f a t)) → Walks p u ((m >>= f) u)
  unfolding ◌>>=◌
  walks_bind p u m f h k = walks_on p u (m u) f h k

  pub walks_take : {B : Type 0} (b : Bool) (p : List Bool) (u : Spot) (g : P B) → Walks p (step b u) (g (step b u)) → Walks (b ∷ p) u ((of.take tok fits (step b) >> g) u)
  unfolding of.take ◌>>◌ ◌>>=◌ go_on
  walks_take b p u g h = (λ e. rw e h, λ e. rw e (inl refl))

  -- stars alone stand from i on, up to K
  abbrev pub Starry : ℕ → Type 0
  Starry i = (j : ℕ) → i ≤ j → j < K → tok j ≡ Some (kind.Punct punct.Star)

  far_starry : (i : ℕ) → K ≤ i → Starry i
  far_starry i h j a b = absurd (omega arith)

  next_starry : (i : ℕ) → Starry i → Starry (suc i)
  next_starry i h j a b = h j (omega arith) b

  close_behind : {A : Type 0} (p : Punct) (n : ℕ) (a : A) (s : Spot) → K ≤ s.at → Behind K ((of.close tok fits p n >> pure a) s)
  unfolding ◌>>◌ ◌>>=◌ pure
  close_behind p n a s h = behind_on K (of.close tok fits p n s) (λ _ t. got a t) (behind_wide K s.at (of.close tok fits p n s) h (behind_of tok fits (close_token p n) s (of.close tok fits p n s) (close_verdict tok fits p n s))) (λ _ t k. k)

  -- ---- stars of a cast, and of an expression

  starry_stars : (n m : ℕ) (u : Spot) → u.at + m ≡ K → Starry u.at → Walks (rep m) u (of.stars tok fits n u)
  unfolding of.stars out leave is_sign
  starry_stars zero m u e h = walks_spent _ (rep m) u
  starry_stars (suc n) zero u e h = behind_wide K u.at _ (omega arith) (behind_of tok fits stars u _ (stars_verdict tok fits (suc n) u))
  starry_stars (suc n) (suc m) u e h = rw (h u.at (omega arith) (omega arith)) (walks_take true (rep m) u _
      (walks_bind (rep m) (opened u) (of.stars tok fits n) (λ k. leave u.level (suc k)) (starry_stars n m (opened u) (omega arith) (next_starry u.at h)) (λ _ t k. k)))

  starry_unary : (n m : ℕ) (u : Spot) → u.at + m ≡ K → Starry u.at → Walks (rep m) u (of.unary tok fits n u)
  unfolding of.unary out pure prefix_at on_some
  starry_unary zero m u e h = walks_spent _ (rep m) u
  starry_unary (suc n) zero u e h = behind_wide K u.at _ (omega arith) (behind_of tok fits (chain 0) u _ (unary_verdict tok fits (suc n) u))
  starry_unary (suc n) (suc m) u e h = rw (h u.at (omega arith) (omega arith)) (walks_take true (rep m) u _
      (walks_bind (rep m) (opened u) (of.unary tok fits n) (λ a. pure (tree.Deref u.at u.at a)) (starry_unary n m (opened u) (omega arith) (next_starry u.at h)) (λ _ t k. k)))

  starry_chain : (n m : ℕ) (u : Spot) → u.at + m ≡ K → Starry u.at → Walks (rep m) u (of.chain tok fits n 0 u)
  unfolding of.chain out
  starry_chain zero m u e h = walks_spent _ (rep m) u
  starry_chain (suc n) m u e h = starry_unary n m u e h

  -- ---- a name before m stars

  -- it ends at u where stars follow, and else behind K
  abbrev Stays : {A : Type 0} → ℕ → Spot → Got A → Type 0
  Stays {A} zero u r = Behind K r
  Stays {A} (suc m) u r = ((a : A) × (r ≡ got a u)) ⊎ (r ≡ spent)

  -- the name at t is taken
  abbrev Takes : {A : Type 0} → ℕ → Spot → Got A → Type 0
  Takes m t r = (fits t.at t.level ≡ true → Stays m (passed t) r) × (fits t.at t.level ≡ false → (r ≡ failed (deep t.at)) ⊎ (r ≡ spent))

  stays_on : {A B : Type 0} (m : ℕ) (u : Spot) (r : Got A) (f : A → P B) → Stays m u r → ((a : A) → Stays m u (f a u)) → ((a : A) (t : Spot) → K ≤ t.at → Behind K (f a t)) → Stays m u (go_on r f)
  unfolding go_on
  stays_on zero u r f h k l = behind_on K r f h l
  stays_on (suc m) u r f (inl h) k l = rw h.1 (k h.0)
  stays_on (suc m) u r f (inr h) k l = rw h (inr refl)

  takes_on : {A B : Type 0} (m : ℕ) (t : Spot) (r : Got A) (f : A → P B) → Takes m t r → ((a : A) → Stays m (passed t) (f a (passed t))) → ((a : A) (v : Spot) → K ≤ v.at → Behind K (f a v)) → Takes m t (go_on r f)
  takes_on m t r f h k l = (λ e. stays_on m (passed t) r f (h.0 e) k l, λ e. stopped t.at r f (h.1 e))

  -- what walks on behind the name
  stays_walks : {A B : Type 0} (m : ℕ) (u : Spot) (r : Got A) (f : A → P B) → Stays m u r → ((a : A) → Walks (rep m) u (f a u)) → ((a : A) (t : Spot) → K ≤ t.at → Behind K (f a t)) → Walks (rep m) u (go_on r f)
  unfolding go_on
  stays_walks zero u r f h k l = behind_on K r f h l
  stays_walks (suc m) u r f (inl h) k l = rw h.1 (k h.0)
  stays_walks (suc m) u r f (inr h) k l = rw h (walks_spent _ (rep (suc m)) u)

  takes_walks : {A B : Type 0} (m : ℕ) (t : Spot) (g : P A) (f : A → P B) → Takes m t (g t) → ((a : A) → Walks (rep m) (passed t) (f a (passed t))) → ((a : A) (v : Spot) → K ≤ v.at → Behind K (f a v)) →
      Walks (false ∷ rep m) t ((g >>= f) t)
  unfolding ◌>>=◌
  takes_walks m t g f h k l = (λ e. stays_walks m (passed t) (g t) f (h.0 e) k l, λ e. stopped t.at (g t) f (h.1 e))

  takes_spent : (A : Type 0) (m : ℕ) (t : Spot) → Takes {A = A} m t spent
  takes_spent A zero t = (λ _. tt, λ _. inr refl)
  takes_spent A (suc m) t = (λ _. inr refl, λ _. inr refl)

  more_far : (n f : ℕ) (a : Expr) (t : Spot) → K ≤ t.at → Behind K (of.more tok fits n f a t)
  more_far n f a t h = behind_wide K t.at _ h (behind_of tok fits (more f a) t _ (more_verdict tok fits n f a t))

  tail_far : (n l f : ℕ) (a : Expr) (t : Spot) → K ≤ t.at → Behind K (of.tail tok fits n l f a t)
  tail_far n l f a t h = behind_wide K t.at _ h (behind_of tok fits (tail l f a) t _ (tail_verdict tok fits n l f a t))

  named_stays : (n f m : ℕ) (u : Spot) → u.at + m ≡ K → Starry u.at → Stays m u (of.named tok fits n f u)
  unfolding of.named out is_sign
  named_stays n f zero u e h = behind_wide K u.at _ (omega arith) (behind_of tok fits (named f) u _ (named_verdict tok fits n f u))
  named_stays zero f (suc m) u e h = inr refl
  named_stays (suc n) f (suc m) u e h = rw (h u.at (omega arith) (omega arith)) (inl (tree.Name f f, refl))

  more_stays : (n f : ℕ) (a : Expr) (m : ℕ) (u : Spot) → u.at + m ≡ K → Starry u.at → Stays m u (of.more tok fits n f a u)
  unfolding of.more out is_sign field_at on_some
  more_stays n f a zero u e h = more_far n f a u (omega arith)
  more_stays zero f a (suc m) u e h = inr refl
  more_stays (suc n) f a (suc m) u e h = rw (h u.at (omega arith) (omega arith)) (inl (a, refl))

  from_takes : (n m : ℕ) (q : Start) (t : Spot) → q ≡ a_name → suc t.at + m ≡ K → Starry (suc t.at) → Takes m t (of.primary_from tok fits n q t)
  unfolding of.primary_from out of.take ◌>>◌ ◌>>=◌ go_on
  from_takes zero m q t e k h = takes_spent _ m t
  from_takes (suc n) m q t e k h = rw e (λ x. rw x (named_stays n t.at m (passed t) k h), λ x. rw x (inl refl))

  primary_takes : (n m : ℕ) (t : Spot) → tok t.at ≡ Some kind.Name → suc t.at + m ≡ K → Starry (suc t.at) → Takes m t (of.primary tok fits n t)
  unfolding of.primary out start_at
  primary_takes zero m t e k h = takes_spent _ m t
  primary_takes (suc n) m t e k h = from_takes n m (start_at (tok t.at)) t (ap start_at e) k h

  postfix_takes : (n m : ℕ) (t : Spot) → tok t.at ≡ Some kind.Name → suc t.at + m ≡ K → Starry (suc t.at) → Takes m t (of.postfix tok fits n t)
  unfolding of.postfix out ◌>>=◌
  postfix_takes zero m t e k h = takes_spent _ m t
  postfix_takes (suc n) m t e k h = takes_on m t (of.primary tok fits n t) (λ a. of.more tok fits n t.at a) (primary_takes n m t e k h) (λ a. more_stays n t.at a m (passed t) k h) (λ a v l. more_far n t.at a v l)

  unary_takes : (n m : ℕ) (t : Spot) → tok t.at ≡ Some kind.Name → suc t.at + m ≡ K → Starry (suc t.at) → Takes m t (of.unary tok fits n t)
  unfolding of.unary out prefix_at on_some
  unary_takes zero m t e k h = takes_spent _ m t
  unary_takes (suc n) m t e k h = rw e (postfix_takes n m t e k h)

  chain_takes : (n m : ℕ) (t : Spot) → tok t.at ≡ Some kind.Name → suc t.at + m ≡ K → Starry (suc t.at) → Takes m t (of.chain tok fits n 0 t)
  unfolding of.chain out
  chain_takes zero m t e k h = takes_spent _ m t
  chain_takes (suc n) m t e k h = unary_takes n m t e k h

  -- a name, where K stands behind it
  pub unary_walks : (n : ℕ) (t : Spot) → tok t.at ≡ Some kind.Name → suc t.at ≡ K → Walks (false ∷ []) t (of.unary tok fits n t)
  unary_walks n t e k = unary_takes n 0 t e (omega arith) (far_starry (suc t.at) (omega arith))

  tail_walks : (n f : ℕ) (a : Expr) (m : ℕ) (u : Spot) → u.at + m ≡ K → Starry u.at → Walks (rep m) u (of.tail tok fits n 0 f a u)
  unfolding of.tail out binary_at of_rank on_some
  tail_walks n f a zero u e h = tail_far n 0 f a u (omega arith)
  tail_walks zero f a (suc m) u e h = walks_spent _ (rep (suc m)) u
  tail_walks (suc n) f a (suc m) u e h = rw (h u.at (omega arith) (omega arith)) (walks_take true (rep m) u _
      (walks_bind (rep m) (opened u) (of.chain tok fits n 0) (λ b. of.tail tok fits n 0 f (tree.Product f u.at a b)) (starry_chain n m (opened u) (omega arith) (next_starry u.at h)) (λ b t l. tail_far n 0 f (tree.Product f u.at a b) t l)))

  name_walks : (n l m : ℕ) (t : Spot) → tok t.at ≡ Some kind.Name → suc t.at + m ≡ K → Starry (suc t.at) → Walks (false ∷ rep m) t (of.chain tok fits n (suc l) t)
  unfolding of.chain out
  name_walks zero l m t e k h = walks_spent _ (false ∷ rep m) t
  name_walks (suc n) zero m t e k h = takes_walks m t (of.chain tok fits n 0) (λ a. of.tail tok fits n 0 t.at a) (chain_takes n m t e k h) (λ a. tail_walks n t.at a m (passed t) k h) (λ a v o. tail_far n 0 t.at a v o)
  name_walks (suc n) (suc l) m t e k h = walks_bind (false ∷ rep m) t (of.chain tok fits n (suc l)) (λ a. of.tail tok fits n (suc l) t.at a) (name_walks n l m t e k h) (λ a v o. tail_far n (suc l) t.at a v o)

  -- ---- behind the `(`

  -- a name, where it is before K, and stars behind it
  abbrev pub Unsure : Spot → Type 0
  Unsure s = (tok s.at ≡ Some (kind.Punct punct.Open)) × (suc s.at < K → tok (suc s.at) ≡ Some kind.Name) × Starry (suc (suc s.at))

  -- the way from t on, where a name stands, if it is before K
  abbrev pub Way : List Bool → Spot → Type 0
  Way [] t = K ≤ t.at
  Way (b ∷ p) t = (m : ℕ) × (b ≡ false) × (p ≡ rep m) × (suc t.at + m ≡ K) × (tok t.at ≡ Some kind.Name) × Starry (suc t.at)

  whole_walks : (n : ℕ) (p : List Bool) (t : Spot) → Way p t → Walks p t (of.chain tok fits n 6 t)
  whole_walks n [] t h = behind_wide K t.at _ h (behind_of tok fits (chain 6) t _ (chain_verdict tok fits n 6 t))
  whole_walks n (b ∷ p) t w = rw (w.1, w.2) (name_walks n 5 w.0 t w.4 w.3 w.5)

  bracketed_walks : (n : ℕ) (p : List Bool) (s : Spot) → tok s.at ≡ Some (kind.Punct punct.Open) → Way p (opened s) → Walks (true ∷ p) s (of.bracketed tok fits n s)
  unfolding of.bracketed out of.expect is_sign ◌>>◌ ◌>>=◌ go_on
  bracketed_walks zero p s e w = walks_spent _ (true ∷ p) s
  bracketed_walks (suc n) p s e w = rw e (walks_take true p s (λ t. go_on (of.chain tok fits n 6 t) (λ a. of.close tok fits punct.Close s.level >> pure a))
      (walks_on p (opened s) (of.chain tok fits n 6 (opened s)) (λ a. of.close tok fits punct.Close s.level >> pure a) (whole_walks n p (opened s) w) (λ a v l. close_behind punct.Close s.level a v l)))

  inside_walks : (n : ℕ) (p : List Bool) (s : Spot) → tok s.at ≡ Some (kind.Punct punct.Open) → Way p (opened s) → Walks (true ∷ p) s (of.inside tok fits n s)
  unfolding of.inside out pure
  inside_walks zero p s e w = walks_spent _ (true ∷ p) s
  inside_walks (suc n) p s e w = walks_bind (true ∷ p) s (of.bracketed tok fits n) (λ a. pure (with_first s.at a)) (bracketed_walks n p s e w) (λ a t l. l)

  -- behind the type of a cast
  cast_rest : ℕ → ℕ → Base → P TypeName
  cast_rest n level b = of.expect tok fits punct.Star opened >> (of.stars tok fits n >>= λ k. of.close tok fits punct.Close level >> pure (record { base = b; stars = suc k }))

  stars_far : (n : ℕ) (t : Spot) → K ≤ t.at → Behind K (of.stars tok fits n t)
  stars_far n t h = behind_wide K t.at _ h (behind_of tok fits stars t _ (stars_verdict tok fits n t))

  expect_behind : (b x : Bool) (i : ℕ) (t : Spot) → K ≤ i → i ≤ t.at → Behind {A = Unit {0}} K (if b then (if x then got tt t else failed (deep i)) else failed (bad i))
  expect_behind true true i t h o = omega arith
  expect_behind true false i t h o = h
  expect_behind false x i t h o = h

  rest_far : (n level : ℕ) (b : Base) (u : Spot) → K ≤ u.at → Behind K (cast_rest n level b u)
  unfolding cast_rest of.expect of.take ◌>>◌ ◌>>=◌
  rest_far n level b u h = behind_on K _ _ (expect_behind (is_sign punct.Star (tok u.at)) (fits u.at u.level) u.at (opened u) h (omega arith))
      (λ _ t l. behind_on K (of.stars tok fits n t) _ (stars_far n t l) (λ k v o. close_behind punct.Close level (record { base = b; stars = suc k }) v o))

  rest_walks : (n level : ℕ) (b : Base) (m : ℕ) (u : Spot) → u.at + m ≡ K → Starry u.at → Walks (rep m) u (cast_rest n level b u)
  unfolding cast_rest of.expect is_sign ◌>>◌ ◌>>=◌ go_on
  rest_walks n level b zero u e h = rest_far n level b u (omega arith)
  rest_walks n level b (suc m) u e h = rw (h u.at (omega arith) (omega arith)) (walks_take true (rep m) u (λ t. go_on (of.stars tok fits n t) (λ k. of.close tok fits punct.Close level >> pure (record { base = b; stars = suc k })))
      (walks_on (rep m) (opened u) (of.stars tok fits n (opened u)) (λ k. of.close tok fits punct.Close level >> pure (record { base = b; stars = suc k })) (starry_stars n m (opened u) (omega arith) (next_starry u.at h))
      (λ k v l. close_behind punct.Close level (record { base = b; stars = suc k }) v l)))

  alias_stays : (m : ℕ) (t : Spot) (b : Base) → suc t.at + m ≡ K → Stays m (passed t) (got b (passed t))
  alias_stays zero t b k = omega arith
  alias_stays (suc m) t b k = inl (b, refl)

  pub base_takes : (m : ℕ) (t : Spot) → tok t.at ≡ Some kind.Name → suc t.at + m ≡ K → Takes m t (of.base_type tok fits t)
  unfolding of.base_type of.base_from base_at pure of.take ◌>>◌ ◌>>=◌ go_on
  base_takes m t e k = rw e (λ x. rw x (alias_stays m t _ k), λ x. rw x (inl refl))

  typed_walks : (n level : ℕ) (p : List Bool) (t : Spot) → Way p t → Walks p t ((of.base_type tok fits >>= cast_rest n level) t)
  typed_walks n level [] t h = walks_bind [] t (of.base_type tok fits) (cast_rest n level) (behind_wide K t.at _ h (behind_of tok fits base t _ (base_verdict tok fits t))) (λ b v l. rest_far n level b v l)
  typed_walks n level (b ∷ p) t w = rw (w.1, w.2) (takes_walks w.0 t (of.base_type tok fits) (cast_rest n level) (base_takes w.0 t w.4 w.3) (λ b. rest_walks n level b w.0 (passed t) w.3 w.5) (λ b v l. rest_far n level b v l))

  cast_type_walks : (n : ℕ) (p : List Bool) (s : Spot) → tok s.at ≡ Some (kind.Punct punct.Open) → Way p (opened s) → Walks (true ∷ p) s (of.cast_type tok fits n s)
  unfolding of.cast_type of.expect is_sign cast_rest ◌>>◌ ◌>>=◌ go_on
  cast_type_walks n p s e w = rw e (walks_take true p s (λ t. go_on (of.base_type tok fits t) (cast_rest n s.level)) (typed_walks n s.level p (opened s) w))

  cast_walks : (n : ℕ) (p : List Bool) (s : Spot) → tok s.at ≡ Some (kind.Punct punct.Open) → Way p (opened s) → Walks (true ∷ p) s (of.cast tok fits n s)
  unfolding of.cast
  cast_walks n p s e w = walks_bind (true ∷ p) s (of.cast_type tok fits n) (λ ty. of.allocated tok fits n s.at (Some ty)) (cast_type_walks n p s e w)
      (λ ty t l. behind_wide K t.at _ l (behind_of tok fits (allocated s.at (Some ty)) t _ (allocated_verdict tok fits s.at (Some ty) n t)))

  choice_walks : (c : Bool) (n : ℕ) (p : List Bool) (s : Spot) → tok s.at ≡ Some (kind.Punct punct.Open) → Way p (opened s) → Walks (true ∷ p) s ((if c then of.cast tok fits n else of.inside tok fits n) s)
  choice_walks true n p s e w = cast_walks n p s e w
  choice_walks false n p s e w = inside_walks n p s e w

  pub parens_walks : (n : ℕ) (p : List Bool) (s : Spot) → tok s.at ≡ Some (kind.Punct punct.Open) → Way p (opened s) → Walks (true ∷ p) s (of.parens tok fits n s)
  unfolding of.parens out ◌>>=◌ go_on
  parens_walks zero p s e w = walks_spent _ (true ∷ p) s
  parens_walks (suc n) p s e w = go (of.casts tok fits n s) (casts_peek tok fits n s)
    where
      go : (q : Got Bool) → Peeks s q → Walks (true ∷ p) s (go_on q (λ c. if c then of.cast tok fits n else of.inside tok fits n))
      go (got c t) x = rw x (choice_walks c n p s e w)
      go (failed x) h = absurd h
      go spent x = walks_spent _ (true ∷ p) s

-- one step of two walks
step_alike : {A : Type 0} (K D : ℕ) (tok tok' : ℕ → Option Kind) (fits fits' : ℕ → ℕ → Bool) → Agree K D tok tok' fits fits' → (u : Spot) (r q : Got A) → u.at < K →
    (fits u.at u.level ≡ true → fits' u.at u.level ≡ true → Alike K D r q) → (fits u.at u.level ≡ false → (r ≡ failed (deep u.at)) ⊎ (r ≡ spent)) → (fits' u.at u.level ≡ false → (q ≡ failed (deep u.at)) ⊎ (q ≡ spent)) → Alike K D r q
step_alike {A} K D tok tok' fits fits' agree u r q h rest x y = go (fits u.at u.level) refl
  where
    ends : (r ≡ failed (deep u.at)) ⊎ (r ≡ spent) → (q ≡ failed (deep u.at)) ⊎ (q ≡ spent) → Alike K D r q
    ends (inl e) (inl f) = rw (e, f) equal
    ends (inl e) (inr f) = rw f spent_two
    ends (inr e) f = rw e spent_one

    soon : u.at < D → (r ≡ failed (deep u.at)) ⊎ (r ≡ spent) → Alike K D r q
    soon l (inl e) = rw e (early l)
    soon l (inr e) = rw e spent_one

    go : (c : Bool) → fits u.at u.level ≡ c → Alike K D r q
    go true e = rest e (agree.keeps u.at u.level h e)
    go false e = before D (Alike K D r q) u.at (λ l. soon l (x e)) (λ l. ends (x e) (y (agree.fails u.at u.level l h e)))

-- two walks of one way
pub walks_alike : {A : Type 0} (K D : ℕ) (tok tok' : ℕ → Option Kind) (fits fits' : ℕ → ℕ → Bool) → Agree K D tok tok' fits fits' → (p : List Bool) (u : Spot) (r q : Got A) → u.at + length p ≤ K →
    Walks K tok fits p u r → Walks K tok' fits' p u q → Alike K D r q
walks_alike K D tok tok' fits fits' agree [] u r q h x y = behind x y
walks_alike K D tok tok' fits fits' agree (true ∷ p) u r q h x y = step_alike K D tok tok' fits fits' agree u r q (omega arith)
    (λ e f. walks_alike K D tok tok' fits fits' agree p (opened u) r q (omega arith) (x.0 e) (y.0 f)) x.1 y.1
walks_alike K D tok tok' fits fits' agree (false ∷ p) u r q h x y = step_alike K D tok tok' fits fits' agree u r q (omega arith)
    (λ e f. walks_alike K D tok tok' fits fits' agree p (passed u) r q (omega arith) (x.0 e) (y.0 f)) x.1 y.1
