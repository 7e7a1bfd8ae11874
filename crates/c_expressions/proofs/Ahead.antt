-- Behind `(` and a name, both readings of the stars that follow, as a cast and as an expression, go on to their end.
use Rattle.std.proofs.Common.{◌≡◌, ◌⊎◌, inl, inr, ℕ, zero, suc, ◌≤◌, ◌<◌, Bool, true, false, Option, Some, nat_lt, if◌then◌else◌, refl, ap, arith}
use Rattle.std.proofs.lemmas.Bool.Decides.{nat_tests}
use Rattle.cc_model.specs.declared.tokens.Kind.{Kind}
use Rattle.cc_model.specs.declared.tokens.Kind.TheVariants as kind
use Rattle.cc_model.specs.declared.tokens.Punct.{Punct}
use Rattle.cc_model.specs.declared.tokens.Punct.TheVariants as punct
use Rattle.cc_model.specs.declared.trees.Expr.{Expr}
use Rattle.cc_model.specs.declared.trees.Expr.TheVariants as tree
use Rattle.cc_model.specs.Spots.{Spot, opened, passed}
use Rattle.cc_model.specs.ReadExpressions.{with_first}
use Rattle.c_expressions.specs.Descent.{Fault, bad, deep, Got, got, failed, spent, P, go_on, ◌>>=◌, ◌>>◌, pure, leave, out, is_sign, binary_at, prefix_at, field_at, of_rank, on_some, Start, a_name, start_at, base_at}
use Rattle.c_expressions.specs.Descent as of
use Rattle.c_expressions.proofs.Viable.{Peeks, close_token, close_verdict, open_token, sign_verdict}
use Rattle.c_expressions.proofs.ViableExpressions.{base, stars, allocated, chain, tail, more, named, base_verdict, stars_verdict, allocated_verdict, casts_peek, chain_verdict, tail_verdict, unary_verdict, more_verdict, named_verdict}
use Rattle.c_expressions.proofs.Local.{Behind, behind_wide, behind_of}

module _ (K : ℕ) (tok : ℕ → Option Kind) (fits : ℕ → ℕ → Bool) where
  -- stars alone stand from i on, up to K
  abbrev pub Starry : ℕ → Type 0
  Starry i = (j : ℕ) → i ≤ j → j < K → tok j ≡ Some (kind.Punct punct.Star)

  -- it ends as R says, or does not fail before K but for a level
  abbrev pub Fine : {A : Type 0} → (A → Spot → Type 0) → Got A → Type 0
  Fine R (got a t) = R a t
  Fine R (failed (bad i)) = K ≤ i
  Fine R (failed (deep i)) = (K ≤ i) ⊎ ((d : ℕ) × (fits i d ≡ false))
  Fine R spent = Unit {0}

  abbrev pub Far : {A : Type 0} → A → Spot → Type 0
  Far a t = K ≤ t.at

  fine_behind : {A : Type 0} (R : A → Spot → Type 0) (r : Got A) → ((a : A) (t : Spot) → K ≤ t.at → R a t) → Behind K r → Fine R r
  fine_behind R (got a t) f h = f a t h
  fine_behind R (failed (bad i)) f h = h
  fine_behind R (failed (deep i)) f h = inl h
  fine_behind R spent f h = tt

  fine_on : {A B : Type 0} (R : A → Spot → Type 0) (Q : B → Spot → Type 0) (r : Got A) (f : A → P B) → Fine R r → ((a : A) (t : Spot) → R a t → Fine Q (f a t)) → Fine Q (go_on r f)
  unfolding go_on
  fine_on R Q (got a t) f h k = k a t h
  fine_on R Q (failed (bad i)) f h k = h
  fine_on R Q (failed (deep i)) f h k = h
  fine_on R Q spent f h k = tt

  fine_bind : {A B : Type 0} (R : A → Spot → Type 0) (Q : B → Spot → Type 0) (s : Spot) (m : P A) (f : A → P B) → Fine R (m s) → ((a : A) (t : Spot) → R a t → Fine Q (f a t)) → Fine Q ((m >>= f) s)
  unfolding ◌>>=◌
  fine_bind R Q s m f h k = fine_on R Q (m s) f h k

  fine_then : {B : Type 0} (R : Spot → Type 0) (Q : B → Spot → Type 0) (s : Spot) (m : P (Unit {0})) (f : P B) → Fine (λ _ t. R t) (m s) → ((t : Spot) → R t → Fine Q (f t)) → Fine Q ((m >> f) s)
  unfolding ◌>>◌
  fine_then R Q s m f h k = fine_bind (λ _ t. R t) Q s m (λ _. f) h (λ _ t r. k t r)

  taken : (b : Bool) (s t : Spot) → fits s.at s.level ≡ b → Fine {A = Unit {0}} (λ _ u. u ≡ t) (if b then got tt t else failed (deep s.at))
  taken true s t e = refl
  taken false s t e = inr (s.level, e)

  fine_take : (s : Spot) (next : Spot → Spot) → Fine (λ _ t. t ≡ next s) (of.take tok fits next s)
  unfolding of.take
  fine_take s next = taken (fits s.at s.level) s (next s) refl

  -- before K, or not
  split : (Q : Type 0) (i : ℕ) → (i < K → Q) → (K ≤ i → Q) → Q
  split Q i f g = go (nat_lt i K) refl
    where
      go : (b : Bool) → nat_lt i K ≡ b → Q
      go true e = f (grind (arith, nat_tests))
      go false e = g (grind (arith, nat_tests))

  far_starry : (i : ℕ) → K ≤ i → Starry i
  far_starry i h j a b = absurd (omega arith)

  next_starry : (i : ℕ) → Starry i → Starry (suc i)
  next_starry i h j a b = h j (omega arith) b

  fine_close : {A : Type 0} (p : Punct) (n : ℕ) (a : A) (s : Spot) → K ≤ s.at → Fine Far ((of.close tok fits p n >> pure a) s)
  unfolding pure
  fine_close p n a s h = fine_then (λ t. K ≤ t.at) Far s (of.close tok fits p n) (pure a)
      (fine_behind (λ _ t. K ≤ t.at) (of.close tok fits p n s) (λ _ t k. k) (behind_wide K s.at (of.close tok fits p n s) h (behind_of tok fits (close_token p n) s (of.close tok fits p n s) (close_verdict tok fits p n s))))
      (λ t k. k)

  -- ---- stars of a cast

  stars_far : (n : ℕ) (s : Spot) → K ≤ s.at → Fine Far (of.stars tok fits n s)
  stars_far n s h = fine_behind Far (of.stars tok fits n s) (λ _ t k. k) (behind_wide K s.at _ h (behind_of tok fits stars s _ (stars_verdict tok fits n s)))

  starry_stars : (n : ℕ) (s : Spot) → Starry s.at → Fine Far (of.stars tok fits n s)
  unfolding of.stars out leave is_sign
  starry_stars zero s h = tt
  starry_stars (suc n) s h = split (Fine Far (of.stars tok fits (suc n) s)) s.at
      (λ k. rw (h s.at (omega arith) k) (fine_then (λ t. t ≡ opened s) Far s (of.take tok fits opened) _ (fine_take s opened)
      (λ t e. rw e (fine_bind Far Far (opened s) (of.stars tok fits n) (λ k. leave s.level (suc k)) (starry_stars n (opened s) (next_starry s.at h)) (λ _ u r. r)))))
      (stars_far (suc n) s)

  -- ---- stars of an expression

  unary_far : (n : ℕ) (s : Spot) → K ≤ s.at → Fine Far (of.unary tok fits n s)
  unary_far n s h = fine_behind Far (of.unary tok fits n s) (λ _ t k. k) (behind_wide K s.at _ h (behind_of tok fits (chain 0) s _ (unary_verdict tok fits n s)))

  starry_unary : (n : ℕ) (s : Spot) → Starry s.at → Fine Far (of.unary tok fits n s)
  unfolding of.unary out pure prefix_at on_some
  starry_unary zero s h = tt
  starry_unary (suc n) s h = split (Fine Far (of.unary tok fits (suc n) s)) s.at
      (λ k. rw (h s.at (omega arith) k) (fine_then (λ t. t ≡ opened s) Far s (of.take tok fits opened) _ (fine_take s opened)
      (λ t e. rw e (fine_bind Far Far (opened s) (of.unary tok fits n) (λ a. pure (tree.Deref s.at s.at a)) (starry_unary n (opened s) (next_starry s.at h)) (λ _ u r. r)))))
      (unary_far (suc n) s)

  starry_chain : (n : ℕ) (s : Spot) → Starry s.at → Fine Far (of.chain tok fits n 0 s)
  unfolding of.chain out
  starry_chain zero s h = tt
  starry_chain (suc n) s h = starry_unary n s h

  -- ---- a name before the stars

  abbrev Ready : {A : Type 0} → A → Spot → Type 0
  Ready a t = Starry t.at

  named_ready : (n f : ℕ) (t : Spot) → Starry t.at → Fine Ready (of.named tok fits n f t)
  unfolding of.named out is_sign
  named_ready zero f t h = tt
  named_ready (suc n) f t h = split (Fine Ready (of.named tok fits (suc n) f t)) t.at
      (λ k. rw (h t.at (omega arith) k) h)
      (λ k. fine_behind Ready (of.named tok fits (suc n) f t) (λ _ u l. far_starry u.at l) (behind_wide K t.at _ k (behind_of tok fits (named f) t _ (named_verdict tok fits (suc n) f t))))

  more_ready : (n f : ℕ) (a : Expr) (t : Spot) → Starry t.at → Fine Ready (of.more tok fits n f a t)
  unfolding of.more out is_sign field_at on_some
  more_ready zero f a t h = tt
  more_ready (suc n) f a t h = split (Fine Ready (of.more tok fits (suc n) f a t)) t.at
      (λ k. rw (h t.at (omega arith) k) h)
      (λ k. fine_behind Ready (of.more tok fits (suc n) f a t) (λ _ u l. far_starry u.at l) (behind_wide K t.at _ k (behind_of tok fits (more f a) t _ (more_verdict tok fits (suc n) f a t))))

  from_ready : (n : ℕ) (q : Start) (s : Spot) → q ≡ a_name → Starry (suc s.at) → Fine Ready (of.primary_from tok fits n q s)
  unfolding of.primary_from out
  from_ready zero q s e h = tt
  from_ready (suc n) q s e h = rw e (fine_then (λ t. t ≡ passed s) Ready s (of.take tok fits passed) (of.named tok fits n s.at) (fine_take s passed) (λ t q. rw q (named_ready n s.at (passed s) h)))

  primary_ready : (n : ℕ) (s : Spot) → tok s.at ≡ Some kind.Name → Starry (suc s.at) → Fine Ready (of.primary tok fits n s)
  unfolding of.primary out start_at
  primary_ready zero s e h = tt
  primary_ready (suc n) s e h = from_ready n (start_at (tok s.at)) s (ap start_at e) h

  postfix_ready : (n : ℕ) (s : Spot) → tok s.at ≡ Some kind.Name → Starry (suc s.at) → Fine Ready (of.postfix tok fits n s)
  unfolding of.postfix out
  postfix_ready zero s e h = tt
  postfix_ready (suc n) s e h = fine_bind Ready Ready s (of.primary tok fits n) (λ a. of.more tok fits n s.at a) (primary_ready n s e h) (λ a t r. more_ready n s.at a t r)

  unary_ready : (n : ℕ) (s : Spot) → tok s.at ≡ Some kind.Name → Starry (suc s.at) → Fine Ready (of.unary tok fits n s)
  unfolding of.unary out prefix_at on_some
  unary_ready zero s e h = tt
  unary_ready (suc n) s e h = rw e (postfix_ready n s e h)

  chain_ready : (n : ℕ) (s : Spot) → tok s.at ≡ Some kind.Name → Starry (suc s.at) → Fine Ready (of.chain tok fits n 0 s)
  unfolding of.chain out
  chain_ready zero s e h = tt
  chain_ready (suc n) s e h = unary_ready n s e h

  tail_far : (n l f : ℕ) (a : Expr) (s : Spot) → K ≤ s.at → Fine Far (of.tail tok fits n l f a s)
  tail_far n l f a s h = fine_behind Far (of.tail tok fits n l f a s) (λ _ t k. k) (behind_wide K s.at _ h (behind_of tok fits (tail l f a) s _ (tail_verdict tok fits n l f a s)))

  tail_ready : (n f : ℕ) (a : Expr) (s : Spot) → Starry s.at → Fine Far (of.tail tok fits n 0 f a s)
  unfolding of.tail out binary_at of_rank on_some
  tail_ready zero f a s h = tt
  tail_ready (suc n) f a s h = split (Fine Far (of.tail tok fits (suc n) 0 f a s)) s.at
      (λ k. rw (h s.at (omega arith) k) (fine_then (λ t. t ≡ opened s) Far s (of.take tok fits opened) _ (fine_take s opened)
      (λ t e. rw e (fine_bind Far Far (opened s) (of.chain tok fits n 0) (λ b. of.tail tok fits n 0 f (tree.Product f s.at a b)) (starry_chain n (opened s) (next_starry s.at h)) (λ b u r. tail_far n 0 f (tree.Product f s.at a b) u r)))))
      (tail_far (suc n) 0 f a s)

  name_chain : (n l : ℕ) (s : Spot) → tok s.at ≡ Some kind.Name → Starry (suc s.at) → Fine Far (of.chain tok fits n (suc l) s)
  unfolding of.chain out
  name_chain zero l s e h = tt
  name_chain (suc n) zero s e h = fine_bind Ready Far s (of.chain tok fits n 0) (λ a. of.tail tok fits n 0 s.at a) (chain_ready n s e h) (λ a t r. tail_ready n s.at a t r)
  name_chain (suc n) (suc l) s e h = fine_bind Far Far s (of.chain tok fits n (suc l)) (λ a. of.tail tok fits n (suc l) s.at a) (name_chain n l s e h) (λ a t r. tail_far n (suc l) s.at a t r)

  -- ---- behind the `(`

  -- a name, where it is before K, and stars behind it
  abbrev pub Unsure : Spot → Type 0
  Unsure s = (tok s.at ≡ Some (kind.Punct punct.Open)) × (suc s.at < K → tok (suc s.at) ≡ Some kind.Name) × Starry (suc (suc s.at))

  whole_chain : (n : ℕ) (t : Spot) → (t.at < K → tok t.at ≡ Some kind.Name) → Starry (suc t.at) → Fine Far (of.chain tok fits n 6 t)
  whole_chain n t e h = split (Fine Far (of.chain tok fits n 6 t)) t.at (λ k. name_chain n 5 t (e k) h)
      (λ k. fine_behind Far (of.chain tok fits n 6 t) (λ _ u l. l) (behind_wide K t.at _ k (behind_of tok fits (chain 6) t _ (chain_verdict tok fits n 6 t))))

  open_fine : (s : Spot) → tok s.at ≡ Some (kind.Punct punct.Open) → Fine (λ _ t. t ≡ opened s) (of.expect tok fits punct.Open opened s)
  unfolding of.expect is_sign
  open_fine s e = rw e (fine_take s opened)

  bracketed_fine : (n : ℕ) (s : Spot) → Unsure s → Fine Far (of.bracketed tok fits n s)
  unfolding of.bracketed out
  bracketed_fine zero s u = tt
  bracketed_fine (suc n) s u = fine_then (λ t. t ≡ opened s) Far s (of.expect tok fits punct.Open opened) _ (open_fine s u.0)
      (λ t e. rw e (fine_bind Far Far (opened s) (of.chain tok fits n 6) (λ a. of.close tok fits punct.Close s.level >> pure a) (whole_chain n (opened s) u.1 u.2) (λ a v r. fine_close punct.Close s.level a v r)))

  inside_fine : (n : ℕ) (s : Spot) → Unsure s → Fine Far (of.inside tok fits n s)
  unfolding of.inside out pure
  inside_fine zero s u = tt
  inside_fine (suc n) s u = fine_bind Far Far s (of.bracketed tok fits n) (λ a. pure (with_first s.at a)) (bracketed_fine n s u) (λ a t r. r)

  base_fine : (t : Spot) → (t.at < K → tok t.at ≡ Some kind.Name) → Starry (suc t.at) → Fine Ready (of.base_type tok fits t)
  unfolding of.base_type of.base_from base_at pure
  base_fine t e h = split (Fine Ready (of.base_type tok fits t)) t.at
      (λ k. rw (e k) (fine_then (λ u. u ≡ passed t) Ready t (of.take tok fits passed) _ (fine_take t passed) (λ u q. rw q h)))
      (λ k. fine_behind Ready (of.base_type tok fits t) (λ _ u l. far_starry u.at l) (behind_wide K t.at _ k (behind_of tok fits base t _ (base_verdict tok fits t))))

  star_fine : (u : Spot) → Starry u.at → Fine (λ _ v. Starry v.at) (of.expect tok fits punct.Star opened u)
  unfolding of.expect is_sign
  star_fine u h = split (Fine (λ _ v. Starry v.at) (of.expect tok fits punct.Star opened u)) u.at
      (λ k. rw (h u.at (omega arith) k) (fine_map (of.take tok fits opened u) (fine_take u opened)))
      (λ k. fine_behind (λ _ v. Starry v.at) (of.expect tok fits punct.Star opened u) (λ _ v l. far_starry v.at l)
      (behind_wide K u.at (of.expect tok fits punct.Star opened u) k (behind_of tok fits (open_token (kind.Punct punct.Star)) u (of.expect tok fits punct.Star opened u) (sign_verdict tok fits punct.Star u))))
    where
      fine_map : (r : Got (Unit {0})) → Fine (λ _ t. t ≡ opened u) r → Fine (λ _ v. Starry v.at) r
      fine_map (got a t) e = rw e (next_starry u.at h)
      fine_map (failed (bad i)) e = e
      fine_map (failed (deep i)) e = e
      fine_map spent e = tt

  cast_type_fine : (n : ℕ) (s : Spot) → Unsure s → Fine Far (of.cast_type tok fits n s)
  unfolding of.cast_type
  cast_type_fine n s u = fine_then (λ t. t ≡ opened s) Far s (of.expect tok fits punct.Open opened) _ (open_fine s u.0)
      (λ t e. rw e (fine_bind Ready Far (opened s) (of.base_type tok fits) _ (base_fine (opened s) u.1 u.2)
      (λ b v r. fine_then (λ w. Starry w.at) Far v (of.expect tok fits punct.Star opened) _ (star_fine v r)
      (λ w q. fine_bind Far Far w (of.stars tok fits n) _ (starry_stars n w q) (λ k x l. fine_close punct.Close s.level (record { base = b; stars = suc k }) x l)))))

  cast_fine : (n : ℕ) (s : Spot) → Unsure s → Fine Far (of.cast tok fits n s)
  unfolding of.cast
  cast_fine n s u = fine_bind Far Far s (of.cast_type tok fits n) (λ ty. of.allocated tok fits n s.at (Some ty)) (cast_type_fine n s u)
      (λ ty t r. fine_behind Far (of.allocated tok fits n s.at (Some ty) t) (λ _ v l. l) (behind_wide K t.at _ r (behind_of tok fits (allocated s.at (Some ty)) t _ (allocated_verdict tok fits s.at (Some ty) n t))))

  choice_fine : (c : Bool) (n : ℕ) (s : Spot) → Unsure s → Fine Far ((if c then of.cast tok fits n else of.inside tok fits n) s)
  choice_fine true n s u = cast_fine n s u
  choice_fine false n s u = inside_fine n s u

  pub parens_fine : (n : ℕ) (s : Spot) → Unsure s → Fine Far (of.parens tok fits n s)
  unfolding of.parens out ◌>>=◌ go_on
  parens_fine zero s u = tt
  parens_fine (suc n) s u = go (of.casts tok fits n s) (casts_peek tok fits n s)
    where
      go : (q : Got Bool) → Peeks s q → Fine Far (go_on q (λ c. if c then of.cast tok fits n else of.inside tok fits n))
      go (got c t) e = rw e (choice_fine c n s u)
      go (failed x) e = absurd e
      go spent e = tt
