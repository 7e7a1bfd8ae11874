-- Over two lists of tokens that agree before K, an expression is read alike.
use Rattle.std.proofs.Common.{◌≡◌, ◌⊎◌, inl, inr, ℕ, zero, suc, ◌+◌, ◌-◌, ◌≤◌, ◌<◌, Bool, true, false, List, [], ◌∷◌, ◌++◌, length, Option, Some, None, nat_lt, if◌then◌else◌, refl, sym, ap, subst, ◌∙◌, arith}
use Rattle.std.proofs.lemmas.Bool.Decides.{nat_tests}
use Rattle.cc_model.specs.declared.tokens.Kind.{Kind}
use Rattle.cc_model.specs.declared.tokens.Kind.TheVariants as kind
use Rattle.cc_model.specs.declared.tokens.Punct.TheVariants as punct
use Rattle.cc_model.specs.declared.tokens.Keyword.{Keyword}
use Rattle.cc_model.specs.declared.tokens.Keyword.TheVariants as keyword
use Rattle.cc_model.specs.declared.trees.Base.TheVariants as base_tree
use Rattle.cc_model.specs.declared.trees.TypeName.{TypeName}
use Rattle.cc_model.specs.declared.trees.Expr.{Expr}
use Rattle.cc_model.specs.declared.trees.Expr.TheVariants as tree
use Rattle.cc_model.specs.Spots.{Spot, opened, passed}
use Rattle.cc_model.specs.ReadExpressions.{with_first}
use Rattle.c_expressions.specs.Descent.{Fault, bad, deep, Got, got, failed, spent, P, go_on, ◌>>=◌, ◌>>◌, pure, leave, wrong, out, is_sign, binary_at, prefix_at, field_at, on_some, Start, a_name, a_number, a_null, a_malloc, a_paren, no_start, start_at, BaseStart, an_int, a_struct, an_alias, no_base, base_at}
use Rattle.c_expressions.specs.Descent as of
use Rattle.c_expressions.proofs.Tests.{Starts, start_tells, is_sign_tells, base_tells}
use Rattle.c_expressions.proofs.Viable.{Peeks}
use Rattle.c_expressions.proofs.ViableExpressions.{base, stars, chain, postfix, tail, more, named, arguments_rest, args, base_verdict, stars_verdict, casts_peek, tail_verdict, unary_verdict, more_verdict, primary_verdict, named_verdict, args_verdict, args_more_verdict}
use Rattle.c_parse.proofs.Walks.{rep, Starry, Unsure, parens_walks, walks_alike}
use Rattle.c_parse.proofs.Agree.{Alike, equal, Local, Agree, before, behind_of, local_at, local_bind, local_then, local_if, pure_local, leave_local, bad_local, alike_if, alike_some, take_local, sign_local, word_local, name_local, close_local}

module _ (K D : ℕ) (tok tok' : ℕ → Option Kind) (fits fits' : ℕ → ℕ → Bool) (agree : Agree K D tok tok' fits fits') where
  same : (i : ℕ) → i < K → tok' i ≡ tok i
  same i h = agree.same i h

  base_from_local : (q : BaseStart) (s : Spot) → Local K D s (of.base_from tok fits q s) (of.base_from tok' fits' q s)
  unfolding of.base_from wrong
  base_from_local an_int s = local_then K D s _ _ _ _ (take_local K D tok tok' fits fits' agree passed s (omega arith)) (λ t. pure_local K D base_tree.Int t)
  base_from_local a_struct s = local_then K D s _ _ _ _ (take_local K D tok tok' fits fits' agree passed s (omega arith)) (λ t. local_then K D t _ _ _ _ (name_local K D tok tok' fits fits' agree t) (λ u. pure_local K D (base_tree.Struct (suc s.at)) u))
  base_from_local an_alias s = local_then K D s _ _ _ _ (take_local K D tok tok' fits fits' agree passed s (omega arith)) (λ t. pure_local K D (base_tree.Alias s.at) t)
  base_from_local no_base s = bad_local K D s

  base_alike : (s : Spot) → s.at < K → Alike K D (of.base_type tok fits s) (of.base_type tok' fits' s)
  unfolding of.base_type
  base_alike s h = rw (same s.at h) ((base_from_local (base_at (tok s.at)) s).0)

  pub base_local : (s : Spot) → Local K D s (of.base_type tok fits s) (of.base_type tok' fits' s)
  base_local s = local_at K D s _ _ (base_alike s) (behind_of tok fits base s _ (base_verdict tok fits s)) (behind_of tok' fits' base s _ (base_verdict tok' fits' s))

  pub stars_local : (n : ℕ) (s : Spot) → Local K D s (of.stars tok fits n s) (of.stars tok' fits' n s)
  unfolding of.stars out pure
  stars_local zero s = (equal, λ k. (tt, tt))
  stars_local (suc n) s = local_at K D s _ _
      (λ h. rw (same s.at h) ((local_if K D s (is_sign punct.Star (tok s.at)) _ _ _ _
      (local_then K D s _ _ _ _ (take_local K D tok tok' fits fits' agree opened s (omega arith)) (λ t. local_bind K D _ _ (λ k u. leave_local K D s.level (suc k) u) t (of.stars tok fits n) (of.stars tok' fits' n) (stars_local n t)))
      (pure_local {A = ℕ} K D 0 s)).0))
      (behind_of tok fits stars s _ (stars_verdict tok fits (suc n) s)) (behind_of tok' fits' stars s _ (stars_verdict tok' fits' (suc n) s))

  pub type_local : (n : ℕ) (s : Spot) → Local K D s (of.type_name tok fits n s) (of.type_name tok' fits' n s)
  unfolding of.type_name
  type_local n s = local_bind K D _ _ (λ b t. local_bind K D _ _ (λ k u. pure_local K D (record { base = b; stars = k }) u) t (of.stars tok fits n) (of.stars tok' fits' n) (stars_local n t)) s (of.base_type tok fits) (of.base_type tok' fits') (base_local s)

  worded_local : {A : Type 0} (w : Keyword) (f g : P A) (s : Spot) → ((t : Spot) → Local K D t (f t) (g t)) → Local K D s (of.worded tok fits w f s) (of.worded tok' fits' w g s)
  unfolding of.worded
  worded_local w f g s h = local_then K D s _ _ _ _ (word_local K D tok tok' fits fits' agree w s) (λ t. local_then K D t _ _ _ _ (sign_local K D tok tok' fits fits' agree punct.Open opened t (omega arith)) (λ u.
      local_bind K D _ _ (λ a v. local_then K D v _ _ _ _ (close_local K D tok tok' fits fits' agree punct.Close s.level v) (λ x. pure_local K D a x)) u f g (h u)))

  pub allocation_local : (n : ℕ) (s : Spot) → Local K D s (of.allocation tok fits n s) (of.allocation tok' fits' n s)
  unfolding of.allocation of.sized
  allocation_local n s = worded_local keyword.Malloc (of.worded tok fits keyword.Sizeof (of.type_name tok fits n)) (of.worded tok' fits' keyword.Sizeof (of.type_name tok' fits' n)) s
      (λ t. worded_local keyword.Sizeof (of.type_name tok fits n) (of.type_name tok' fits' n) t (λ u. type_local n u))

  pub allocated_local : (n f : ℕ) (c : Option TypeName) (s : Spot) → Local K D s (of.allocated tok fits n f c s) (of.allocated tok' fits' n f c s)
  unfolding of.allocated
  allocated_local n f c s = local_bind K D _ _ (λ ty t. pure_local K D (tree.Malloc f s.at c ty) t) s (of.allocation tok fits n) (of.allocation tok' fits' n) (allocation_local n s)

  cast_type_local : (n : ℕ) (s : Spot) → Local K D s (of.cast_type tok fits n s) (of.cast_type tok' fits' n s)
  unfolding of.cast_type
  cast_type_local n s = local_then K D s _ _ _ _ (sign_local K D tok tok' fits fits' agree punct.Open opened s (omega arith)) (λ t.
      local_bind K D _ _ (λ b u. local_then K D u _ _ _ _ (sign_local K D tok tok' fits fits' agree punct.Star opened u (omega arith)) (λ v.
      local_bind K D _ _ (λ k w. local_then K D w _ _ _ _ (close_local K D tok tok' fits fits' agree punct.Close s.level w) (λ x. pure_local K D (record { base = b; stars = suc k }) x)) v (of.stars tok fits n) (of.stars tok' fits' n) (stars_local n v)))
      t (of.base_type tok fits) (of.base_type tok' fits') (base_local t))

  pub cast_local : (n : ℕ) (s : Spot) → Local K D s (of.cast tok fits n s) (of.cast tok' fits' n s)
  unfolding of.cast
  cast_local n s = local_bind K D _ _ (λ ty t. allocated_local n s.at (Some ty) t) s (of.cast_type tok fits n) (of.cast_type tok' fits' n) (cast_type_local n s)

  -- ---- looking ahead

  split : (Q : Type 0) (i : ℕ) → (i < K → Q) → (K ≤ i → Q) → Q
  split Q i f g = go (nat_lt i K) refl
    where
      go : (b : Bool) → nat_lt i K ≡ b → Q
      go true e = f (grind (arith, nat_tests))
      go false e = g (grind (arith, nat_tests))

  far_starry : (i : ℕ) → K ≤ i → Starry K tok fits i
  far_starry i h j a b = absurd (omega arith)

  wider : (i : ℕ) → tok i ≡ Some (kind.Punct punct.Star) → Starry K tok fits (suc i) → Starry K tok fits i
  wider i e f j a b = go (nat_lt i j) refl
    where
      go : (c : Bool) → nat_lt i j ≡ c → tok j ≡ Some (kind.Punct punct.Star)
      go true q = f j (grind (arith, nat_tests)) b
      go false q = let n : j ≡ i = grind (arith, nat_tests) in rw n e

  alias_name : (k : Option Kind) → base_at k ≡ an_alias → k ≡ Some kind.Name
  alias_name k e = rw e at (base_tells k)

  -- stars alone stand from i on, up to K
  closes_alike : (n i : ℕ) (s : Spot) → (of.closes tok' fits' n i s ≡ of.closes tok fits n i s) ⊎ Starry K tok fits i
  unfolding of.closes out
  closes_alike zero i s = inl refl
  closes_alike (suc n) i s = split ((of.closes tok' fits' (suc n) i s ≡ of.closes tok fits (suc n) i s) ⊎ Starry K tok fits i) i
      (λ h. rw (same i h) (go (is_sign punct.Star (tok i)) refl (closes_alike n (suc i) s)))
      (λ h. inr (far_starry i h))
    where
      go : (b : Bool) → is_sign punct.Star (tok i) ≡ b → (of.closes tok' fits' n (suc i) s ≡ of.closes tok fits n (suc i) s) ⊎ Starry K tok fits (suc i) →
          ((if b then of.closes tok' fits' n (suc i) s else got (is_sign punct.Close (tok i)) s) ≡ (if b then of.closes tok fits n (suc i) s else got (is_sign punct.Close (tok i)) s)) ⊎ Starry K tok fits i
      go true e (inl q) = inl q
      go true e (inr f) = inr (wider i (is_sign_tells punct.Star (tok i) e) f)
      go false e q = inl refl

  casts_from_alike : (n : ℕ) (q : BaseStart) (s : Spot) → q ≡ base_at (tok (suc s.at)) → suc s.at < K →
      (of.casts_from tok' fits' n q s ≡ of.casts_from tok fits n q s) ⊎ ((tok (suc s.at) ≡ Some kind.Name) × Starry K tok fits (suc (suc s.at)))
  unfolding of.casts_from
  casts_from_alike n an_int s e l = inl refl
  casts_from_alike n a_struct s e l = inl refl
  casts_from_alike n an_alias s e l = split ((of.casts_from tok' fits' n an_alias s ≡ of.casts_from tok fits n an_alias s) ⊎ ((tok (suc s.at) ≡ Some kind.Name) × Starry K tok fits (suc (suc s.at)))) (suc (suc s.at))
      (λ h. rw (same (suc (suc s.at)) h) (go (is_sign punct.Star (tok (suc (suc s.at)))) (closes_alike n (suc (suc s.at)) s)))
      (λ h. inr (alias_name (tok (suc s.at)) (sym e), far_starry (suc (suc s.at)) h))
    where
      go : (b : Bool) → (of.closes tok' fits' n (suc (suc s.at)) s ≡ of.closes tok fits n (suc (suc s.at)) s) ⊎ Starry K tok fits (suc (suc s.at)) →
          ((if b then of.closes tok' fits' n (suc (suc s.at)) s else got false s) ≡ (if b then of.closes tok fits n (suc (suc s.at)) s else got false s)) ⊎ ((tok (suc s.at) ≡ Some kind.Name) × Starry K tok fits (suc (suc s.at)))
      go true (inl q) = inl q
      go true (inr f) = inr (alias_name (tok (suc s.at)) (sym e), f)
      go false q = inl refl
  casts_from_alike n no_base s e l = inl refl

  casts_alike : (n : ℕ) (s : Spot) → tok s.at ≡ Some (kind.Punct punct.Open) → (of.casts tok' fits' n s ≡ of.casts tok fits n s) ⊎ Unsure K tok fits s
  unfolding of.casts
  casts_alike n s o = split ((of.casts tok' fits' n s ≡ of.casts tok fits n s) ⊎ Unsure K tok fits s) (suc s.at)
      (λ h. rw (same (suc s.at) h) (go (casts_from_alike n (base_at (tok (suc s.at))) s refl h)))
      (λ h. inr (o, (λ l. absurd (omega arith)), far_starry (suc (suc s.at)) (omega arith)))
    where
      go : (of.casts_from tok' fits' n (base_at (tok (suc s.at))) s ≡ of.casts_from tok fits n (base_at (tok (suc s.at))) s) ⊎ ((tok (suc s.at) ≡ Some kind.Name) × Starry K tok fits (suc (suc s.at))) →
          (of.casts_from tok' fits' n (base_at (tok (suc s.at))) s ≡ of.casts_from tok fits n (base_at (tok (suc s.at))) s) ⊎ Unsure K tok fits s
      go (inl q) = inl q
      go (inr f) = inr (o, (λ l. f.0), f.1)

  unsure_too : (s : Spot) → s.at < K → Unsure K tok fits s → Unsure K tok' fits' s
  unsure_too s h u = (same s.at h ∙ u.0, (λ l. same (suc s.at) l ∙ u.1 l), λ j a b. same j b ∙ u.2 j a b)

  -- ---- expressions

  choice_local : (c : Bool) (f g i j : P Expr) (s : Spot) → Local K D s (f s) (g s) → Local K D s (i s) (j s) → Local K D s ((if c then f else i) s) ((if c then g else j) s)
  choice_local true f g i j s h k = h
  choice_local false f g i j s h k = k

  rep_length : (m : ℕ) → length (rep m) ≡ m
  rep_length zero = refl
  rep_length (suc m) = ap (λ n. suc n) (rep_length m)

  -- where it isn't known which of the two it is, both take the same tokens
  unsure_alike : (n : ℕ) (s : Spot) → s.at < K → Unsure K tok fits s → Alike K D (of.parens tok fits (suc n) s) (of.parens tok' fits' (suc n) s)
  unsure_alike n s h u =
      let v = unsure_too s h u in
      before K (Alike K D (of.parens tok fits (suc n) s) (of.parens tok' fits' (suc n) s)) (suc s.at)
      (λ l. let m = K - suc (suc s.at) in let e : suc (suc s.at) + m ≡ K = omega arith in let k = rep_length m in
      walks_alike K D tok tok' fits fits' agree (true ∷ false ∷ rep m) s _ _ (omega arith) (parens_walks K tok fits (suc n) (false ∷ rep m) s u.0 (m, refl, refl, e, u.1 l, u.2)) (parens_walks K tok' fits' (suc n) (false ∷ rep m) s v.0 (m, refl, refl, e, v.1 l, v.2)))
      (λ l. walks_alike K D tok tok' fits fits' agree (true ∷ []) s _ _ (omega arith) (parens_walks K tok fits (suc n) [] s u.0 l) (parens_walks K tok' fits' (suc n) [] s v.0 l))

  parens_alike : (n : ℕ) (s : Spot) → s.at < K → tok s.at ≡ Some (kind.Punct punct.Open) → Local K D s (of.inside tok fits n s) (of.inside tok' fits' n s) →
      Alike K D (of.parens tok fits (suc n) s) (of.parens tok' fits' (suc n) s)
  unfolding of.parens ◌>>=◌ go_on
  parens_alike n s h o l = go (casts_alike n s o)
    where
      both : (r q : Got Bool) → Peeks s r → q ≡ r → Alike K D (go_on r (λ c. if c then of.cast tok fits n else of.inside tok fits n)) (go_on q (λ c. if c then of.cast tok' fits' n else of.inside tok' fits' n))
      both (got c t) q p e = rw (e, p) ((choice_local c (of.cast tok fits n) (of.cast tok' fits' n) (of.inside tok fits n) (of.inside tok' fits' n) s (cast_local n s) l).0)
      both (failed x) q p e = absurd p
      both spent q p e = rw e (equal)

      go : (of.casts tok' fits' n s ≡ of.casts tok fits n s) ⊎ Unsure K tok fits s → Alike K D (of.parens tok fits (suc n) s) (of.parens tok' fits' (suc n) s)
      go (inl e) = both (of.casts tok fits n s) (of.casts tok' fits' n s) (casts_peek tok fits n s) e
      go (inr u) = unsure_alike n s h u

  mutual
    unfolding of.chain of.tail of.unary of.postfix of.more of.primary of.primary_from of.inside of.bracketed of.arguments of.named of.args of.args_more out wrong pure

    pub chain_local : (n l : ℕ) (s : Spot) → Local K D s (of.chain tok fits n l s) (of.chain tok' fits' n l s)
    chain_local zero l s = (equal, λ k. (tt, tt))
    chain_local (suc n) zero s = unary_local n s
    chain_local (suc n) (suc l) s = local_bind K D _ _ (λ a t. tail_local n l s.at a t) s (of.chain tok fits n l) (of.chain tok' fits' n l) (chain_local n l s)

    pub tail_local : (n l f : ℕ) (a : Expr) (s : Spot) → Local K D s (of.tail tok fits n l f a s) (of.tail tok' fits' n l f a s)
    tail_local zero l f a s = (equal, λ k. (tt, tt))
    tail_local (suc n) l f a s = local_at K D s _ _
        (λ h. alike_some K D (binary_at (suc l) (tok s.at)) (binary_at (suc l) (tok' s.at)) _ _ (got a s) (got a s) (ap (binary_at (suc l)) (same s.at h))
        (λ make. (local_then K D s (of.take tok fits opened) (of.take tok' fits' opened) _ _ (take_local K D tok tok' fits fits' agree opened s (omega arith))
        (λ t. local_bind K D (λ b. of.tail tok fits n l f (make f s.at a b)) (λ b. of.tail tok' fits' n l f (make f s.at a b)) (λ b u. tail_local n l f (make f s.at a b) u) t (of.chain tok fits n l) (of.chain tok' fits' n l) (chain_local n l t))).0)
        (equal))
        (behind_of tok fits (tail l f a) s (of.tail tok fits (suc n) l f a s) (tail_verdict tok fits (suc n) l f a s))
        (behind_of tok' fits' (tail l f a) s (of.tail tok' fits' (suc n) l f a s) (tail_verdict tok' fits' (suc n) l f a s))

    pub unary_local : (n : ℕ) (s : Spot) → Local K D s (of.unary tok fits n s) (of.unary tok' fits' n s)
    unary_local zero s = (equal, λ k. (tt, tt))
    unary_local (suc n) s = local_at K D s _ _
        (λ h. alike_some K D (prefix_at (tok s.at)) (prefix_at (tok' s.at)) _ _ (of.postfix tok fits n s) (of.postfix tok' fits' n s) (ap prefix_at (same s.at h))
        (λ make. (local_then K D s (of.take tok fits opened) (of.take tok' fits' opened) _ _ (take_local K D tok tok' fits fits' agree opened s (omega arith))
        (λ t. local_bind K D (λ a. pure (make s.at s.at a)) (λ a. pure (make s.at s.at a)) (λ a u. pure_local K D (make s.at s.at a) u) t (of.unary tok fits n) (of.unary tok' fits' n) (unary_local n t))).0)
        ((postfix_local n s).0))
        (behind_of tok fits (chain 0) s (of.unary tok fits (suc n) s) (unary_verdict tok fits (suc n) s))
        (behind_of tok' fits' (chain 0) s (of.unary tok' fits' (suc n) s) (unary_verdict tok' fits' (suc n) s))

    pub postfix_local : (n : ℕ) (s : Spot) → Local K D s (of.postfix tok fits n s) (of.postfix tok' fits' n s)
    postfix_local zero s = (equal, λ k. (tt, tt))
    postfix_local (suc n) s = local_bind K D (λ a. of.more tok fits n s.at a) (λ a. of.more tok' fits' n s.at a) (λ a t. more_local n s.at a t) s (of.primary tok fits n) (of.primary tok' fits' n) (primary_local n s)

    pub more_local : (n f : ℕ) (a : Expr) (s : Spot) → Local K D s (of.more tok fits n f a s) (of.more tok' fits' n f a s)
    more_local zero f a s = (equal, λ k. (tt, tt))
    more_local (suc n) f a s = local_at K D s _ _
        (λ h. alike_some K D (field_at (tok s.at)) (field_at (tok' s.at)) _ _ _ _ (ap field_at (same s.at h))
        (λ make. (local_then K D s (of.take tok fits opened) (of.take tok' fits' opened) _ _ (take_local K D tok tok' fits fits' agree opened s (omega arith))
        (λ t. local_then K D t (of.expect_name tok fits) (of.expect_name tok' fits') (of.more tok fits n f (make f s.at a (suc s.at))) (of.more tok' fits' n f (make f s.at a (suc s.at))) (name_local K D tok tok' fits fits' agree t)
        (λ u. more_local n f (make f s.at a (suc s.at)) u))).0)
        (alike_if K D (is_sign punct.OpenSquare (tok s.at)) (is_sign punct.OpenSquare (tok' s.at)) _ (got a s) _ (got a s) (ap (is_sign punct.OpenSquare) (same s.at h))
        ((local_then K D s (of.take tok fits opened) (of.take tok' fits' opened) _ _ (take_local K D tok tok' fits fits' agree opened s (omega arith))
        (λ t. local_bind K D (λ i. of.close tok fits punct.CloseSquare (suc s.level) >> of.more tok fits n f (tree.Index f s.at a i)) (λ i. of.close tok' fits' punct.CloseSquare (suc s.level) >> of.more tok' fits' n f (tree.Index f s.at a i))
        (λ i u. local_then K D u (of.close tok fits punct.CloseSquare (suc s.level)) (of.close tok' fits' punct.CloseSquare (suc s.level)) (of.more tok fits n f (tree.Index f s.at a i)) (of.more tok' fits' n f (tree.Index f s.at a i))
        (close_local K D tok tok' fits fits' agree punct.CloseSquare (suc s.level) u) (λ v. more_local n f (tree.Index f s.at a i) v))
        t (of.chain tok fits n 6) (of.chain tok' fits' n 6) (chain_local n 6 t))).0)
        (equal)))
        (behind_of tok fits (more f a) s (of.more tok fits (suc n) f a s) (more_verdict tok fits (suc n) f a s))
        (behind_of tok' fits' (more f a) s (of.more tok' fits' (suc n) f a s) (more_verdict tok' fits' (suc n) f a s))

    pub primary_local : (n : ℕ) (s : Spot) → Local K D s (of.primary tok fits n s) (of.primary tok' fits' n s)
    primary_local zero s = (equal, λ k. (tt, tt))
    primary_local (suc n) s = local_at K D s _ _
        (λ h. subst (λ q. Alike K D (of.primary_from tok fits n (start_at (tok s.at)) s) (of.primary_from tok' fits' n q s)) (sym (ap start_at (same s.at h))) (start_alike n (start_at (tok s.at)) s h (start_tells (tok s.at))))
        (behind_of tok fits postfix s (of.primary tok fits (suc n) s) (primary_verdict tok fits (suc n) s))
        (behind_of tok' fits' postfix s (of.primary tok' fits' (suc n) s) (primary_verdict tok' fits' (suc n) s))

    start_alike : (n : ℕ) (q : Start) (s : Spot) → s.at < K → Starts q (tok s.at) → Alike K D (of.primary_from tok fits n q s) (of.primary_from tok' fits' n q s)
    start_alike zero q s h e = equal
    start_alike (suc n) a_name s h e = (local_then K D s (of.take tok fits passed) (of.take tok' fits' passed) (of.named tok fits n s.at) (of.named tok' fits' n s.at) (take_local K D tok tok' fits fits' agree passed s (omega arith)) (λ t. named_local n s.at t)).0
    start_alike (suc n) (a_number z) s h e = (local_then K D s (of.take tok fits passed) (of.take tok' fits' passed) (pure (tree.Number s.at s.at z)) (pure (tree.Number s.at s.at z)) (take_local K D tok tok' fits fits' agree passed s (omega arith)) (λ t. pure_local K D (tree.Number s.at s.at z) t)).0
    start_alike (suc n) a_null s h e = (local_then K D s (of.take tok fits passed) (of.take tok' fits' passed) (pure (tree.Null s.at s.at)) (pure (tree.Null s.at s.at)) (take_local K D tok tok' fits fits' agree passed s (omega arith)) (λ t. pure_local K D (tree.Null s.at s.at) t)).0
    start_alike (suc n) a_malloc s h e = (allocated_local n s.at None s).0
    start_alike (suc zero) a_paren s h e = equal
    start_alike (suc (suc n)) a_paren s h e = parens_alike n s h e (inside_local n s)
    start_alike (suc n) no_start s h e = equal

    pub inside_local : (n : ℕ) (s : Spot) → Local K D s (of.inside tok fits n s) (of.inside tok' fits' n s)
    inside_local zero s = (equal, λ k. (tt, tt))
    inside_local (suc n) s = local_bind K D (λ a. pure (with_first s.at a)) (λ a. pure (with_first s.at a)) (λ a t. pure_local K D (with_first s.at a) t) s (of.bracketed tok fits n) (of.bracketed tok' fits' n) (bracketed_local n s)

    pub named_local : (n f : ℕ) (s : Spot) → Local K D s (of.named tok fits n f s) (of.named tok' fits' n f s)
    named_local zero f s = (equal, λ k. (tt, tt))
    named_local (suc n) f s = local_at K D s _ _
        (λ h. alike_if K D (is_sign punct.Open (tok s.at)) (is_sign punct.Open (tok' s.at)) _ (got (tree.Name f f) s) _ (got (tree.Name f f) s) (ap (is_sign punct.Open) (same s.at h))
        ((local_bind K D (λ l. pure (tree.Call f f l)) (λ l. pure (tree.Call f f l)) (λ l t. pure_local K D (tree.Call f f l) t) s (of.arguments tok fits n) (of.arguments tok' fits' n) (arguments_local n s)).0)
        (equal))
        (behind_of tok fits (named f) s (of.named tok fits (suc n) f s) (named_verdict tok fits (suc n) f s))
        (behind_of tok' fits' (named f) s (of.named tok' fits' (suc n) f s) (named_verdict tok' fits' (suc n) f s))

    pub bracketed_local : (n : ℕ) (s : Spot) → Local K D s (of.bracketed tok fits n s) (of.bracketed tok' fits' n s)
    bracketed_local zero s = (equal, λ k. (tt, tt))
    bracketed_local (suc n) s = local_then K D s (of.expect tok fits punct.Open opened) (of.expect tok' fits' punct.Open opened) _ _ (sign_local K D tok tok' fits fits' agree punct.Open opened s (omega arith))
        (λ t. local_bind K D (λ a. of.close tok fits punct.Close s.level >> pure a) (λ a. of.close tok' fits' punct.Close s.level >> pure a)
        (λ a u. local_then K D u (of.close tok fits punct.Close s.level) (of.close tok' fits' punct.Close s.level) (pure a) (pure a) (close_local K D tok tok' fits fits' agree punct.Close s.level u) (λ v. pure_local K D a v))
        t (of.chain tok fits n 6) (of.chain tok' fits' n 6) (chain_local n 6 t))

    pub arguments_local : (n : ℕ) (s : Spot) → Local K D s (of.arguments tok fits n s) (of.arguments tok' fits' n s)
    arguments_local zero s = (equal, λ k. (tt, tt))
    arguments_local (suc n) s = local_then K D s (of.expect tok fits punct.Open opened) (of.expect tok' fits' punct.Open opened) _ _ (sign_local K D tok tok' fits fits' agree punct.Open opened s (omega arith))
        (λ t. local_bind K D (λ l. of.close tok fits punct.Close (suc s.level) >> pure l) (λ l. of.close tok' fits' punct.Close (suc s.level) >> pure l)
        (λ l u. local_then K D u (of.close tok fits punct.Close (suc s.level)) (of.close tok' fits' punct.Close (suc s.level)) (pure l) (pure l) (close_local K D tok tok' fits fits' agree punct.Close (suc s.level) u) (λ v. pure_local K D l v))
        t (of.args tok fits n) (of.args tok' fits' n) (args_local n t))

    pub args_local : (n : ℕ) (s : Spot) → Local K D s (of.args tok fits n s) (of.args tok' fits' n s)
    args_local zero s = (equal, λ k. (tt, tt))
    args_local (suc n) s = local_at K D s _ _
        (λ h. alike_if K D (is_sign punct.Close (tok s.at)) (is_sign punct.Close (tok' s.at)) (got [] s) _ (got [] s) _ (ap (is_sign punct.Close) (same s.at h)) (equal)
        ((local_bind K D (λ a. of.args_more tok fits n s.level (a ∷ [])) (λ a. of.args_more tok' fits' n s.level (a ∷ [])) (λ a t. args_more_local n s.level (a ∷ []) t) s (of.chain tok fits n 6) (of.chain tok' fits' n 6) (chain_local n 6 s)).0))
        (behind_of tok fits args s (of.args tok fits (suc n) s) (args_verdict tok fits (suc n) s))
        (behind_of tok' fits' args s (of.args tok' fits' (suc n) s) (args_verdict tok' fits' (suc n) s))

    pub args_more_local : (n k : ℕ) (l : List Expr) (s : Spot) → Local K D s (of.args_more tok fits n k l s) (of.args_more tok' fits' n k l s)
    args_more_local zero k l s = (equal, λ k. (tt, tt))
    args_more_local (suc n) k l s = local_at K D s _ _
        (λ h. alike_if K D (is_sign punct.Comma (tok s.at)) (is_sign punct.Comma (tok' s.at)) _ (got l s) _ (got l s) (ap (is_sign punct.Comma) (same s.at h))
        ((local_then K D s (of.close tok fits punct.Comma k) (of.close tok' fits' punct.Comma k) _ _ (close_local K D tok tok' fits fits' agree punct.Comma k s)
        (λ t. local_bind K D (λ a. of.args_more tok fits n k (l ++ a ∷ [])) (λ a. of.args_more tok' fits' n k (l ++ a ∷ [])) (λ a u. args_more_local n k (l ++ a ∷ []) u) t (of.chain tok fits n 6) (of.chain tok' fits' n 6) (chain_local n 6 t))).0)
        (equal))
        (behind_of tok fits (arguments_rest k l) s (of.args_more tok fits (suc n) k l s) (args_more_verdict tok fits (suc n) k l s))
        (behind_of tok' fits' (arguments_rest k l) s (of.args_more tok' fits' (suc n) k l s) (args_more_verdict tok' fits' (suc n) k l s))
