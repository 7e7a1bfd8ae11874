-- What is parsed has a derivation.
use Rattle.std.proofs.Common.{◌≡◌, ℕ, zero, suc, Bool, false, List, [], ◌∷◌, ◌++◌, Option, Some, None, if◌then◌else◌, refl}
use Rattle.cc_model.specs.declared.tokens.Kind.{Kind}
use Rattle.cc_model.specs.declared.tokens.Punct.TheVariants as punct
use Rattle.cc_model.specs.declared.tokens.Keyword.{Keyword}
use Rattle.cc_model.specs.declared.tokens.Keyword.TheVariants as keyword
use Rattle.cc_model.specs.declared.trees.Base.{Base}
use Rattle.cc_model.specs.declared.trees.Expr.{Expr}
use Rattle.cc_model.specs.declared.trees.Expr.TheVariants as tree
use Rattle.cc_model.specs.Spots.{Spot, opened, closed, passed, back, Is, IsKey, IsName}
use Rattle.cc_model.specs.ReadTypes.{BaseType, Stars, Typed}
use Rattle.cc_model.specs.ReadTypes as type
use Rattle.cc_model.specs.ReadExpressions.{Binary, Prefix, FieldOf, with_first}
use Rattle.cc_model.specs.ReadExpressions as by
use Rattle.c_expressions.specs.Descent.{Got, got, failed, spent, P, go_on, ◌>>=◌, ◌>>◌, pure, leave, wrong, out, Ends, is_sign, binary_at, prefix_at, field_at, on_some, Start, a_name, a_number, a_null, a_malloc, a_paren, no_start, start_at, BaseStart, an_int, a_struct, an_alias, no_base, base_at}
use Rattle.c_expressions.specs.Descent as of
use Rattle.c_expressions.proofs.Tests.{is_sign_tells, binary_tells, prefix_tells, field_tells, Starts, start_tells, Bases, base_tells}
use Rattle.c_expressions.proofs.Made.{Made, made_choice, made_bind, made_some, made_if, made_map, then_take, then_name, then_close, then_sign, then_word}

module _ (tok : ℕ → Option Kind) (fits : ℕ → ℕ → Bool) where
  -- ---- types

  base_made_from : (s : Spot) (q : BaseStart) → Bases q (tok s.at) → Made (λ b t. BaseType tok fits s t b) (of.base_from tok fits q s)
  unfolding of.base_from pure wrong
  base_made_from s an_int e = then_take tok fits _ s passed _ (λ f. type.int (e, f))
  base_made_from s a_struct e = then_take tok fits _ s passed _ (λ f. then_name tok fits _ (passed s) _ (λ i. type.struct (e, f) i))
  base_made_from s an_alias e = then_take tok fits _ s passed _ (λ f. type.alias (e, f))
  base_made_from s no_base e = tt

  pub base_made : (s : Spot) → Made (λ b t. BaseType tok fits s t b) (of.base_type tok fits s)
  unfolding of.base_type
  base_made s = base_made_from s (base_at (tok s.at)) (base_tells (tok s.at))

  pub stars_made : (n : ℕ) (s : Spot) → Made (λ k t. Stars tok fits s t k) (of.stars tok fits n s)
  unfolding of.stars out leave
  stars_made zero s = tt
  stars_made (suc n) s = made_if (λ k t. Stars tok fits s t k) (is_sign punct.Star (tok s.at)) _ (got 0 s)
      (λ e. then_take tok fits _ s opened _ (λ f. made_bind _ _ (opened s) (of.stars tok fits n) (λ k. leave s.level (suc k)) (stars_made n (opened s)) (λ k t d. type.star (is_sign_tells punct.Star (tok s.at) e, f) d)))
      (λ _. type.none)

  pub type_made : (n : ℕ) (s : Spot) → Made (λ ty t. Typed tok fits s t ty) (of.type_name tok fits n s)
  unfolding of.type_name pure
  type_made n s = made_bind _ _ s (of.base_type tok fits) (λ b. of.stars tok fits n >>= λ k. pure (record { base = b; stars = k })) (base_made s)
      (λ b t d. made_bind _ (λ ty u. Typed tok fits s u ty) t (of.stars tok fits n) (λ k. pure (record { base = b; stars = k })) (stars_made n t) (λ k u e. type.typed d e))

  -- a word, then a part in parentheses
  worded_made : {A : Type 0} (k : Keyword) (f : P A) (s : Spot) (R : A → Spot → Type 0) → Made R (f (opened (passed s))) →
      Made (λ a u. IsKey tok fits k s × Is tok fits punct.Open (passed s) × (t : Spot) × R a t × Is tok fits punct.Close (back t s.level) × (u ≡ closed t s.level)) (of.worded tok fits k f s)
  unfolding of.worded pure
  worded_made k f s R h = then_word tok fits _ s k _ (λ i. then_sign tok fits _ (passed s) punct.Open opened _ (λ o.
      made_bind R _ (opened (passed s)) f (λ a. of.close tok fits punct.Close s.level >> pure a) h
      (λ a t d. then_close tok fits _ t punct.Close s.level _ (λ c. (i, o, t, d, c, refl)))))

  pub sound_allocation : (n : ℕ) (s : Spot) → Made (λ ty t. by.Allocation tok fits s t ty) (of.allocation tok fits n s)
  unfolding of.allocation of.sized
  sound_allocation n s = made_map _ _ (of.allocation tok fits n s)
      (λ ty u d. rw d.5 (rw d.3.5 (by.Allocation.malloc d.0 d.1 d.3.0 d.3.1 d.3.3 d.3.4 (rw d.3.5 at d.4))))
      (worded_made keyword.Malloc (of.sized tok fits n) s _ (worded_made keyword.Sizeof (of.type_name tok fits n) (opened (passed s)) _ (type_made n _)))

  cast_type_made : (n : ℕ) (s : Spot) → Made (λ ty v. (b : Base) × (k : ℕ) × (t : Spot) × (u : Spot) × Is tok fits punct.Open s × BaseType tok fits (opened s) t b × Is tok fits punct.Star t ×
      Stars tok fits (opened t) u k × Is tok fits punct.Close (back u s.level) × (ty ≡ record { base = b; stars = suc k }) × (v ≡ closed u s.level)) (of.cast_type tok fits n s)
  unfolding of.cast_type pure
  cast_type_made n s = then_sign tok fits _ s punct.Open opened _ (λ o. made_bind _ _ (opened s) (of.base_type tok fits)
      (λ b. of.expect tok fits punct.Star opened >> (of.stars tok fits n >>= λ k. of.close tok fits punct.Close s.level >> pure (record { base = b; stars = suc k }))) (base_made (opened s))
      (λ b t d. then_sign tok fits _ t punct.Star opened _ (λ x. made_bind _ _ (opened t) (of.stars tok fits n) (λ k. of.close tok fits punct.Close s.level >> pure (record { base = b; stars = suc k })) (stars_made n (opened t))
      (λ k u e. then_close tok fits _ u punct.Close s.level _ (λ c. (b, k, t, u, o, d, x, e, c, refl, refl))))))

  pub sound_cast : (n : ℕ) (s : Spot) → Made (λ a t. by.Postfix tok fits s t a) (of.cast tok fits n s)
  unfolding of.cast of.allocated pure
  sound_cast n s = made_bind _ _ s (of.cast_type tok fits n) (λ ty. of.allocated tok fits n s.at (Some ty)) (cast_type_made n s)
      (λ ty t d. made_bind _ (λ a v. by.Postfix tok fits s v a) t (of.allocation tok fits n) (λ x. pure (tree.Malloc s.at t.at (Some ty) x)) (sound_allocation n t)
      (λ x v e. rw d.9 (rw d.10 (by.cast d.4 d.5 d.6 d.7 d.8 (rw d.10 at e)))))

  closes_made : (n i : ℕ) (s : Spot) → Made (λ _ t. t ≡ s) (of.closes tok fits n i s)
  unfolding of.closes out
  closes_made zero i s = tt
  closes_made (suc n) i s = made_if (λ _ t. t ≡ s) (is_sign punct.Star (tok i)) (of.closes tok fits n (suc i) s) _ (λ _. closes_made n (suc i) s) (λ _. refl)

  casts_made_from : (n : ℕ) (q : BaseStart) (s : Spot) → Made (λ _ t. t ≡ s) (of.casts_from tok fits n q s)
  unfolding of.casts_from pure
  casts_made_from n an_int s = refl
  casts_made_from n a_struct s = refl
  casts_made_from n an_alias s = made_if (λ _ t. t ≡ s) (is_sign punct.Star (tok (suc (suc s.at)))) (of.closes tok fits n (suc (suc s.at)) s) (got false s) (λ _. closes_made n (suc (suc s.at)) s) (λ _. refl)
  casts_made_from n no_base s = refl

  pub casts_made : (n : ℕ) (s : Spot) → Made (λ _ t. t ≡ s) (of.casts tok fits n s)
  unfolding of.casts
  casts_made n s = casts_made_from n (base_at (tok (suc s.at))) s

  mutual
    unfolding of.chain of.tail of.unary of.postfix of.more of.primary of.primary_from of.parens of.inside of.bracketed of.arguments of.allocated of.named of.args of.args_more out wrong pure

    pub sound_chain : (n l : ℕ) (s : Spot) → Made (λ a t. by.Exp tok fits l s t a) (of.chain tok fits n l s)
    sound_chain zero l s = tt
    sound_chain (suc n) zero s = sound_unary n s
    sound_chain (suc n) (suc l) s = made_bind _ (λ a t. by.Exp tok fits (suc l) s t a) s (of.chain tok fits n l) (λ a. of.tail tok fits n l s.at a)
        (sound_chain n l s) (λ a t d. sound_tail n l s t a (by.one d))

    pub sound_tail : (n l : ℕ) (s t : Spot) (a : Expr) → by.Exp tok fits (suc l) s t a → Made (λ b u. by.Exp tok fits (suc l) s u b) (of.tail tok fits n l s.at a t)
    sound_tail zero l s t a d = tt
    sound_tail (suc n) l s t a d = made_some (λ b u. by.Exp tok fits (suc l) s u b) (binary_at (suc l) (tok t.at)) _ (got a t)
        (λ make e. let q = binary_tells (suc l) (tok t.at) make e in
        then_take tok fits _ t opened _ (λ f. made_bind _ _ (opened t) (of.chain tok fits n l) (λ b. of.tail tok fits n l s.at (make s.at t.at a b))
        (sound_chain n l (opened t)) (λ b u h. sound_tail n l s u (make s.at t.at a b) (by.binary q.0 make d q.2 (q.1, f) h))))
        (λ e. d)

    pub sound_unary : (n : ℕ) (s : Spot) → Made (λ a t. by.Exp tok fits 0 s t a) (of.unary tok fits n s)
    sound_unary zero s = tt
    sound_unary (suc n) s = made_some (λ a t. by.Exp tok fits 0 s t a) (prefix_at (tok s.at)) _ (of.postfix tok fits n s)
        (λ make e. let q = prefix_tells (tok s.at) make e in
        then_take tok fits _ s opened _ (λ f. made_bind _ _ (opened s) (of.unary tok fits n) (λ a. pure (make s.at s.at a))
        (sound_unary n (opened s)) (λ a t h. by.prefix q.0 make q.2 (q.1, f) h)))
        (λ e. made_map _ _ (of.postfix tok fits n s) (λ a t d. by.plain d) (sound_postfix n s))

    pub sound_postfix : (n : ℕ) (s : Spot) → Made (λ a t. by.Postfix tok fits s t a) (of.postfix tok fits n s)
    sound_postfix zero s = tt
    sound_postfix (suc n) s = made_bind _ (λ a t. by.Postfix tok fits s t a) s (of.primary tok fits n) (λ a. of.more tok fits n s.at a) (sound_primary n s) (λ a t d. sound_more n s t a d)

    pub sound_more : (n : ℕ) (s t : Spot) (a : Expr) → by.Postfix tok fits s t a → Made (λ b u. by.Postfix tok fits s u b) (of.more tok fits n s.at a t)
    sound_more zero s t a d = tt
    sound_more (suc n) s t a d = made_some (λ b u. by.Postfix tok fits s u b) (field_at (tok t.at)) _ _
        (λ make e. let q = field_tells (tok t.at) make e in
        then_take tok fits _ t opened _ (λ f. then_name tok fits _ (opened t) _ (λ g. sound_more n s (passed (opened t)) (make s.at t.at a (suc t.at)) (by.field q.0 make d q.2 (q.1, f) g))))
        (λ _. made_if (λ b u. by.Postfix tok fits s u b) (is_sign punct.OpenSquare (tok t.at)) _ (got a t)
        (λ e. then_take tok fits _ t opened _ (λ f. made_bind _ _ (opened t) (of.chain tok fits n 6) (λ i. of.close tok fits punct.CloseSquare (suc t.level) >> of.more tok fits n s.at (tree.Index s.at t.at a i))
        (sound_chain n 6 (opened t)) (λ i u h. then_close tok fits _ u punct.CloseSquare (suc t.level) _
        (λ c. sound_more n s (closed u (suc t.level)) (tree.Index s.at t.at a i) (by.index d (is_sign_tells punct.OpenSquare (tok t.at) e, f) h c)))))
        (λ _. d))

    pub sound_primary : (n : ℕ) (s : Spot) → Made (λ a t. by.Postfix tok fits s t a) (of.primary tok fits n s)
    sound_primary zero s = tt
    sound_primary (suc n) s = sound_from n s (start_at (tok s.at)) (start_tells (tok s.at))

    pub sound_from : (n : ℕ) (s : Spot) (q : Start) → Starts q (tok s.at) → Made (λ a t. by.Postfix tok fits s t a) (of.primary_from tok fits n q s)
    sound_from zero s q e = tt
    sound_from (suc n) s a_name e = then_take tok fits _ s passed _ (λ f. sound_named n s (e, f))
    sound_from (suc n) s (a_number z) e = then_take tok fits _ s passed _ (λ f. by.number z (e, f))
    sound_from (suc n) s a_null e = then_take tok fits _ s passed _ (λ f. by.null (e, f))
    sound_from (suc n) s a_malloc e = made_bind (λ ty t. by.Allocation tok fits s t ty) _ s (of.allocation tok fits n) (λ ty. pure (tree.Malloc s.at s.at None ty))
        (sound_allocation n s) (λ ty t d. by.Postfix.malloc d)
    sound_from (suc n) s a_paren e = sound_parens n s
    sound_from (suc n) s no_start e = tt

    pub sound_parens : (n : ℕ) (s : Spot) → Made (λ a t. by.Postfix tok fits s t a) (of.parens tok fits n s)
    sound_parens zero s = tt
    sound_parens (suc n) s = made_bind (λ _ t. t ≡ s) _ s (of.casts tok fits n) (λ c. if c then of.cast tok fits n else of.inside tok fits n)
        (casts_made n s) (λ c t d. rw d (made_choice _ c (of.cast tok fits n) (of.inside tok fits n) s (sound_cast n s) (sound_inside n s)))

    sound_inside : (n : ℕ) (s : Spot) → Made (λ a t. by.Postfix tok fits s t a) (of.inside tok fits n s)
    sound_inside zero s = tt
    sound_inside (suc n) s = made_bind (λ a t. by.Bracketed tok fits s t a) _ s (of.bracketed tok fits n) (λ a. pure (with_first s.at a)) (sound_bracketed n s) (λ a t d. by.paren d)

    pub sound_named : (n : ℕ) (s : Spot) → IsName tok fits s → Made (λ a t. by.Postfix tok fits s t a) (of.named tok fits n s.at (passed s))
    sound_named zero s i = tt
    sound_named (suc n) s i = made_if (λ a t. by.Postfix tok fits s t a) (is_sign punct.Open (tok (suc s.at))) _ (got (tree.Name s.at s.at) (passed s))
        (λ e. made_bind (λ l t. by.Arguments tok fits (passed s) t l) _ (passed s) (of.arguments tok fits n) (λ l. pure (tree.Call s.at s.at l)) (sound_arguments n (passed s)) (λ l t d. by.call i d))
        (λ _. by.name i)

    pub sound_bracketed : (n : ℕ) (s : Spot) → Made (λ a t. by.Bracketed tok fits s t a) (of.bracketed tok fits n s)
    sound_bracketed zero s = tt
    sound_bracketed (suc n) s = then_sign tok fits _ s punct.Open opened _ (λ o. made_bind _ _ (opened s) (of.chain tok fits n 6) (λ a. of.close tok fits punct.Close s.level >> pure a)
        (sound_chain n 6 (opened s)) (λ a t h. then_close tok fits _ t punct.Close s.level _ (λ c. by.bracketed o h c)))

    pub sound_arguments : (n : ℕ) (s : Spot) → Made (λ l t. by.Arguments tok fits s t l) (of.arguments tok fits n s)
    sound_arguments zero s = tt
    sound_arguments (suc n) s = then_sign tok fits _ s punct.Open opened _ (λ o. made_bind _ _ (opened s) (of.args tok fits n) (λ l. of.close tok fits punct.Close (suc s.level) >> pure l)
        (sound_args n (opened s)) (λ l t h. then_close tok fits _ t punct.Close (suc s.level) _ (λ c. by.arguments o h c)))

    pub sound_args : (n : ℕ) (s : Spot) → Made (λ l t. by.Args tok fits s t l) (of.args tok fits n s)
    sound_args zero s = tt
    sound_args (suc n) s = made_if (λ l t. by.Args tok fits s t l) (is_sign punct.Close (tok s.at)) (got [] s) _
        (λ _. by.empty)
        (λ _. made_bind _ _ s (of.chain tok fits n 6) (λ a. of.args_more tok fits n s.level (a ∷ [])) (sound_chain n 6 s) (λ a t h. sound_args_more n s t (a ∷ []) (by.first h)))

    pub sound_args_more : (n : ℕ) (s t : Spot) (l : List Expr) → by.SomeArgs tok fits s t l → Made (λ l t. by.Args tok fits s t l) (of.args_more tok fits n s.level l t)
    sound_args_more zero s t l d = tt
    sound_args_more (suc n) s t l d = made_if (λ l t. by.Args tok fits s t l) (is_sign punct.Comma (tok t.at)) _ (got l t)
        (λ _. then_close tok fits _ t punct.Comma s.level _ (λ c. made_bind _ _ (closed t s.level) (of.chain tok fits n 6) (λ a. of.args_more tok fits n s.level (l ++ a ∷ []))
        (sound_chain n 6 (closed t s.level)) (λ a u h. sound_args_more n s u (l ++ a ∷ []) (by.next d c h))))
        (λ _. by.some d)
