-- Over two lists of tokens that agree up to a place, a declaration, a statement and a block are read alike.
use Rattle.std.proofs.Common.{◌≡◌, ◌⊎◌, inl, inr, ℕ, zero, suc, ◌≤◌, ◌<◌, Bool, true, false, List, [], ◌∷◌, ◌++◌, Option, Some, None, if◌then◌else◌, refl, ap, ◌∙◌, arith}
use Rattle.cc_model.specs.declared.tokens.Kind.{Kind}
use Rattle.cc_model.specs.declared.tokens.Kind.TheVariants as kind
use Rattle.cc_model.specs.declared.tokens.Punct.{Punct}
use Rattle.cc_model.specs.declared.tokens.Punct.TheVariants as punct
use Rattle.cc_model.specs.declared.tokens.Keyword.TheVariants as keyword
use Rattle.cc_model.specs.declared.trees.Base.{Base}
use Rattle.cc_model.specs.declared.trees.Expr.{Expr}
use Rattle.cc_model.specs.declared.trees.Decl.{Decl}
use Rattle.cc_model.specs.declared.trees.Head.TheVariants as a_head
use Rattle.cc_model.specs.declared.trees.Stmt.{Stmt}
use Rattle.cc_model.specs.declared.trees.Stmt.TheVariants as a_stmt
use Rattle.cc_model.specs.declared.trees.Part.{Part}
use Rattle.cc_model.specs.declared.trees.Part.TheVariants as a_part
use Rattle.cc_model.specs.Spots.{Spot, opened, passed, back}
use Rattle.c_expressions.specs.Descent.{Fault, bad, deep, Got, got, failed, spent, P, go_on, ◌>>=◌, ◌>>◌, pure, leave, wrong, out, is_sign, is_key, is_name, prefix_at, on_some, base_at}
use Rattle.c_expressions.specs.Descent as of
use Rattle.c_statements.specs.DescentStatements.{branch, given, number_at, begins_decl, assign_at, behind_at, call_of, is_left_out, SimpleStart, an_assert, an_assume, an_abort, a_crest_int, a_step, a_unary, simple_at, StmtStart, an_empty, a_block, an_if, a_while, a_do, a_for, a_return, a_break, a_continue, a_plain, stmt_at}
use Rattle.c_statements.specs.DescentStatements as st
use Rattle.c_expressions.proofs.ViableExpressions.{chain, unary_verdict}
use Rattle.c_parse.proofs.Agree.{equal, Local, Agree, itself, before, behind_of, local_split, if_behind, local_bind, local_then, local_made, ends_on, pure_local, leave_local, bad_local, take_local, sign_local, word_local, close_local, name_local}
use Rattle.c_parse.proofs.AgreeParts.{branch_local, given_local, pick_local, many_local}
use Rattle.c_parse.proofs.Walks.{Walks, walks_spent, walks_bind, unary_walks, base_takes, walks_alike}
use Rattle.c_parse.proofs.AgreeExpressions.{base_local, stars_local, chain_local, unary_local, bracketed_local}

module _ (K D : ℕ) (tok tok' : ℕ → Option Kind) (fits fits' : ℕ → ℕ → Bool) (agree : Agree K D tok tok' fits fits') where
  pub has_same : (p : Punct) (s : Spot) → s.at < K → st.has tok' fits' p s ≡ st.has tok fits p s
  unfolding st.has
  has_same p s h = ap (is_sign p) (agree.same s.at h)

  lacks_same : (p : Punct) (s : Spot) → s.at < K → st.lacks tok' fits' p s ≡ st.lacks tok fits p s
  unfolding st.lacks
  lacks_same p s h = ap (λ k. if is_sign p k then false else true) (agree.same s.at h)

  -- one token, and what goes on behind it
  pub take_then : {B : Type 0} (next : Spot → Spot) (f g : P B) (s : Spot) → s.at ≤ (next s).at → ((t : Spot) → Local K D t (f t) (g t)) → Local K D s ((of.take tok fits next >> f) s) ((of.take tok' fits' next >> g) s)
  take_then next f g s h k = local_then K D s (of.take tok fits next) (of.take tok' fits' next) f g (take_local K D tok tok' fits fits' agree next s h) k

  pub sign_then : {B : Type 0} (p : Punct) (next : Spot → Spot) (f g : P B) (s : Spot) → s.at ≤ (next s).at → ((t : Spot) → Local K D t (f t) (g t)) → Local K D s ((of.expect tok fits p next >> f) s) ((of.expect tok' fits' p next >> g) s)
  sign_then p next f g s h k = local_then K D s (of.expect tok fits p next) (of.expect tok' fits' p next) f g (sign_local K D tok tok' fits fits' agree p next s h) k

  pub name_then : {B : Type 0} (f g : P B) (s : Spot) → ((t : Spot) → Local K D t (f t) (g t)) → Local K D s ((of.expect_name tok fits >> f) s) ((of.expect_name tok' fits' >> g) s)
  name_then f g s k = local_then K D s (of.expect_name tok fits) (of.expect_name tok' fits') f g (name_local K D tok tok' fits fits' agree s) k

  pub close_then : {B : Type 0} (p : Punct) (n : ℕ) (f g : P B) (s : Spot) → ((t : Spot) → Local K D t (f t) (g t)) → Local K D s ((of.close tok fits p n >> f) s) ((of.close tok' fits' p n >> g) s)
  close_then p n f g s k = local_then K D s (of.close tok fits p n) (of.close tok' fits' p n) f g (close_local K D tok tok' fits fits' agree p n s) k

  -- the `;` at an end
  pub semicolon_end : {A : Type 0} (a : A) (s : Spot) → Local K D s ((of.expect tok fits punct.Semicolon passed >> pure a) s) ((of.expect tok' fits' punct.Semicolon passed >> pure a) s)
  semicolon_end a s = sign_then punct.Semicolon passed (pure a) (pure a) s (omega arith) (λ t. pure_local K D a t)

  -- ---- declarations

  pub number_local : (s : Spot) → Local K D s (st.expect_number tok fits s) (st.expect_number tok' fits' s)
  unfolding st.expect_number wrong
  number_local s = given_local K D _ _ _ _ _ _ s (λ h. ap number_at (agree.same s.at h)) (λ z. take_then passed (pure z) (pure z) s (omega arith) (λ t. pure_local K D z t)) (bad_local K D s)

  length_local : (n : ℕ) (s : Spot) → Local K D s (st.length tok fits n s) (st.length tok' fits' n s)
  unfolding st.length st.here
  length_local n s = take_then opened _ _ s (omega arith) (λ t. local_bind K D _ _ (λ z u. sign_then punct.CloseSquare passed _ _ u (omega arith) (λ v. pure_local K D _ v))
      t (st.expect_number tok fits) (st.expect_number tok' fits') (number_local t))

  pub declarator_rest_local : (n level k x : ℕ) (s : Spot) → Local K D s (st.declarator_from tok fits n level k x s) (st.declarator_from tok' fits' n level k x s)
  unfolding st.declarator_from
  declarator_rest_local n level k x s = local_bind K D _ _ (λ l t. leave_local K D level _ t) s (st.many tok fits (st.lacks tok fits punct.OpenSquare) (st.length tok fits) n []) (st.many tok' fits' (st.lacks tok' fits' punct.OpenSquare) (st.length tok' fits') n [])
      (many_local K D tok tok' fits fits' (st.lacks tok fits punct.OpenSquare) (st.lacks tok' fits' punct.OpenSquare) (st.length tok fits) (st.length tok' fits') (lacks_same punct.OpenSquare) length_local n [] s)

  pub declarator_local : (n : ℕ) (s : Spot) → Local K D s (st.declarator tok fits n s) (st.declarator tok' fits' n s)
  unfolding st.declarator st.here
  declarator_local n s = local_bind K D _ _ (λ k t. name_then _ _ t (λ u. declarator_rest_local n s.level k t.at u)) s (of.stars tok fits n) (of.stars tok' fits' n) (stars_local K D tok tok' fits fits' agree n s)

  pub commas_more_local : {A : Type 0} (f g : ℕ → P A) → ((n : ℕ) (s : Spot) → Local K D s (f n s) (g n s)) → (n : ℕ) (l : List A) (s : Spot) → Local K D s (st.commas_more tok fits f n l s) (st.commas_more tok' fits' g n l s)
  unfolding st.commas_more st.comma_then
  commas_more_local f g h n l s = many_local K D tok tok' fits fits' (st.lacks tok fits punct.Comma) (st.lacks tok' fits' punct.Comma) (st.comma_then tok fits f) (st.comma_then tok' fits' g) (lacks_same punct.Comma)
      (λ m t. take_then passed (f m) (g m) t (omega arith) (λ u. h m u)) n l s

  pub commas_local : {A : Type 0} (f g : ℕ → P A) → ((n : ℕ) (s : Spot) → Local K D s (f n s) (g n s)) → (n : ℕ) (s : Spot) → Local K D s (st.commas tok fits f n s) (st.commas tok' fits' g n s)
  unfolding st.commas
  commas_local f g h n s = local_bind K D _ _ (λ a t. commas_more_local f g h n (a ∷ []) t) s (f n) (g n) (h n s)

  initialised_local : (n : ℕ) (s : Spot) → Local K D s (st.initialised tok fits n s) (st.initialised tok' fits' n s)
  unfolding st.initialised st.starting st.here
  initialised_local n s = local_bind K D _ _ (λ d t. branch_local K D (st.has tok fits punct.Assign) (st.has tok' fits' punct.Assign) _ _ _ _ t (has_same punct.Assign t)
      (take_then passed _ _ t (omega arith) (λ u. local_bind K D _ _ (λ a v. leave_local K D s.level _ v) u (of.chain tok fits n 6) (of.chain tok' fits' n 6) (chain_local K D tok tok' fits fits' agree n 6 u)))
      (pure_local K D _ t)) s (st.declarator tok fits n) (st.declarator tok' fits' n) (declarator_local n s)

  -- behind the type
  pub declared_local : (n : ℕ) (b : Base) (s : Spot) →
      Local {A = Decl} K D s ((st.commas tok fits (st.initialised tok fits) n >>= λ l. of.expect tok fits punct.Semicolon passed >> pure (record { base = b; parts = l })) s)
      ((st.commas tok' fits' (st.initialised tok' fits') n >>= λ l. of.expect tok' fits' punct.Semicolon passed >> pure (record { base = b; parts = l })) s)
  declared_local n b s = local_bind K D _ _ (λ l t. semicolon_end _ t) s (st.commas tok fits (st.initialised tok fits) n) (st.commas tok' fits' (st.initialised tok' fits') n)
      (commas_local (st.initialised tok fits) (st.initialised tok' fits') initialised_local n s)

  pub declaration_local : (n : ℕ) (s : Spot) → Local K D s (st.declaration tok fits n s) (st.declaration tok' fits' n s)
  unfolding st.declaration
  declaration_local n s = local_bind K D _ _ (λ b t. declared_local n b t) s (of.base_type tok fits) (of.base_type tok' fits') (base_local K D tok tok' fits fits' agree s)

  -- ---- simple statements

  -- behind a unary expression, which begins at s
  pub behind_local : (n : ℕ) (s : Spot) (a : Expr) (t : Spot) → s.at ≤ t.at → Local K D t (st.behind_unary tok fits n s a t) (st.behind_unary tok' fits' n s a t)
  unfolding st.behind_unary st.assigned st.stepped st.called st.here wrong
  behind_local n s a t o = given_local K D _ _ _ _ _ _ t (λ h. ap assign_at (agree.same t.at h))
      (λ make. take_then passed _ _ t (omega arith) (λ u. local_bind K D _ _ (λ b v. leave_local K D s.level _ v) u (of.chain tok fits n 6) (of.chain tok' fits' n 6) (chain_local K D tok tok' fits fits' agree n 6 u)))
      (given_local K D _ _ _ _ _ _ t (λ h. ap (λ k. behind_at (prefix_at k) (tok' t.at)) (agree.same s.at (omega arith)) ∙ ap (behind_at (prefix_at (tok s.at))) (agree.same t.at h))
      (λ make. take_then passed _ _ t (omega arith) (λ u. pure_local K D _ u))
      (given_local K D _ _ _ _ _ _ t (λ h. ap (λ k. call_of (is_name k) a) (agree.same s.at (omega arith))) (λ l. pure_local K D _ t) (bad_local K D t)))

  pub leave_behind_local : (n : ℕ) (s : Spot) (a : Expr) (t : Spot) → s.at ≤ t.at →
      Local K D t ((leave {A = Unit {0}} s.level tt >> st.behind_unary tok fits n s a) t) ((leave {A = Unit {0}} s.level tt >> st.behind_unary tok' fits' n s a) t)
  unfolding leave ◌>>◌ ◌>>=◌ go_on
  leave_behind_local n s a t o = behind_local n s a (back t s.level) o

  unary_stmt_local : (n : ℕ) (s : Spot) → Local K D s (st.unary_stmt tok fits n s) (st.unary_stmt tok' fits' n s)
  unfolding st.unary_stmt st.here
  unary_stmt_local n s = local_made K D (λ _ t. s.at ≤ t.at) _ _ (λ a t o. leave_behind_local n s a t o) s (of.unary tok fits n) (of.unary tok' fits' n)
      (ends_on s.at (of.unary tok fits n s) (behind_of tok fits (chain 0) s _ (unary_verdict tok fits n s))) (ends_on s.at (of.unary tok' fits' n s) (behind_of tok' fits' (chain 0) s _ (unary_verdict tok' fits' n s)))
      (unary_local K D tok tok' fits fits' agree n s)

  simple_of_local : (n : ℕ) (q : SimpleStart) (s : Spot) → Local K D s (st.simple_of tok fits n q s) (st.simple_of tok' fits' n q s)
  unfolding st.simple_of st.here
  simple_of_local n an_assert s = take_then passed _ _ s (omega arith) (λ t. local_bind K D _ _ (λ a u. pure_local K D _ u) t (of.bracketed tok fits n) (of.bracketed tok' fits' n) (bracketed_local K D tok tok' fits fits' agree n t))
  simple_of_local n an_assume s = take_then passed _ _ s (omega arith) (λ t. local_bind K D _ _ (λ a u. pure_local K D _ u) t (of.bracketed tok fits n) (of.bracketed tok' fits' n) (bracketed_local K D tok tok' fits fits' agree n t))
  simple_of_local n an_abort s = take_then passed _ _ s (omega arith) (λ t. sign_then punct.Open passed _ _ t (omega arith) (λ u. sign_then punct.Close passed _ _ u (omega arith) (λ v. pure_local K D _ v)))
  simple_of_local n a_crest_int s = take_then passed _ _ s (omega arith) (λ t. sign_then punct.Open opened _ _ t (omega arith) (λ u.
      local_bind K D _ _ (λ a v. close_then punct.Close s.level _ _ v (λ w. pure_local K D _ w)) u (of.unary tok fits n) (of.unary tok' fits' n) (unary_local K D tok tok' fits fits' agree n u)))
  simple_of_local n (a_step make) s = take_then passed _ _ s (omega arith) (λ t. local_bind K D _ _ (λ a u. leave_local K D s.level _ u) t (of.unary tok fits n) (of.unary tok' fits' n) (unary_local K D tok tok' fits fits' agree n t))
  simple_of_local n a_unary s = unary_stmt_local n s

  pub simple_local : (n : ℕ) (s : Spot) → Local K D s (st.simple_stmt tok fits n s) (st.simple_stmt tok' fits' n s)
  unfolding st.simple_stmt st.here
  simple_local n s = pick_local K D (λ q. st.simple_of tok fits n q) (λ q. st.simple_of tok' fits' n q) (simple_at (tok s.at)) (simple_at (tok' s.at)) s (λ h. ap simple_at (agree.same s.at h)) (λ q. simple_of_local n q s)

  pub opt_expr_local : (n : ℕ) (s : Spot) → Local K D s (st.opt_expr tok fits n s) (st.opt_expr tok' fits' n s)
  unfolding st.opt_expr st.here
  opt_expr_local n s = branch_local K D (st.has tok fits punct.Semicolon) (st.has tok' fits' punct.Semicolon) _ _ _ _ s (has_same punct.Semicolon s) (pure_local K D None s)
      (local_bind K D _ _ (λ a t. leave_local K D s.level _ t) s (of.chain tok fits n 6) (of.chain tok' fits' n 6) (chain_local K D tok tok' fits fits' agree n 6 s))

  pub opt_simple_local : (n : ℕ) (s : Spot) → Local K D s (st.opt_simple tok fits n s) (st.opt_simple tok' fits' n s)
  unfolding st.opt_simple
  opt_simple_local n s = branch_local K D (λ s. is_left_out (tok s.at)) (λ s. is_left_out (tok' s.at)) _ _ _ _ s (λ h. ap is_left_out (agree.same s.at h)) (pure_local K D None s)
      (local_bind K D _ _ (λ a t. pure_local K D _ t) s (st.simple_stmt tok fits n) (st.simple_stmt tok' fits' n) (simple_local n s))

-- ---- a name, and whatever stands behind it

module _ (K : ℕ) (tok : ℕ → Option Kind) (fits : ℕ → ℕ → Bool) where
  -- the name is taken, or too deep
  abbrev pub Past : {A : Type 0} → Spot → Got A → Type 0
  Past s r = Walks K tok fits (false ∷ []) s r

  declaration_past : (n : ℕ) (s : Spot) → suc s.at ≡ K → tok s.at ≡ Some kind.Name → Past s (st.declaration tok fits n s)
  unfolding st.declaration
  declaration_past n s h e = walks_bind K tok fits (false ∷ []) s (of.base_type tok fits) _ (base_takes K tok fits 0 s e (omega arith)) (λ b t l. ((declared_local K 0 tok tok fits fits (itself K 0 tok fits) n b t).1 l).0)

  unary_stmt_past : (n : ℕ) (s : Spot) → suc s.at ≡ K → tok s.at ≡ Some kind.Name → Past s (st.unary_stmt tok fits n s)
  unfolding st.unary_stmt st.here
  unary_stmt_past n s h e = walks_bind K tok fits (false ∷ []) s (of.unary tok fits n) _ (unary_walks K tok fits n s e h) (λ a t l. ((leave_behind_local K 0 tok tok fits fits (itself K 0 tok fits) n s a t (omega arith)).1 l).0)

  simple_past : (n : ℕ) (s : Spot) → suc s.at ≡ K → tok s.at ≡ Some kind.Name → Past s (st.simple_stmt tok fits n s)
  unfolding st.simple_stmt st.here st.simple_of simple_at
  simple_past n s h e = rw e (unary_stmt_past n s h e)

  opt_simple_past : (n : ℕ) (s : Spot) → suc s.at ≡ K → tok s.at ≡ Some kind.Name → Past s (st.opt_simple tok fits n s)
  unfolding st.opt_simple branch is_left_out pure
  opt_simple_past n s h e = rw e (walks_bind K tok fits (false ∷ []) s (st.simple_stmt tok fits n) _ (simple_past n s h e) (λ a t l. l))

  pub head_decl_past : (n : ℕ) (s : Spot) → suc s.at ≡ K → tok s.at ≡ Some kind.Name → Past s (st.head_decl tok fits n s)
  unfolding st.head_decl pure
  head_decl_past n s h e = walks_bind K tok fits (false ∷ []) s (st.declaration tok fits n) _ (declaration_past n s h e) (λ d t l. l)

  pub head_simple_past : (n : ℕ) (s : Spot) → suc s.at ≡ K → tok s.at ≡ Some kind.Name → Past s (st.head_simple tok fits n s)
  unfolding st.head_simple
  head_simple_past n s h e = walks_bind K tok fits (false ∷ []) s (st.opt_simple tok fits n) _ (opt_simple_past n s h e) (λ a t l. ((semicolon_end K 0 tok tok fits fits (itself K 0 tok fits) (a_head.Simple a) t).1 l).0)

  pub part_decl_past : (n : ℕ) (s : Spot) → suc s.at ≡ K → tok s.at ≡ Some kind.Name → Past s (st.part_decl tok fits n s)
  unfolding st.part_decl pure
  part_decl_past n s h e = walks_bind K tok fits (false ∷ []) s (st.declaration tok fits n) _ (declaration_past n s h e) (λ d t l. l)

  plain_past : (n : ℕ) (s : Spot) → suc s.at ≡ K → tok s.at ≡ Some kind.Name → Past s (st.statement_of tok fits n a_plain s)
  unfolding st.statement_of out
  plain_past zero s h e = walks_spent K tok fits _ (false ∷ []) s
  plain_past (suc n) s h e = walks_bind K tok fits (false ∷ []) s (st.simple_stmt tok fits n) _ (simple_past n s h e) (λ a t l. ((semicolon_end K 0 tok tok fits fits (itself K 0 tok fits) (a_stmt.Simple a) t).1 l).0)

  statement_past : (n : ℕ) (s : Spot) → suc s.at ≡ K → tok s.at ≡ Some kind.Name → Past s (st.statement tok fits n s)
  unfolding st.statement st.here stmt_at out
  statement_past zero s h e = walks_spent K tok fits _ (false ∷ []) s
  statement_past (suc n) s h e = rw e (plain_past n s h e)

  pub part_stmt_past : (n : ℕ) (s : Spot) → suc s.at ≡ K → tok s.at ≡ Some kind.Name → Past s ((st.statement tok fits n >>= λ a. pure (a_part.Stmt a)) s)
  unfolding pure
  part_stmt_past n s h e = walks_bind K tok fits (false ∷ []) s (st.statement tok fits n) _ (statement_past n s h e) (λ d t l. l)

  pub past_if : {A : Type 0} (s : Spot) (c : Bool) (x y : Got A) → Past s x → Past s y → Past s (if c then x else y)
  past_if s true x y h k = h
  past_if s false x y h k = k

-- the second token counts behind a name alone
decl_first : (k i j : Option Kind) → (k ≡ Some kind.Name) ⊎ (begins_decl k i ≡ begins_decl k j)
unfolding begins_decl
decl_first (Some kind.Name) i j = inl refl
decl_first (Some (kind.Key keyword.Int)) i j = inr refl
decl_first (Some (kind.Key keyword.Struct)) i j = inr refl
decl_first _ i j = inr refl

module _ (K D : ℕ) (tok tok' : ℕ → Option Kind) (fits fits' : ℕ → ℕ → Bool) (agree : Agree K D tok tok' fits fits') where
  -- a declaration or not, by two tokens
  decl_local : {A : Type 0} (a b x y : P A) (s : Spot) → Local K D s (a s) (x s) → Local K D s (b s) (y s) →
      (suc s.at ≡ K → tok s.at ≡ Some kind.Name → Past K tok fits s (a s) × Past K tok fits s (b s)) →
      (suc s.at ≡ K → tok' s.at ≡ Some kind.Name → Past K tok' fits' s (x s) × Past K tok' fits' s (y s)) →
      Local K D s (branch (st.starts_decl tok fits) a b s) (branch (st.starts_decl tok' fits') x y s)
  unfolding st.starts_decl branch
  decl_local a b x y s h k f g = before K (Local K D s _ _) (suc s.at)
      (λ l. both (λ m. ap (λ k. begins_decl k (tok' (suc s.at))) (agree.same s.at m) ∙ ap (begins_decl (tok s.at)) (agree.same (suc s.at) l)))
      (λ l. far l (decl_first (tok s.at) (tok' (suc s.at)) (tok (suc s.at))))
    where
      both : (s.at < K → st.starts_decl tok' fits' s ≡ st.starts_decl tok fits s) → Local K D s (branch (st.starts_decl tok fits) a b s) (branch (st.starts_decl tok' fits') x y s)
      both e = branch_local K D (st.starts_decl tok fits) (st.starts_decl tok' fits') a b x y s e h k

      far : K ≤ suc s.at → (tok s.at ≡ Some kind.Name) ⊎ (begins_decl (tok s.at) (tok' (suc s.at)) ≡ begins_decl (tok s.at) (tok (suc s.at))) →
          Local K D s (branch (st.starts_decl tok fits) a b s) (branch (st.starts_decl tok' fits') x y s)
      far l (inr e) = both (λ m. ap (λ k. begins_decl k (tok' (suc s.at))) (agree.same s.at m) ∙ e)
      far l (inl e) = local_split K D s _ _
          (λ m. let k : suc s.at ≡ K = omega arith in let p = f k e in let q = g k (agree.same s.at m ∙ e) in walks_alike K D tok tok' fits fits' agree (false ∷ []) s _ _ (omega arith)
          (past_if K tok fits s (st.starts_decl tok fits s) (a s) (b s) p.0 p.1) (past_if K tok' fits' s (st.starts_decl tok' fits' s) (x s) (y s) q.0 q.1))
          (λ m. (if_behind K (st.starts_decl tok fits s) (a s) (b s) (h.1 m).0 (k.1 m).0, if_behind K (st.starts_decl tok' fits' s) (x s) (y s) (h.1 m).1 (k.1 m).1))

  head_decl_local : (n : ℕ) (s : Spot) → Local K D s (st.head_decl tok fits n s) (st.head_decl tok' fits' n s)
  unfolding st.head_decl
  head_decl_local n s = local_bind K D _ _ (λ d t. pure_local K D _ t) s (st.declaration tok fits n) (st.declaration tok' fits' n) (declaration_local K D tok tok' fits fits' agree n s)

  head_simple_local : (n : ℕ) (s : Spot) → Local K D s (st.head_simple tok fits n s) (st.head_simple tok' fits' n s)
  unfolding st.head_simple
  head_simple_local n s = local_bind K D _ _ (λ a t. semicolon_end K D tok tok' fits fits' agree _ t) s (st.opt_simple tok fits n) (st.opt_simple tok' fits' n) (opt_simple_local K D tok tok' fits fits' agree n s)

  for_head_local : (n : ℕ) (s : Spot) → Local K D s (st.for_head tok fits n s) (st.for_head tok' fits' n s)
  unfolding st.for_head
  for_head_local n s = decl_local (st.head_decl tok fits n) (st.head_simple tok fits n) (st.head_decl tok' fits' n) (st.head_simple tok' fits' n) s (head_decl_local n s) (head_simple_local n s)
      (λ h e. (head_decl_past K tok fits n s h e, head_simple_past K tok fits n s h e)) (λ h e. (head_decl_past K tok' fits' n s h e, head_simple_past K tok' fits' n s h e))

  for_control_local : (n : ℕ) (s : Spot) → Local K D s (st.for_control tok fits n s) (st.for_control tok' fits' n s)
  unfolding st.for_control st.here
  for_control_local n s = sign_then K D tok tok' fits fits' agree punct.Open opened _ _ s (omega arith) (λ t. local_bind K D _ _ (λ h u. local_bind K D _ _ (λ c v. sign_then K D tok tok' fits fits' agree punct.Semicolon passed _ _ v (omega arith)
      (λ w. local_bind K D _ _ (λ p x. close_then K D tok tok' fits fits' agree punct.Close s.level _ _ x (λ y. pure_local K D _ y)) w (st.opt_simple tok fits n) (st.opt_simple tok' fits' n) (opt_simple_local K D tok tok' fits fits' agree n w)))
      u (st.opt_expr tok fits n) (st.opt_expr tok' fits' n) (opt_expr_local K D tok tok' fits fits' agree n u)) t (st.for_head tok fits n) (st.for_head tok' fits' n) (for_head_local n t))

  part_decl_local : (n : ℕ) (s : Spot) → Local K D s (st.part_decl tok fits n s) (st.part_decl tok' fits' n s)
  unfolding st.part_decl
  part_decl_local n s = local_bind K D _ _ (λ d t. pure_local K D _ t) s (st.declaration tok fits n) (st.declaration tok' fits' n) (declaration_local K D tok tok' fits fits' agree n s)

  -- ---- statements

  mutual
    unfolding st.statement st.statement_of st.else_part st.block st.parts st.part st.here out

    pub statement_local : (n : ℕ) (s : Spot) → Local K D s (st.statement tok fits n s) (st.statement tok' fits' n s)
    statement_local zero s = (equal, λ k. (tt, tt))
    statement_local (suc n) s = pick_local K D (λ q. st.statement_of tok fits n q) (λ q. st.statement_of tok' fits' n q) (stmt_at (tok s.at)) (stmt_at (tok' s.at)) s (λ h. ap stmt_at (agree.same s.at h)) (λ q. of_local n q s)

    of_local : (n : ℕ) (q : StmtStart) (s : Spot) → Local K D s (st.statement_of tok fits n q s) (st.statement_of tok' fits' n q s)
    of_local zero q s = (equal, λ k. (tt, tt))
    of_local (suc n) an_empty s = take_then K D tok tok' fits fits' agree passed _ _ s (omega arith) (λ t. pure_local K D _ t)
    of_local (suc n) a_block s = local_bind K D _ _ (λ l t. pure_local K D _ t) s (st.block tok fits n) (st.block tok' fits' n) (block_local n s)
    of_local (suc n) an_if s = take_then K D tok tok' fits fits' agree opened _ _ s (omega arith) (λ t. local_bind K D _ _ (λ e u. local_bind K D _ _ (λ a v. else_local n s e a v) u (st.statement tok fits n) (st.statement tok' fits' n) (statement_local n u))
        t (of.bracketed tok fits n) (of.bracketed tok' fits' n) (bracketed_local K D tok tok' fits fits' agree n t))
    of_local (suc n) a_while s = take_then K D tok tok' fits fits' agree opened _ _ s (omega arith) (λ t. local_bind K D _ _ (λ e u. local_bind K D _ _ (λ a v. leave_local K D s.level _ v) u (st.statement tok fits n) (st.statement tok' fits' n) (statement_local n u))
        t (of.bracketed tok fits n) (of.bracketed tok' fits' n) (bracketed_local K D tok tok' fits fits' agree n t))
    of_local (suc n) a_do s = take_then K D tok tok' fits fits' agree opened _ _ s (omega arith) (λ t. local_bind K D _ _ (λ a u. local_then K D u (of.expect_key tok fits keyword.While) (of.expect_key tok' fits' keyword.While) _ _ (word_local K D tok tok' fits fits' agree keyword.While u)
        (λ v. local_bind K D _ _ (λ e w. sign_then K D tok tok' fits fits' agree punct.Semicolon passed _ _ w (omega arith) (λ x. leave_local K D s.level _ x)) v (of.bracketed tok fits n) (of.bracketed tok' fits' n) (bracketed_local K D tok tok' fits fits' agree n v)))
        t (st.statement tok fits n) (st.statement tok' fits' n) (statement_local n t))
    of_local (suc n) a_for s = take_then K D tok tok' fits fits' agree opened _ _ s (omega arith) (λ t. local_bind K D _ _ (λ x u. local_bind K D _ _ (λ a v. leave_local K D s.level _ v) u (st.statement tok fits n) (st.statement tok' fits' n) (statement_local n u))
        t (st.for_control tok fits n) (st.for_control tok' fits' n) (for_control_local n t))
    of_local (suc n) a_return s = take_then K D tok tok' fits fits' agree passed _ _ s (omega arith) (λ t. local_bind K D _ _ (λ a u. semicolon_end K D tok tok' fits fits' agree _ u) t (st.opt_expr tok fits n) (st.opt_expr tok' fits' n) (opt_expr_local K D tok tok' fits fits' agree n t))
    of_local (suc n) a_break s = take_then K D tok tok' fits fits' agree passed _ _ s (omega arith) (λ t. semicolon_end K D tok tok' fits fits' agree _ t)
    of_local (suc n) a_continue s = take_then K D tok tok' fits fits' agree passed _ _ s (omega arith) (λ t. semicolon_end K D tok tok' fits fits' agree _ t)
    of_local (suc n) a_plain s = local_bind K D _ _ (λ a t. semicolon_end K D tok tok' fits fits' agree _ t) s (st.simple_stmt tok fits n) (st.simple_stmt tok' fits' n) (simple_local K D tok tok' fits fits' agree n s)

    else_local : (n : ℕ) (p : Spot) (e : Expr) (a : Stmt) (t : Spot) → Local K D t (st.else_part tok fits n p e a t) (st.else_part tok' fits' n p e a t)
    else_local zero p e a t = (equal, λ k. (tt, tt))
    else_local (suc n) p e a t = branch_local K D (λ t. is_key keyword.Else (tok t.at)) (λ t. is_key keyword.Else (tok' t.at)) _ _ _ _ t (λ h. ap (is_key keyword.Else) (agree.same t.at h))
        (take_then K D tok tok' fits fits' agree opened _ _ t (omega arith) (λ u. local_bind K D _ _ (λ c v. leave_local K D p.level _ v) u (st.statement tok fits n) (st.statement tok' fits' n) (statement_local n u)))
        (leave_local K D p.level _ t)

    pub block_local : (n : ℕ) (s : Spot) → Local K D s (st.block tok fits n s) (st.block tok' fits' n s)
    block_local zero s = (equal, λ k. (tt, tt))
    block_local (suc n) s = sign_then K D tok tok' fits fits' agree punct.OpenBrace opened _ _ s (omega arith) (λ t. local_bind K D _ _ (λ l u. close_then K D tok tok' fits fits' agree punct.CloseBrace s.level _ _ u (λ v. pure_local K D l v))
        t (st.parts tok fits n []) (st.parts tok' fits' n []) (parts_local n [] t))

    parts_local : (n : ℕ) (l : List Part) (s : Spot) → Local K D s (st.parts tok fits n l s) (st.parts tok' fits' n l s)
    parts_local zero l s = (equal, λ k. (tt, tt))
    parts_local (suc n) l s = branch_local K D (st.has tok fits punct.CloseBrace) (st.has tok' fits' punct.CloseBrace) (pure l) _ (pure l) _ s (has_same K D tok tok' fits fits' agree punct.CloseBrace s) (pure_local K D l s)
        (local_bind K D (λ a. st.parts tok fits n (l ++ a ∷ [])) (λ a. st.parts tok' fits' n (l ++ a ∷ [])) (λ a t. parts_local n (l ++ a ∷ []) t) s (st.part tok fits n) (st.part tok' fits' n) (part_local n s))

    part_local : (n : ℕ) (s : Spot) → Local K D s (st.part tok fits n s) (st.part tok' fits' n s)
    part_local zero s = (equal, λ k. (tt, tt))
    part_local (suc n) s = decl_local (st.part_decl tok fits n) (st.statement tok fits n >>= λ a. pure (a_part.Stmt a)) (st.part_decl tok' fits' n) (st.statement tok' fits' n >>= λ a. pure (a_part.Stmt a)) s (part_decl_local n s)
        (local_bind K D (λ a. pure (a_part.Stmt a)) (λ a. pure (a_part.Stmt a)) (λ a t. pure_local K D _ t) s (st.statement tok fits n) (st.statement tok' fits' n) (statement_local n s))
        (λ h e. (part_decl_past K tok fits n s h e, part_stmt_past K tok fits n s h e)) (λ h e. (part_decl_past K tok' fits' n s h e, part_stmt_past K tok' fits' n s h e))
