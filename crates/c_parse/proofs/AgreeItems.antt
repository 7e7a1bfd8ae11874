-- Over two lists of tokens that agree up to a place, the items of a file are read alike.
use Rattle.std.proofs.Common.{◌≡◌, ◌⊎◌, inl, inr, ℕ, suc, ◌≤◌, ◌<◌, Bool, true, false, List, [], ◌∷◌, Option, Some, None, if◌then◌else◌, refl, ap, ◌∙◌, arith}
use Rattle.cc_model.specs.declared.tokens.Kind.{Kind}
use Rattle.cc_model.specs.declared.tokens.Kind.TheVariants as kind
use Rattle.cc_model.specs.declared.tokens.Punct.TheVariants as punct
use Rattle.cc_model.specs.declared.tokens.Keyword.TheVariants as keyword
use Rattle.cc_model.specs.declared.trees.Base.{Base}
use Rattle.cc_model.specs.declared.trees.Base.TheVariants as base_tree
use Rattle.cc_model.specs.declared.trees.ResultType.{ResultType}
use Rattle.cc_model.specs.declared.trees.ResultType.TheVariants as returned
use Rattle.cc_model.specs.declared.trees.Declarator.{Declarator}
use Rattle.cc_model.specs.declared.trees.ProtoParam.{ProtoParam}
use Rattle.cc_model.specs.declared.trees.StructDef.TheVariants as a_def
use Rattle.cc_model.specs.declared.trees.Item.{Item}
use Rattle.cc_model.specs.declared.trees.Item.TheVariants as an_item
use Rattle.cc_model.specs.Spots.{Spot, opened, passed}
use Rattle.c_expressions.specs.Descent.{Got, got, failed, spent, P, go_on, ◌>>=◌, ◌>>◌, pure, wrong, is_sign, is_key, is_name, base_at}
use Rattle.c_expressions.specs.Descent as of
use Rattle.c_statements.specs.DescentStatements.{branch, given, number_at}
use Rattle.c_statements.specs.DescentStatements as st
use Rattle.c_parse.specs.DescentItems.{with_names, ItemStart, a_typedef, a_struct, a_void, a_typed, struct_or, item_at, is_end}
use Rattle.c_parse.specs.DescentItems as it
use Rattle.c_expressions.proofs.Made.{take_made, name_made, made_map}
use Rattle.c_parse.proofs.Agree.{Behind, behind, Local, Agree, before, local_bind, local_then, local_made, pure_local, bad_local, take_local, word_local, name_local}
use Rattle.c_parse.proofs.AgreeParts.{branch_local, given_local, pick_local, many_local}
use Rattle.c_parse.proofs.AgreeExpressions.{base_local, stars_local, type_local}
use Rattle.c_parse.proofs.AgreeStatements.{has_same, take_then, sign_then, name_then, close_then, semicolon_end, number_local, declarator_rest_local, declarator_local, commas_more_local, commas_local, block_local}

-- the third token counts behind `struct` alone
third : (k i j : Option Kind) → (k ≡ Some (kind.Key keyword.Struct)) ⊎ (item_at k i ≡ item_at k j)
unfolding item_at
third (Some (kind.Key keyword.Struct)) i j = inl refl
third (Some (kind.Key keyword.Typedef)) i j = inr refl
third (Some (kind.Key keyword.Void)) i j = inr refl
third _ i j = inr refl

-- behind the word and the name of a struct: as a type, and as a definition
struct_rest : (tok : ℕ → Option Kind) (fits : ℕ → ℕ → Bool) (n x : ℕ) → P Item
struct_rest tok fits n x = it.fields tok fits n >>= λ l. of.expect tok fits punct.Semicolon passed >> pure (an_item.Struct (a_def.Tagged x l))

abbrev Struct : (tok : ℕ → Option Kind) (fits : ℕ → ℕ → Bool) → P Item → P Item
Struct tok fits f = of.take tok fits passed >> (of.expect_name tok fits >> f)

typed_is : (tok : ℕ → Option Kind) (fits : ℕ → ℕ → Bool) (n : ℕ) (s : Spot) → tok s.at ≡ Some (kind.Key keyword.Struct) →
    it.item_of tok fits n a_typed s ≡ Struct tok fits (it.typed_from tok fits n (base_tree.Struct (suc s.at))) s
unfolding it.item_of of.base_type of.base_from base_at ◌>>=◌ ◌>>◌ go_on pure
typed_is tok fits n s e = rw e (outer (of.take tok fits passed s))
  where
    inner : (q : Got (Unit {0})) → go_on (go_on q (λ _. pure (base_tree.Struct (suc s.at)))) (it.typed_from tok fits n) ≡ go_on q (λ _. it.typed_from tok fits n (base_tree.Struct (suc s.at)))
    inner (got a t) = refl
    inner (failed x) = refl
    inner spent = refl

    outer : (q : Got (Unit {0})) → go_on (go_on q (λ _. of.expect_name tok fits >> pure (base_tree.Struct (suc s.at)))) (it.typed_from tok fits n) ≡ go_on q (λ _. of.expect_name tok fits >> it.typed_from tok fits n (base_tree.Struct (suc s.at)))
    outer (got a t) = inner (of.expect_name tok fits t)
    outer (failed x) = refl
    outer spent = refl

struct_is : (tok : ℕ → Option Kind) (fits : ℕ → ℕ → Bool) (n : ℕ) (s : Spot) → it.item_of tok fits n a_struct s ≡ Struct tok fits (struct_rest tok fits n (suc s.at)) s
unfolding it.item_of it.struct_def st.here struct_rest of.take ◌>>=◌ ◌>>◌ go_on
struct_is tok fits n s = go (fits s.at s.level) tt
  where
    go : (b : Bool) (x : Unit {0}) → go_on (if b then got x (passed s) else failed (of.deep s.at)) (λ _. st.here (λ t. of.expect_name tok fits >> (it.fields tok fits n >>= λ l. of.expect tok fits punct.Semicolon passed >> pure (an_item.Struct (a_def.Tagged t.at l))))) ≡
        go_on (if b then got x (passed s) else failed (of.deep s.at)) (λ _. of.expect_name tok fits >> struct_rest tok fits n (suc s.at))
    go true x = refl
    go false x = refl

module _ (K D : ℕ) (tok tok' : ℕ → Option Kind) (fits fits' : ℕ → ℕ → Bool) (agree : Agree K D tok tok' fits fits') where
  name_same : (s : Spot) → s.at < K → is_name (tok' s.at) ≡ is_name (tok s.at)
  name_same s h = ap is_name (agree.same s.at h)

  -- ---- structs

  line_local : (n : ℕ) (s : Spot) → Local K D s (it.field_line tok fits n s) (it.field_line tok' fits' n s)
  unfolding it.field_line
  line_local n s = local_bind K D _ _ (λ b t. local_bind K D _ _ (λ l u. semicolon_end K D tok tok' fits fits' agree _ u) t (st.commas tok fits (st.declarator tok fits) n) (st.commas tok' fits' (st.declarator tok' fits') n)
      (commas_local K D tok tok' fits fits' agree (st.declarator tok fits) (st.declarator tok' fits') (declarator_local K D tok tok' fits fits' agree) n t))
      s (of.base_type tok fits) (of.base_type tok' fits') (base_local K D tok tok' fits fits' agree s)

  lines_local : (n : ℕ) (s : Spot) → Local K D s (it.field_lines tok fits n s) (it.field_lines tok' fits' n s)
  unfolding it.field_lines
  lines_local n s = local_bind K D _ _ (λ f t. many_local K D tok tok' fits fits' (st.has tok fits punct.CloseBrace) (st.has tok' fits' punct.CloseBrace) (it.field_line tok fits) (it.field_line tok' fits') (has_same K D tok tok' fits fits' agree punct.CloseBrace) line_local n (f ∷ []) t)
      s (it.field_line tok fits n) (it.field_line tok' fits' n) (line_local n s)

  fields_local : (n : ℕ) (s : Spot) → Local K D s (it.fields tok fits n s) (it.fields tok' fits' n s)
  unfolding it.fields st.here
  fields_local n s = sign_then K D tok tok' fits fits' agree punct.OpenBrace opened _ _ s (omega arith) (λ t. local_bind K D _ _ (λ l u. close_then K D tok tok' fits fits' agree punct.CloseBrace s.level _ _ u (λ v. pure_local K D l v))
      t (it.field_lines tok fits n) (it.field_lines tok' fits' n) (lines_local n t))

  -- ---- globals

  value_local : (n : ℕ) (s : Spot) → Local K D s (it.start_value tok fits n s) (it.start_value tok' fits' n s)
  unfolding it.start_value it.number_value it.negative_value it.null_value st.here
  value_local n s = given_local K D _ _ _ _ _ _ s (λ h. ap number_at (agree.same s.at h)) (λ z. take_then K D tok tok' fits fits' agree passed _ _ s (omega arith) (λ t. pure_local K D _ t))
      (branch_local K D (st.has tok fits punct.Dash) (st.has tok' fits' punct.Dash) _ _ _ _ s (has_same K D tok tok' fits fits' agree punct.Dash s)
      (take_then K D tok tok' fits fits' agree passed _ _ s (omega arith) (λ t. local_bind K D _ _ (λ z u. pure_local K D _ u) t (st.expect_number tok fits) (st.expect_number tok' fits') (number_local K D tok tok' fits fits' agree t)))
      (local_then K D s (of.expect_key tok fits keyword.Null) (of.expect_key tok' fits' keyword.Null) _ _ (word_local K D tok tok' fits fits' agree keyword.Null s) (λ t. pure_local K D _ t)))

  global_from_local : (n : ℕ) (d : Declarator) (s : Spot) → Local K D s (it.global_from tok fits n d s) (it.global_from tok' fits' n d s)
  unfolding it.global_from st.here
  global_from_local n d s = branch_local K D (st.has tok fits punct.Assign) (st.has tok' fits' punct.Assign) _ _ _ _ s (has_same K D tok tok' fits fits' agree punct.Assign s)
      (take_then K D tok tok' fits fits' agree passed _ _ s (omega arith) (λ t. local_bind K D _ _ (λ v u. pure_local K D _ u) t (it.start_value tok fits n) (it.start_value tok' fits' n) (value_local n t)))
      (pure_local K D _ s)

  global_local : (n : ℕ) (s : Spot) → Local K D s (it.global tok fits n s) (it.global tok' fits' n s)
  unfolding it.global
  global_local n s = local_bind K D _ _ (λ d t. global_from_local n d t) s (st.declarator tok fits n) (st.declarator tok' fits' n) (declarator_local K D tok tok' fits fits' agree n s)

  globals_local : (n : ℕ) (b : Base) (d : Declarator) (s : Spot) → Local K D s (it.globals_from tok fits n b d s) (it.globals_from tok' fits' n b d s)
  unfolding it.globals_from
  globals_local n b d s = local_bind K D _ _ (λ g t. local_bind K D _ _ (λ l u. semicolon_end K D tok tok' fits fits' agree _ u) t (st.commas_more tok fits (it.global tok fits) n (g ∷ [])) (st.commas_more tok' fits' (it.global tok' fits') n (g ∷ []))
      (commas_more_local K D tok tok' fits fits' agree (it.global tok fits) (it.global tok' fits') global_local n (g ∷ []) t))
      s (it.global_from tok fits n d) (it.global_from tok' fits' n d) (global_from_local n d s)

  -- ---- functions

  proto_local : (n : ℕ) (s : Spot) → Local K D s (it.proto tok fits n s) (it.proto tok' fits' n s)
  unfolding it.proto st.here
  proto_local n s = local_bind K D _ _ (λ r t. branch_local K D (λ s. is_name (tok s.at)) (λ s. is_name (tok' s.at)) _ _ _ _ t (name_same t)
      (take_then K D tok tok' fits fits' agree passed _ _ t (omega arith) (λ u. pure_local K D _ u)) (pure_local K D _ t)) s (of.type_name tok fits n) (of.type_name tok' fits' n) (type_local K D tok tok' fits fits' agree n s)

  protos_local : (n : ℕ) (s : Spot) → Local K D s (it.protos tok fits n s) (it.protos tok' fits' n s)
  unfolding it.protos it.void_protos
  protos_local n s = branch_local K D (st.has tok fits punct.Close) (st.has tok' fits' punct.Close) _ _ _ _ s (has_same K D tok tok' fits fits' agree punct.Close s) (pure_local K D [] s)
      (branch_local K D (λ s. is_key keyword.Void (tok s.at)) (λ s. is_key keyword.Void (tok' s.at)) _ _ _ _ s (λ h. ap (is_key keyword.Void) (agree.same s.at h))
      (take_then K D tok tok' fits fits' agree passed _ _ s (omega arith) (λ t. pure_local K D [] t))
      (commas_local K D tok tok' fits fits' agree (it.proto tok fits) (it.proto tok' fits') proto_local n s))

  heading_local : (n : ℕ) (s : Spot) → Local K D s (it.heading tok fits n s) (it.heading tok' fits' n s)
  unfolding it.heading st.here
  heading_local n s = sign_then K D tok tok' fits fits' agree punct.Open opened _ _ s (omega arith) (λ t. local_bind K D _ _ (λ l u. close_then K D tok tok' fits fits' agree punct.Close s.level _ _ u (λ v. pure_local K D l v))
      t (it.protos tok fits n) (it.protos tok' fits' n) (protos_local n t))

  ending_local : (n : ℕ) (r : ResultType) (x : ℕ) (l : List ProtoParam) (s : Spot) → Local K D s (it.ending tok fits n r x l s) (it.ending tok' fits' n r x l s)
  unfolding it.ending it.bodied wrong
  ending_local n r x l s = branch_local K D (st.has tok fits punct.OpenBrace) (st.has tok' fits' punct.OpenBrace) _ _ _ _ s (has_same K D tok tok' fits fits' agree punct.OpenBrace s)
      (given_local K D (λ _. with_names l) (λ _. with_names l) _ _ _ _ s (λ _. refl)
      (λ q. local_bind K D _ _ (λ b t. pure_local K D _ t) s (st.block tok fits n) (st.block tok' fits' n) (block_local K D tok tok' fits fits' agree n s)) (bad_local K D s))
      (semicolon_end K D tok tok' fits fits' agree _ s)

  function_local : (n : ℕ) (r : ResultType) (x : ℕ) (s : Spot) → Local K D s (it.function_from tok fits n r x s) (it.function_from tok' fits' n r x s)
  unfolding it.function_from
  function_local n r x s = local_bind K D _ _ (λ l t. ending_local n r x l t) s (it.heading tok fits n) (it.heading tok' fits' n) (heading_local n s)

  -- ---- items

  struct_type_local : (n : ℕ) (tag : Option ℕ) (s : Spot) → Local K D s (it.struct_type tok fits n tag s) (it.struct_type tok' fits' n tag s)
  unfolding it.struct_type st.here
  struct_type_local n tag s = local_bind K D _ _ (λ l t. name_then K D tok tok' fits fits' agree _ _ t (λ u. semicolon_end K D tok tok' fits fits' agree _ u)) s (it.fields tok fits n) (it.fields tok' fits' n) (fields_local n s)

  tagged_local : (n : ℕ) (s : Spot) → Local K D s (it.tagged tok fits n s) (it.tagged tok' fits' n s)
  unfolding it.tagged it.alias st.here
  tagged_local n s = take_then K D tok tok' fits fits' agree passed _ _ s (omega arith) (λ t. branch_local K D (λ t. is_name (tok t.at)) (λ t. is_name (tok' t.at)) _ _ _ _ t (name_same t)
      (take_then K D tok tok' fits fits' agree passed _ _ t (omega arith) (λ u. semicolon_end K D tok tok' fits fits' agree _ u)) (struct_type_local n (Some s.at) t))

  struct_rest_local : (n x : ℕ) (s : Spot) → Local K D s (struct_rest tok fits n x s) (struct_rest tok' fits' n x s)
  unfolding struct_rest
  struct_rest_local n x s = local_bind K D _ _ (λ l t. semicolon_end K D tok tok' fits fits' agree _ t) s (it.fields tok fits n) (it.fields tok' fits' n) (fields_local n s)

  typed_from_local : (n : ℕ) (b : Base) (s : Spot) → Local K D s (it.typed_from tok fits n b s) (it.typed_from tok' fits' n b s)
  unfolding it.typed_from it.globals_named st.here
  typed_from_local n b s = local_bind K D _ _ (λ k t. name_then K D tok tok' fits fits' agree _ _ t (λ u. branch_local K D (st.has tok fits punct.Open) (st.has tok' fits' punct.Open) _ _ _ _ u (has_same K D tok tok' fits fits' agree punct.Open u)
      (function_local n (returned.Value (record { base = b; stars = k })) t.at u)
      (local_bind K D _ _ (λ d v. globals_local n b d v) u (st.declarator_from tok fits n s.level k t.at) (st.declarator_from tok' fits' n s.level k t.at) (declarator_rest_local K D tok tok' fits fits' agree n s.level k t.at u))))
      s (of.stars tok fits n) (of.stars tok' fits' n) (stars_local K D tok tok' fits fits' agree n s)

  item_of_local : (n : ℕ) (q : ItemStart) (s : Spot) → Local K D s (it.item_of tok fits n q s) (it.item_of tok' fits' n q s)
  unfolding it.item_of it.typedef it.struct_def it.procedure st.here struct_rest
  item_of_local n a_typedef s = take_then K D tok tok' fits fits' agree passed _ _ s (omega arith) (λ t. local_then K D t (of.expect_key tok fits keyword.Struct) (of.expect_key tok' fits' keyword.Struct) _ _ (word_local K D tok tok' fits fits' agree keyword.Struct t)
      (λ u. branch_local K D (λ s. is_name (tok s.at)) (λ s. is_name (tok' s.at)) _ _ _ _ u (name_same u) (tagged_local n u) (struct_type_local n None u)))
  item_of_local n a_struct s = take_then K D tok tok' fits fits' agree passed _ _ s (omega arith) (λ t. name_then K D tok tok' fits fits' agree _ _ t (λ u. struct_rest_local n t.at u))
  item_of_local n a_void s = take_then K D tok tok' fits fits' agree passed _ _ s (omega arith) (λ t. name_then K D tok tok' fits fits' agree _ _ t (λ u. function_local n returned.Void t.at u))
  item_of_local n a_typed s = local_bind K D _ _ (λ b t. typed_from_local n b t) s (of.base_type tok fits) (of.base_type tok' fits') (base_local K D tok tok' fits fits' agree s)

  -- the same first two tokens, and both go on behind K
  mixed : (f g : P Item) (s : Spot) → ((u : Spot) → K ≤ u.at → Behind K (f u) × Behind K (g u)) → K ≤ suc (suc s.at) → Local K D s (Struct tok fits f s) (Struct tok' fits' g s)
  unfolding ◌>>◌
  mixed f g s h k = local_made K D (λ _ t. t ≡ passed s) _ _ (λ a t e. rw e (local_made K D (λ _ u. u ≡ passed (passed s)) (λ _. f) (λ _. g) (λ b u q. rw q (gone (passed (passed s)) k)) (passed s) (of.expect_name tok fits) (of.expect_name tok' fits')
      (made_map _ _ (of.expect_name tok fits (passed s)) (λ _ _ p. p.1) (name_made tok fits (passed s))) (made_map _ _ (of.expect_name tok' fits' (passed s)) (λ _ _ p. p.1) (name_made tok' fits' (passed s))) (name_local K D tok tok' fits fits' agree (passed s))))
      s (of.take tok fits passed) (of.take tok' fits' passed)
      (made_map _ _ (of.take tok fits passed s) (λ _ _ p. p.1) (take_made tok fits s passed (Unit {0}) (λ _. tt))) (made_map _ _ (of.take tok' fits' passed s) (λ _ _ p. p.1) (take_made tok' fits' s passed (Unit {0}) (λ _. tt)))
      (take_local K D tok tok' fits fits' agree passed s (omega arith))
    where
      gone : (u : Spot) → K ≤ u.at → Local K D u (f u) (g u)
      gone u l = (behind (h u l).0 (h u l).1, h u)

  either_struct : (n : ℕ) (s : Spot) (b c : Bool) → tok s.at ≡ Some (kind.Key keyword.Struct) → tok' s.at ≡ Some (kind.Key keyword.Struct) → K ≤ suc (suc s.at) →
      Local K D s (it.item_of tok fits n (struct_or b) s) (it.item_of tok' fits' n (struct_or c) s)
  unfolding struct_or
  either_struct n s true true e x k = item_of_local n a_struct s
  either_struct n s false false e x k = item_of_local n a_typed s
  either_struct n s true false e x k = rw (struct_is tok fits n s, typed_is tok' fits' n s x) (mixed (struct_rest tok fits n (suc s.at)) (it.typed_from tok' fits' n (base_tree.Struct (suc s.at))) s
      (λ u l. (((struct_rest_local n (suc s.at) u).1 l).0, ((typed_from_local n (base_tree.Struct (suc s.at)) u).1 l).1)) k)
  either_struct n s false true e x k = rw (typed_is tok fits n s e, struct_is tok' fits' n s) (mixed (it.typed_from tok fits n (base_tree.Struct (suc s.at))) (struct_rest tok' fits' n (suc s.at)) s
      (λ u l. (((typed_from_local n (base_tree.Struct (suc s.at)) u).1 l).0, ((struct_rest_local n (suc s.at) u).1 l).1)) k)

  struct_at : (k j : Option Kind) → k ≡ Some (kind.Key keyword.Struct) → item_at k j ≡ struct_or (is_sign punct.OpenBrace j)
  unfolding item_at
  struct_at k j e = ap (λ k. item_at k j) e

  item_local : (n : ℕ) (s : Spot) → Local K D s (it.item tok fits n s) (it.item tok' fits' n s)
  unfolding it.item st.here
  item_local n s = before K (Local K D s _ _) (suc (suc s.at))
      (λ l. by_same (λ m. ap (λ k. item_at k (tok' (suc (suc s.at)))) (agree.same s.at m) ∙ ap (item_at (tok s.at)) (agree.same (suc (suc s.at)) l)))
      (λ l. far l (third (tok s.at) (tok' (suc (suc s.at))) (tok (suc (suc s.at)))))
    where
      by_same : (s.at < K → item_at (tok' s.at) (tok' (suc (suc s.at))) ≡ item_at (tok s.at) (tok (suc (suc s.at)))) →
          Local K D s (it.item_of tok fits n (item_at (tok s.at) (tok (suc (suc s.at)))) s) (it.item_of tok' fits' n (item_at (tok' s.at) (tok' (suc (suc s.at)))) s)
      by_same e = pick_local K D (λ q. it.item_of tok fits n q) (λ q. it.item_of tok' fits' n q) (item_at (tok s.at) (tok (suc (suc s.at)))) (item_at (tok' s.at) (tok' (suc (suc s.at)))) s e (λ q. item_of_local n q s)

      far : K ≤ suc (suc s.at) → (tok s.at ≡ Some (kind.Key keyword.Struct)) ⊎ (item_at (tok s.at) (tok' (suc (suc s.at))) ≡ item_at (tok s.at) (tok (suc (suc s.at)))) →
          Local K D s (it.item_of tok fits n (item_at (tok s.at) (tok (suc (suc s.at)))) s) (it.item_of tok' fits' n (item_at (tok' s.at) (tok' (suc (suc s.at)))) s)
      far l (inr e) = by_same (λ m. ap (λ k. item_at k (tok' (suc (suc s.at)))) (agree.same s.at m) ∙ e)
      far l (inl e) = before K (Local K D s _ _) s.at
          (λ m. rw (struct_at (tok s.at) (tok (suc (suc s.at))) e, struct_at (tok' s.at) (tok' (suc (suc s.at))) (agree.same s.at m ∙ e))
          (either_struct n s (is_sign punct.OpenBrace (tok (suc (suc s.at)))) (is_sign punct.OpenBrace (tok' (suc (suc s.at)))) e (agree.same s.at m ∙ e) l))
          (λ m. by_same (λ o. absurd (omega arith)))

  pub items_local : (n : ℕ) (s : Spot) → Local K D s (it.items tok fits n s) (it.items tok' fits' n s)
  unfolding it.items
  items_local n s = many_local K D tok tok' fits fits' (λ s. is_end (tok s.at)) (λ s. is_end (tok' s.at)) (it.item tok fits) (it.item tok' fits') (λ t h. ap is_end (agree.same t.at h)) item_local n [] s
