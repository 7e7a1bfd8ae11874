-- What reads as an item is parsed so, and what is parsed reads so.
use Rattle.std.proofs.Common.{◌≡◌, ℕ, suc, Bool, true, false, List, [], ◌∷◌, ◌++◌, Option, Some, None, refl, sym, ap, ◌∙◌, subst}
use Rattle.cc_model.specs.declared.tokens.Kind.{Kind}
use Rattle.cc_model.specs.declared.tokens.Kind.TheVariants as kind
use Rattle.cc_model.specs.declared.tokens.Punct.{Punct}
use Rattle.cc_model.specs.declared.tokens.Punct.TheVariants as punct
use Rattle.cc_model.specs.declared.tokens.Keyword.TheVariants as keyword
use Rattle.cc_model.specs.declared.trees.Base.{Base}
use Rattle.cc_model.specs.declared.trees.TypeName.{TypeName}
use Rattle.cc_model.specs.declared.trees.ResultType.{ResultType}
use Rattle.cc_model.specs.declared.trees.ResultType.TheVariants as returned
use Rattle.cc_model.specs.declared.trees.Declarator.{Declarator}
use Rattle.cc_model.specs.declared.trees.Param.{Param}
use Rattle.cc_model.specs.declared.trees.ProtoParam.{ProtoParam}
use Rattle.cc_model.specs.declared.trees.Field.{Field}
use Rattle.cc_model.specs.declared.trees.Part.{Part}
use Rattle.cc_model.specs.declared.trees.Length.{Length}
use Rattle.cc_model.specs.declared.trees.StartValue.{StartValue}
use Rattle.cc_model.specs.declared.trees.GlobalPart.{GlobalPart}
use Rattle.cc_model.specs.declared.trees.Item.{Item}
use Rattle.cc_model.specs.declared.trees.Item.TheVariants as an_item
use Rattle.cc_model.specs.Spots.{Spot, opened, passed, closed, Is, IsName}
use Rattle.cc_model.specs.ReadTypes as ty
use Rattle.cc_model.specs.ReadTypes.{BaseType, Typed, Stars}
use Rattle.cc_model.specs.ReadStatements as rs
use Rattle.cc_model.specs.ReadItems as by
use Rattle.c_expressions.specs.Descent.{Got, got, P, Ends, is_sign, is_key, is_name}
use Rattle.c_statements.specs.DescentStatements.{here, branch, given, number_at}
use Rattle.c_statements.specs.DescentStatements as st
use Rattle.c_parse.specs.DescentItems.{add_named, with_names, ItemStart, a_typedef, a_struct, a_void, a_typed, struct_or, item_at, is_end}
use Rattle.c_parse.specs.DescentItems as it
use Rattle.c_statements.proofs.Pieces.{ends_bind, ends_then, ends_base, ends_pure, ends_here, ends_yes, ends_no, ends_some, ends_none, sign_yes, key_yes, take_yes, expect_yes, key_taken, name_taken, close_yes, many_stop, many_go, Made, made_bind, made_here, made_branch, made_given, made_pure, made_wrong, made_many, then_take, then_name, then_close, then_sign, then_word}
use Rattle.c_expressions.proofs.Made.{made_map}
use Rattle.c_expressions.proofs.Tests.{is_key_tells, is_name_tells}
use Rattle.c_expressions.proofs.ExprLaws.{free, base_complete, base_sound, stars_complete, stars_sound, type_complete, type_sound}
use Rattle.c_statements.proofs.Firsts.{ender, ender_free, ender_assign, ender_name, free_star, name_free}
use Rattle.c_statements.proofs.StmtComplete.{has_yes, has_no, number_yes, lengths_yes, declares_yes, listed, listing_ends, commas_yes, semicolon_ends, close_ends, semicolon_no_comma, close_no_comma, assigned_free, block_yes}
use Rattle.c_statements.proofs.StmtSound.{has_tells, then_number, declarator_made, declares_sound, commas_more_sound, commas_sound, number_tells, block_sound}

-- ---- parameters with names

abbrev pub nameless : List Param → List ProtoParam
nameless [] = []
nameless (p ∷ l) = record { ty = p.ty; name = Some p.name } ∷ nameless l

pub names_back : (l : List Param) → with_names (nameless l) ≡ Some l
unfolding with_names add_named
names_back [] = refl
names_back (p ∷ l) = ap (add_named p.ty (Some p.name)) (names_back l)

add_back : (r : TypeName) (o : Option ℕ) (x : Option (List Param)) (q : List Param) → add_named r o x ≡ Some q →
    (m : ℕ) × (k : List Param) × (o ≡ Some m) × (x ≡ Some k) × (q ≡ record { ty = r; name = m } ∷ k)
unfolding add_named
add_back r (Some m) (Some k) q e = (m, k, refl, refl, cc)
add_back r (Some m) None q e = cc
add_back r None (Some k) q e = cc
add_back r None None q e = cc

append_back : (l : List ProtoParam) (r : TypeName) (o : Option ℕ) (q : List Param) → with_names (l ++ record { ty = r; name = o } ∷ []) ≡ Some q →
    (n : ℕ) × (k : List Param) × (o ≡ Some n) × (with_names l ≡ Some k) × (q ≡ k ++ record { ty = r; name = n } ∷ [])
unfolding with_names add_named
append_back [] r o q e = let h = add_back r o (Some []) q e in (h.0, [], h.2, refl, h.4 ∙ ap (λ k. record { ty = r; name = h.0 } ∷ k) (one h.1 h.3))
  where
    one : (k : List Param) → ◌≡◌ {A = Option (List Param)} (Some []) (Some k) → k ≡ []
    one k e = cc
append_back (p ∷ l) r o q e =
    let h = add_back p.ty p.name (with_names (l ++ record { ty = r; name = o } ∷ [])) q e in
    let i = append_back l r o h.1 h.3 in
    (i.0, record { ty = p.ty; name = h.0 } ∷ i.1, i.2, ap (λ x. add_named p.ty x (with_names l)) h.2 ∙ ap (add_named p.ty (Some h.0)) i.3, h.4 ∙ ap (λ k. record { ty = p.ty; name = h.0 } ∷ k) i.4)

-- ---- the first token

name_is : (k : Option Kind) → k ≡ Some kind.Name → is_name k ≡ true
unfolding is_name
name_is k e = ap is_name e

not_name : (k : Option Kind) (p : Punct) → k ≡ Some (kind.Punct p) → is_name k ≡ false
unfolding is_name
not_name k p e = ap is_name e

key_is : (k : Option Kind) → k ≡ Some (kind.Key keyword.Void) → is_key keyword.Void k ≡ true
key_is k e = ap (is_key keyword.Void) e ∙ key_yes keyword.Void

key_no_close : (k : Option Kind) → k ≡ Some (kind.Key keyword.Void) → is_sign punct.Close k ≡ false
unfolding is_sign
key_no_close k e = ap (is_sign punct.Close) e

abbrev Starting : Option Kind → Type 0
Starting k = (is_sign punct.Close k ≡ false) × (is_key keyword.Void k ≡ false) × (is_sign punct.CloseBrace k ≡ false)

module _ (tok : ℕ → Option Kind) (fits : ℕ → ℕ → Bool) where
  base_starts : {s t : Spot} {b : Base} → BaseType tok fits s t b → Starting (tok s.at)
  unfolding is_sign is_key
  base_starts (ty.int i) = (ap (is_sign punct.Close) i.0, ap (is_key keyword.Void) i.0, ap (is_sign punct.CloseBrace) i.0)
  base_starts (ty.struct i n) = (ap (is_sign punct.Close) i.0, ap (is_key keyword.Void) i.0, ap (is_sign punct.CloseBrace) i.0)
  base_starts (ty.alias i) = (ap (is_sign punct.Close) i.0, ap (is_key keyword.Void) i.0, ap (is_sign punct.CloseBrace) i.0)

  typed_starts : {s t : Spot} {r : TypeName} → Typed tok fits s t r → Starting (tok s.at)
  typed_starts (ty.typed d h) = base_starts d

  proto_starts : {s t : Spot} {p : ProtoParam} → by.Prototyped tok fits s t p → Starting (tok s.at)
  proto_starts (by.nameless d) = typed_starts d
  proto_starts (by.named d i) = typed_starts d

  protos_start : {s t : Spot} {l : List ProtoParam} → rs.Commas tok fits ProtoParam (by.Prototyped tok fits) s t l → Starting (tok s.at)
  protos_start (rs.first d) = proto_starts d
  protos_start (rs.next d i e) = protos_start d

  line_starts : {s t : Spot} {f : Field} → by.FieldLine tok fits s t f → is_sign punct.CloseBrace (tok s.at) ≡ false
  line_starts (by.line d l i) = (base_starts d).2

  -- ---- structs

  line_yes : {s t : Spot} {f : Field} → by.FieldLine tok fits s t f → Ends (λ m. it.field_line tok fits m) s (got f t)
  unfolding it.field_line
  line_yes (by.line {s} {t} {u} d l i) = ends_base _ _ (base_complete tok fits d)
      (ends_bind _ _ (commas_yes tok fits (λ m. st.declarator tok fits m) (λ s t a h w. declares_yes tok fits h (ender_free (tok t.at) w)) l (semicolon_ends tok fits (tok u.at) i.0) (semicolon_no_comma tok fits (tok u.at) i.0))
      (ends_then _ _ (expect_yes tok fits u punct.Semicolon passed i) (ends_pure _ (passed u))))

  line_sound : (n : ℕ) (s : Spot) → Made (λ f t. by.FieldLine tok fits s t f) (it.field_line tok fits n s)
  unfolding it.field_line
  line_sound n s = made_bind _ _ s _ _ (base_sound tok fits s) (λ b t h. made_bind _ _ t _ _ (commas_sound tok fits (rs.Declares tok fits) (λ m. st.declarator tok fits m) (declares_sound tok fits) n t)
      (λ l u d. then_sign tok fits _ u punct.Semicolon passed _ (λ i. made_pure _ (passed u) _ (by.line h d i))))

  abbrev Lines : List Field → ℕ → P (List Field)
  Lines l m = st.many tok fits (st.has tok fits punct.CloseBrace) (it.field_line tok fits) m l

  lines_yes : {s t : Spot} {l : List Field} {r : Got (List Field)} → by.FieldLines tok fits s t l → Ends (Lines l) t r → Ends (λ m. it.field_lines tok fits m) s r
  unfolding it.field_lines
  lines_yes (by.first d) k = ends_bind _ _ (line_yes d) k
  lines_yes (by.next {s} {t} {u} {l} {f} d e) k = lines_yes d
      (many_go tok fits (st.has tok fits punct.CloseBrace) (it.field_line tok fits) l (has_no tok fits punct.CloseBrace t (line_starts e)) (ends_bind _ _ (line_yes e) k))

  lines_sound : (n : ℕ) (s : Spot) → Made (λ l t. by.FieldLines tok fits s t l) (it.field_lines tok fits n s)
  unfolding it.field_lines
  lines_sound n s = made_bind _ _ s _ _ (line_sound n s) (λ f t h. made_map (λ l u. by.FieldLines tok fits s u l × (st.has tok fits punct.CloseBrace u ≡ true)) _ _ (λ l u h. h.0)
      (made_many tok fits (λ l t. by.FieldLines tok fits s t l) (st.has tok fits punct.CloseBrace) (it.field_line tok fits)
      (λ m l t q e. made_map (λ a u. by.FieldLine tok fits t u a) _ (it.field_line tok fits m t) (λ a u r. by.next q r) (line_sound m t)) n (f ∷ []) t (by.first h)))

  fields_yes : {s t : Spot} {l : List Field} → by.Fields tok fits s t l → Ends (λ m. it.fields tok fits m) s (got l t)
  unfolding it.fields
  fields_yes (by.braces {s} {t} {l} i d c) = ends_here _ (ends_then _ _ (expect_yes tok fits s punct.OpenBrace opened i) (ends_bind _ _ (lines_yes d
      (many_stop tok fits (st.has tok fits punct.CloseBrace) (it.field_line tok fits) l (has_yes tok fits punct.CloseBrace t c.0)))
      (ends_then _ _ (close_yes tok fits t punct.CloseBrace s.level c) (ends_pure l (closed t s.level)))))

  fields_sound : (n : ℕ) (s : Spot) → Made (λ l t. by.Fields tok fits s t l) (it.fields tok fits n s)
  unfolding it.fields
  fields_sound n s = made_here _ s _ (then_sign tok fits _ s punct.OpenBrace opened _ (λ i. made_bind _ _ (opened s) _ _ (lines_sound n (opened s)) (λ l t d.
      then_close tok fits _ t punct.CloseBrace s.level _ (λ c. made_pure _ (closed t s.level) _ (by.braces i d c)))))

  -- ---- globals

  no_number : (k : Option Kind) (p : Punct) → k ≡ Some (kind.Punct p) → number_at k ≡ None
  unfolding number_at
  no_number k p e = ap number_at e

  null_no_number : (k : Option Kind) → k ≡ Some (kind.Key keyword.Null) → number_at k ≡ None
  unfolding number_at
  null_no_number k e = ap number_at e

  null_no_dash : (k : Option Kind) → k ≡ Some (kind.Key keyword.Null) → is_sign punct.Dash k ≡ false
  unfolding is_sign
  null_no_dash k e = ap (is_sign punct.Dash) e

  start_yes : {s t : Spot} {v : StartValue} → by.Start tok fits s t v → Ends (λ m. it.start_value tok fits m) s (got v t)
  unfolding it.start_value it.number_value it.negative_value it.null_value number_at
  start_yes (by.number {s} z i) = ends_some _ z _ _ (ap number_at i.0) (ends_here _ (ends_then _ _ (take_yes tok fits s passed i.1) (ends_pure _ (passed s))))
  start_yes (by.negative {s} z i j) = ends_none _ _ _ (no_number (tok s.at) punct.Dash i.0) (ends_yes _ _ _ (has_yes tok fits punct.Dash s i.0)
      (ends_here _ (ends_then _ _ (take_yes tok fits s passed i.1) (ends_here _ (ends_bind _ _ (number_yes tok fits (passed s) z j) (ends_pure _ (passed (passed s))))))))
  start_yes (by.null {s} i) = ends_none _ _ _ (null_no_number (tok s.at) i.0) (ends_no _ _ _ (has_no tok fits punct.Dash s (null_no_dash (tok s.at) i.0))
      (ends_here _ (ends_then _ _ (key_taken tok fits s keyword.Null i) (ends_pure _ (passed s)))))

  start_sound : (n : ℕ) (s : Spot) → Made (λ v t. by.Start tok fits s t v) (it.start_value tok fits n s)
  unfolding it.start_value it.number_value it.negative_value it.null_value
  start_sound n s = made_given _ s _ _ _ (λ z e. made_here _ s _ (then_take tok fits _ s passed _ (λ f. made_pure _ (passed s) _ (by.number z (number_tells (tok s.at) z e, f)))))
      (λ _. made_branch _ s _ _ _ (λ e. made_here _ s _ (then_take tok fits _ s passed _ (λ f. made_here _ (passed s) _ (then_number tok fits _ (passed s) _ (λ z i. made_pure _ (passed (passed s)) _ (by.negative z (has_tells tok fits punct.Dash s e, f) i))))))
      (λ _. made_here _ s _ (then_word tok fits _ s keyword.Null _ (λ i. made_pure _ (passed s) _ (by.null i)))))

  global_from_plain : (s : Spot) (d : Declarator) → is_sign punct.Assign (tok s.at) ≡ false → Ends (λ m. it.global_from tok fits m d) s (got (record { declarator = d; start = None }) s)
  unfolding it.global_from
  global_from_plain s d e = ends_no _ _ _ (has_no tok fits punct.Assign s e) (ends_pure _ s)

  global_from_starts : {s t : Spot} {v : StartValue} (d : Declarator) → Is tok fits punct.Assign s → by.Start tok fits (passed s) t v →
      Ends (λ m. it.global_from tok fits m d) s (got (record { declarator = d; start = Some (record { equals = s.at; value = v }) }) t)
  unfolding it.global_from
  global_from_starts {s} {t} d i h = ends_yes _ _ _ (has_yes tok fits punct.Assign s i.0) (ends_here _ (ends_then _ _ (take_yes tok fits s passed i.1) (ends_bind _ _ (start_yes h) (ends_pure _ t))))

  -- a global's declarator, and what stands behind it
  abbrev Parted : Spot → Spot → GlobalPart → Type 0
  Parted s t g = (u : Spot) × (d : Declarator) × rs.Declares tok fits s u d × (free (tok u.at) ≡ true) × Ends (λ m. it.global_from tok fits m d) u (got g t)

  parted : {s t : Spot} {g : GlobalPart} → by.Global tok fits s t g → ender (tok t.at) ≡ true → Parted s t g
  parted (by.plain {s} {t} {d} h) w = (t, d, h, ender_free (tok t.at) w, global_from_plain t d (ender_assign (tok t.at) w))
  parted (by.starts {s} {t} {u} {d} {v} h i e) w = (t, d, h, assigned_free tok fits (tok t.at) i.0, global_from_starts d i e)

  global_yes : (s t : Spot) (g : GlobalPart) → by.Global tok fits s t g → ender (tok t.at) ≡ true → Ends (λ m. it.global tok fits m) s (got g t)
  unfolding it.global
  global_yes s t g d w = let p = parted d w in ends_bind _ _ (declares_yes tok fits p.2 p.3) p.4

  global_from_sound : (n : ℕ) (s t : Spot) (d : Declarator) → rs.Declares tok fits s t d → Made (λ g u. by.Global tok fits s u g) (it.global_from tok fits n d t)
  unfolding it.global_from
  global_from_sound n s t d h = made_branch _ t _ _ _ (λ e. made_here _ t _ (then_take tok fits _ t passed _ (λ f. made_bind _ _ (passed t) _ _ (start_sound n (passed t)) (λ v u x.
      made_pure _ u _ (by.starts h (has_tells tok fits punct.Assign t e, f) x))))) (λ _. made_pure _ t _ (by.plain h))

  global_sound : (n : ℕ) (s : Spot) → Made (λ g t. by.Global tok fits s t g) (it.global tok fits n s)
  unfolding it.global
  global_sound n s = made_bind _ _ s _ _ (declares_sound tok fits n s) (λ d t h. global_from_sound n s t d h)

  -- ---- functions

  proto_yes : (s t : Spot) (p : ProtoParam) → by.Prototyped tok fits s t p → ender (tok t.at) ≡ true → Ends (λ m. it.proto tok fits m) s (got p t)
  unfolding it.proto
  proto_yes s t p (by.nameless d) w = ends_bind _ _ (type_complete tok fits d (free_star (tok t.at) (ender_free (tok t.at) w)))
      (ends_no _ _ _ (ender_name (tok t.at) w) (ends_pure _ t))
  proto_yes _ _ _ (by.named {s} {t} d i) w = ends_bind _ _ (type_complete tok fits d (free_star (tok t.at) (name_free (tok t.at) i.0)))
      (ends_yes _ _ _ (name_is (tok t.at) i.0) (ends_here _ (ends_then _ _ (take_yes tok fits t passed i.1) (ends_pure _ (passed t)))))

  proto_sound : (n : ℕ) (s : Spot) → Made (λ p t. by.Prototyped tok fits s t p) (it.proto tok fits n s)
  unfolding it.proto
  proto_sound n s = made_bind _ _ s _ _ (type_sound tok fits n s) (λ r t h. made_branch _ t _ _ _
      (λ e. made_here _ t _ (then_take tok fits _ t passed _ (λ f. made_pure _ (passed t) _ (by.named h (is_name_tells (tok t.at) e, f))))) (λ _. made_pure _ t _ (by.nameless h)))

  close_is : (k : Option Kind) → k ≡ Some (kind.Punct punct.Close) → is_sign punct.Close k ≡ true
  close_is k e = ap (is_sign punct.Close) e ∙ sign_yes punct.Close

  protos_yes : {s t : Spot} {l : List ProtoParam} → by.Listed tok fits ProtoParam (by.Prototyped tok fits) s t l → tok t.at ≡ Some (kind.Punct punct.Close) → Ends (λ m. it.protos tok fits m) s (got l t)
  unfolding it.protos it.void_protos
  protos_yes (by.none {s}) c = ends_yes _ _ _ (has_yes tok fits punct.Close s c) (ends_pure [] s)
  protos_yes (by.void {s} i) c = ends_no _ _ _ (has_no tok fits punct.Close s (key_no_close (tok s.at) i.0)) (ends_yes _ _ _ (key_is (tok s.at) i.0)
      (ends_then _ _ (take_yes tok fits s passed i.1) (ends_pure [] (passed s))))
  protos_yes (by.some {s} {t} d) c = let h = protos_start d in ends_no _ _ _ (has_no tok fits punct.Close s h.0) (ends_no _ _ _ h.1
      (commas_yes tok fits (λ m. it.proto tok fits m) proto_yes d (close_ends tok fits (tok t.at) c) (close_no_comma tok fits (tok t.at) c)))

  protos_sound : (n : ℕ) (s : Spot) → Made (λ l t. by.Listed tok fits ProtoParam (by.Prototyped tok fits) s t l) (it.protos tok fits n s)
  unfolding it.protos it.void_protos
  protos_sound n s = made_branch _ s _ _ _ (λ _. made_pure _ s _ by.none) (λ _. made_branch _ s _ _ _
      (λ e. then_take tok fits _ s passed _ (λ f. made_pure _ (passed s) _ (by.void (is_key_tells keyword.Void (tok s.at) e, f))))
      (λ _. made_map _ _ (st.commas tok fits (λ m. it.proto tok fits m) n s) (λ l t h. by.some h) (commas_sound tok fits (by.Prototyped tok fits) (λ m. it.proto tok fits m) proto_sound n s)))

  -- behind the name
  abbrev HeadingYes : Spot → Spot → List ProtoParam → Type 0
  HeadingYes s t l = IsName tok fits s × (is_sign punct.Open (tok (suc s.at)) ≡ true) × Ends (λ m. it.heading tok fits m) (passed s) (got l t)

  heading_yes : {s t : Spot} {l : List ProtoParam} → by.Heading tok fits ProtoParam (by.Prototyped tok fits) s t l → HeadingYes s t l
  unfolding it.heading
  heading_yes (by.heading {s} {t} {l} i o d c) = (
    i,
    ap (is_sign punct.Open) o.0 ∙ sign_yes punct.Open,
    ends_here _ (ends_then _ _ (expect_yes tok fits (passed s) punct.Open opened o)
        (ends_bind _ _ (protos_yes d c.0) (ends_then _ _ (close_yes tok fits t punct.Close s.level c) (ends_pure l (closed t s.level))))),
  )

  heading_sound : (n : ℕ) (s : Spot) → IsName tok fits s → Made (λ l t. by.Heading tok fits ProtoParam (by.Prototyped tok fits) s t l) (it.heading tok fits n (passed s))
  unfolding it.heading
  heading_sound n s i = made_here _ (passed s) _ (then_sign tok fits _ (passed s) punct.Open opened _ (λ o. made_bind _ _ (opened (passed s)) _ _ (protos_sound n (opened (passed s))) (λ l t d.
      then_close tok fits _ t punct.Close s.level _ (λ c. made_pure _ (closed t s.level) _ (by.heading i o d c)))))

  -- parameters with names are those of a prototype
  named_proto : {s t : Spot} {p : Param} → by.Parameter tok fits s t p → by.Prototyped tok fits s t (record { ty = p.ty; name = Some p.name })
  named_proto (by.named d i) = by.named d i

  append_nameless : (l : List Param) (p : Param) → nameless (l ++ p ∷ []) ≡ nameless l ++ record { ty = p.ty; name = Some p.name } ∷ []
  append_nameless [] p = refl
  append_nameless (q ∷ l) p = ap (λ l. record { ty = q.ty; name = Some q.name } ∷ l) (append_nameless l p)

  params_protos : {s t : Spot} {l : List Param} → rs.Commas tok fits Param (by.Parameter tok fits) s t l → rs.Commas tok fits ProtoParam (by.Prototyped tok fits) s t (nameless l)
  params_protos (rs.first d) = rs.first (named_proto d)
  params_protos (rs.next {s} {t} {u} {l} {a} d i e) = rw (append_nameless l a) (rs.next (params_protos d) i (named_proto e))

  heading_protos : {s t : Spot} {l : List Param} → by.Heading tok fits Param (by.Parameter tok fits) s t l → by.Heading tok fits ProtoParam (by.Prototyped tok fits) s t (nameless l)
  heading_protos (by.heading i o by.none c) = by.heading i o by.none c
  heading_protos (by.heading i o (by.void v) c) = by.heading i o (by.void v) c
  heading_protos (by.heading i o (by.some d) c) = by.heading i o (by.some (params_protos d)) c

  protos_params : {s t : Spot} {l : List ProtoParam} (q : List Param) → rs.Commas tok fits ProtoParam (by.Prototyped tok fits) s t l → with_names l ≡ Some q → rs.Commas tok fits Param (by.Parameter tok fits) s t q
  unfolding with_names add_named
  protos_params q (rs.first (by.nameless d)) e = cc
  protos_params q (rs.first (by.named {s} {t} {r} d i)) e = let h : record { ty = r; name = t.at } ∷ [] ≡ q = cc (e) in subst (λ q. rs.Commas tok fits Param (by.Parameter tok fits) s (passed t) q) h (rs.first (by.named d i))
  protos_params q (rs.next {s} {t} {u} {l} d i (by.nameless {r} h)) e = let w = append_back l r None q e in absurd (cc (w.2))
  protos_params q (rs.next {s} {t} {l = l} d i (by.named {t = v} {r = r} h n)) e = let w = append_back l r (Some v.at) q e in
      let x : w.0 ≡ v.at = cc (w.2) in
      subst (λ q. rs.Commas tok fits Param (by.Parameter tok fits) s (passed v) q) (sym (w.4 ∙ ap (λ x. w.1 ++ record { ty = r; name = x } ∷ []) x)) (rs.next (protos_params w.1 d w.3) i (by.named h n))

  nothing_named : (q : List Param) → with_names [] ≡ Some q → [] ≡ q
  unfolding with_names
  nothing_named q e = cc

  pub heading_params : {s t : Spot} {l : List ProtoParam} (q : List Param) → by.Heading tok fits ProtoParam (by.Prototyped tok fits) s t l → with_names l ≡ Some q → by.Heading tok fits Param (by.Parameter tok fits) s t q
  heading_params q (by.heading {s} {t} i o by.none c) e = subst (λ q. by.Heading tok fits Param (by.Parameter tok fits) s (closed t s.level) q) (nothing_named q e) (by.heading i o by.none c)
  heading_params q (by.heading {s} {t} i o (by.void v) c) e = subst (λ q. by.Heading tok fits Param (by.Parameter tok fits) s (closed t s.level) q) (nothing_named q e) (by.heading i o (by.void v) c)
  heading_params q (by.heading i o (by.some d) c) e = by.heading i o (by.some (protos_params q d e)) c

  block_opens : {s t : Spot} {l : List Part} → rs.Block tok fits s t l → tok s.at ≡ Some (kind.Punct punct.OpenBrace)
  block_opens (rs.braces i d c) = i.0

  semicolon_no_brace : (k : Option Kind) → k ≡ Some (kind.Punct punct.Semicolon) → is_sign punct.OpenBrace k ≡ false
  unfolding is_sign
  semicolon_no_brace k e = ap (is_sign punct.OpenBrace) e

  -- a function behind its name
  abbrev Named : Spot → Spot → ResultType → Item → Type 0
  Named s t r i = IsName tok fits s × (is_sign punct.Open (tok (suc s.at)) ≡ true) × Ends (λ m. it.function_from tok fits m r s.at) (passed s) (got i t)

  function_named : {s t u : Spot} {l : List Param} {b : List Part} (r : ResultType) → by.Heading tok fits Param (by.Parameter tok fits) s t l → rs.Block tok fits t u b →
      Named s u r (an_item.Func (record { result = r; name = s.at; params = l; body = b }))
  unfolding it.function_from it.ending it.bodied
  function_named {s} {t} {u} {l} {b} r h d = let k = heading_yes (heading_protos h) in (
    k.0,
    k.1,
    ends_bind _ _ k.2 (ends_yes _ _ _ (has_yes tok fits punct.OpenBrace t (block_opens d))
        (ends_some _ l _ _ (names_back l) (ends_bind _ _ (block_yes tok fits d) (ends_pure _ u)))),
  )

  prototype_named : {s t : Spot} {l : List ProtoParam} (r : ResultType) → by.Heading tok fits ProtoParam (by.Prototyped tok fits) s t l → Is tok fits punct.Semicolon t → Named s (passed t) r (an_item.Prototype r s.at l)
  unfolding it.function_from it.ending it.bodied
  prototype_named {s} {t} {l} r h i = let k = heading_yes h in (
    k.0,
    k.1,
    ends_bind _ _ k.2 (ends_no _ _ _ (has_no tok fits punct.OpenBrace t (semicolon_no_brace (tok t.at) i.0))
        (ends_then _ _ (expect_yes tok fits t punct.Semicolon passed i) (ends_pure _ (passed t)))),
  )

  function_sound : (n : ℕ) (s t : Spot) (r : ResultType) → by.Returns tok fits s t r → IsName tok fits t → Made (λ i u. by.ItemAt tok fits s u i) (it.function_from tok fits n r t.at (passed t))
  unfolding it.function_from it.ending it.bodied
  function_sound n s t r d i = made_bind _ _ (passed t) _ _ (heading_sound n t i) (λ l u h. made_branch _ u _ _ _
      (λ _. made_given _ u _ _ _ (λ q e. made_bind _ _ u _ _ (block_sound tok fits n u) (λ b v k. made_pure _ v _ (by.function d (heading_params q h e) k))) (λ _. made_wrong _ u))
      (λ _. then_sign tok fits _ u punct.Semicolon passed _ (λ c. made_pure _ (passed u) _ (by.prototype d h c))))

  -- ---- items with a type

  stars_no_brace : {s t : Spot} {k : ℕ} → Stars tok fits s t k → IsName tok fits t → is_sign punct.OpenBrace (tok s.at) ≡ false
  unfolding is_sign
  stars_no_brace ty.none i = ap (is_sign punct.OpenBrace) i.0
  stars_no_brace (ty.star j d) i = ap (is_sign punct.OpenBrace) j.0

  typed_at : {s t : Spot} {b : Base} → BaseType tok fits s t b → is_sign punct.OpenBrace (tok t.at) ≡ false → item_at (tok s.at) (tok (suc (suc s.at))) ≡ a_typed
  unfolding item_at struct_or
  typed_at (ty.int {s} i) e = ap (λ k. item_at k (tok (suc (suc s.at)))) i.0
  typed_at (ty.struct {s} i n) e = ap (λ k. item_at k (tok (suc (suc s.at)))) i.0 ∙ ap struct_or e
  typed_at (ty.alias {s} i) e = ap (λ k. item_at k (tok (suc (suc s.at)))) i.0

  pub by_item : (s : Spot) {r : Got Item} (q : ItemStart) → item_at (tok s.at) (tok (suc (suc s.at))) ≡ q → Ends (λ m. it.item_of tok fits m q) s r → Ends (λ m. it.item tok fits m) s r
  unfolding it.item
  by_item s q e h = ends_here _ (rw e h)

  typed_function : {s t u v : Spot} {b : Base} {k : ℕ} {i : Item} → BaseType tok fits s t b → Stars tok fits t u k → Named u v (returned.Value (record { base = b; stars = k })) i → Ends (λ m. it.item tok fits m) s (got i v)
  unfolding it.item_of it.typed_from st.has
  typed_function {s} {t} {u} {v} {b} {k} d h n = by_item s a_typed (typed_at d (stars_no_brace h n.0)) (ends_base _ _ (base_complete tok fits d) (ends_here _ (ends_bind _ _ (stars_complete tok fits h (free_star (tok u.at) (name_free (tok u.at) n.0.0)))
      (ends_here _ (ends_then _ _ (name_taken tok fits u n.0) (ends_yes _ _ _ n.1 n.2))))))

  free_open : (k : Option Kind) → free k ≡ true → is_sign punct.Open k ≡ false
  unfolding free is_sign
  free_open (Some (kind.Punct punct.Open)) e = cc
  free_open _ e = refl

  square_no_open : (k : Option Kind) → k ≡ Some (kind.Punct punct.OpenSquare) → is_sign punct.Open k ≡ false
  unfolding is_sign
  square_no_open k e = ap (is_sign punct.Open) e

  lengths_no_open : {s t : Spot} {l : List Length} → rs.Lengths tok fits s t l → is_sign punct.Open (tok t.at) ≡ false → is_sign punct.Open (tok s.at) ≡ false
  lengths_no_open rs.none e = e
  lengths_no_open (rs.more {s} {t} z d i n c) e = lengths_no_open d (square_no_open (tok t.at) i.0)

  declares_no_brace : {s t : Spot} {d : Declarator} → rs.Declares tok fits s t d → is_sign punct.OpenBrace (tok s.at) ≡ false
  declares_no_brace (rs.declares d i l) = stars_no_brace d i

  globals_no_brace : {s t : Spot} {l : List GlobalPart} → rs.Commas tok fits GlobalPart (by.Global tok fits) s t l → is_sign punct.OpenBrace (tok s.at) ≡ false
  globals_no_brace (rs.first (by.plain d)) = declares_no_brace d
  globals_no_brace (rs.first (by.starts d i v)) = declares_no_brace d
  globals_no_brace (rs.next d i e) = globals_no_brace d

  typed_globals : {s u v e : Spot} {d : Declarator} {g : GlobalPart} {l : List GlobalPart} (b : Base) → rs.Declares tok fits s u d → free (tok u.at) ≡ true → Ends (λ m. it.global_from tok fits m d) u (got g v) →
      Ends (λ m. st.commas_more tok fits (it.global tok fits) m (g ∷ [])) v (got l e) → Is tok fits punct.Semicolon e → Ends (λ m. it.typed_from tok fits m b) s (got (an_item.Globals b l) (passed e))
  unfolding it.typed_from it.globals_named it.globals_from
  typed_globals {v = v} {e = e} b (rs.declares {s} {t} {u} {n} {l} d i h) f g k c = ends_here _ (ends_bind _ _ (stars_complete tok fits d (free_star (tok t.at) (name_free (tok t.at) i.0)))
      (ends_here _ (ends_then _ _ (name_taken tok fits t i) (ends_no _ _ _ (has_no tok fits punct.Open (passed t) (lengths_no_open h (free_open (tok u.at) f))) (ends_bind _ _ (lengths_yes tok fits h f s.level n t.at)
      (ends_bind _ _ g (ends_bind _ _ k (ends_then _ _ (expect_yes tok fits e punct.Semicolon passed c) (ends_pure _ (passed e))))))))))

  globals_sound : (n : ℕ) (s t u : Spot) (b : Base) (d : Declarator) → BaseType tok fits s t b → rs.Declares tok fits t u d → Made (λ i v. by.ItemAt tok fits s v i) (it.globals_from tok fits n b d u)
  unfolding it.globals_from
  globals_sound n s t u b d h k = made_bind _ _ u _ _ (global_from_sound n t u d k) (λ g v x. made_bind _ _ v _ _ (commas_more_sound tok fits (by.Global tok fits) (it.global tok fits) global_sound n (g ∷ []) t v (rs.first x))
      (λ l w c. then_sign tok fits _ w punct.Semicolon passed _ (λ i. made_pure _ (passed w) _ (by.globals h c i))))

  typed_sound : (n : ℕ) (s t : Spot) (b : Base) → BaseType tok fits s t b → Made (λ i v. by.ItemAt tok fits s v i) (it.typed_from tok fits n b t)
  unfolding it.typed_from it.globals_named
  typed_sound n s t b h = made_here _ t _ (made_bind _ _ t _ _ (stars_sound tok fits n t) (λ k u d. made_here _ u _ (then_name tok fits _ u _ (λ i. made_branch _ (passed u) _ _ _
      (λ _. function_sound n s u (returned.Value (record { base = b; stars = k })) (by.value (ty.typed h d)) i)
      (λ _. made_bind (λ x v. rs.Declares tok fits t v x) _ (passed u) _ _ (declarator_made tok fits _ n t.level k u.at (passed u) (λ v l q. rs.declares d i q)) (λ x v y. globals_sound n s t v b x h y))))))

  -- ---- the others

  name_no_brace : (k : Option Kind) → k ≡ Some (kind.Punct punct.OpenBrace) → is_name k ≡ false
  name_no_brace k e = not_name k punct.OpenBrace e

  fields_open : {s t : Spot} {l : List Field} → by.Fields tok fits s t l → tok s.at ≡ Some (kind.Punct punct.OpenBrace)
  fields_open (by.braces i d c) = i.0

  struct_at : (j k : Option Kind) → j ≡ Some (kind.Key keyword.Struct) → k ≡ Some (kind.Punct punct.OpenBrace) → item_at j k ≡ a_struct
  unfolding item_at struct_or
  struct_at j k e f = ap (λ j. item_at j k) e ∙ ap struct_or (ap (is_sign punct.OpenBrace) f ∙ sign_yes punct.OpenBrace)

  item_yes : {s t : Spot} {i : Item} → by.ItemAt tok fits s t i → Ends (λ m. it.item tok fits m) s (got i t)
  unfolding it.item_of it.typedef it.tagged it.alias it.struct_type it.struct_def it.procedure item_at
  item_yes (by.alias {s} i j n m c) = by_item s a_typedef (ap (λ k. item_at k (tok (suc (suc s.at)))) i.0) (ends_then _ _ (take_yes tok fits s passed i.1) (ends_then _ _ (key_taken tok fits (passed s) keyword.Struct j)
      (ends_yes _ _ _ (name_is (tok (suc (suc s.at))) n.0) (ends_here _ (ends_then _ _ (take_yes tok fits (passed (passed s)) passed n.1) (ends_yes _ _ _ (name_is (tok (suc (suc (suc s.at)))) m.0)
      (ends_here _ (ends_then _ _ (take_yes tok fits (passed (passed (passed s))) passed m.1) (ends_then _ _ (expect_yes tok fits (passed (passed (passed (passed s)))) punct.Semicolon passed c) (ends_pure _ (passed (passed (passed (passed (passed s)))))))))))))))
  item_yes (by.untagged {s} {t} {l} i j h n c) = by_item s a_typedef (ap (λ k. item_at k (tok (suc (suc s.at)))) i.0) (ends_then _ _ (take_yes tok fits s passed i.1) (ends_then _ _ (key_taken tok fits (passed s) keyword.Struct j)
      (ends_no _ _ _ (name_no_brace (tok (suc (suc s.at))) (fields_open h)) (ends_bind _ _ (fields_yes h) (ends_here _ (ends_then _ _ (name_taken tok fits t n) (ends_then _ _ (expect_yes tok fits (passed t) punct.Semicolon passed c) (ends_pure _ (passed (passed t))))))))))
  item_yes (by.tagged {s} {t} {l} i j m h n c) = by_item s a_typedef (ap (λ k. item_at k (tok (suc (suc s.at)))) i.0) (ends_then _ _ (take_yes tok fits s passed i.1) (ends_then _ _ (key_taken tok fits (passed s) keyword.Struct j)
      (ends_yes _ _ _ (name_is (tok (suc (suc s.at))) m.0) (ends_here _ (ends_then _ _ (take_yes tok fits (passed (passed s)) passed m.1) (ends_no _ _ _ (name_no_brace (tok (suc (suc (suc s.at)))) (fields_open h))
      (ends_bind _ _ (fields_yes h) (ends_here _ (ends_then _ _ (name_taken tok fits t n) (ends_then _ _ (expect_yes tok fits (passed t) punct.Semicolon passed c) (ends_pure _ (passed (passed t)))))))))))))
  item_yes (by.struct {s} {t} {l} i n h c) = by_item s a_struct (struct_at (tok s.at) (tok (suc (suc s.at))) i.0 (fields_open h)) (ends_then _ _ (take_yes tok fits s passed i.1) (ends_here _ (ends_then _ _ (name_taken tok fits (passed s) n)
      (ends_bind _ _ (fields_yes h) (ends_then _ _ (expect_yes tok fits t punct.Semicolon passed c) (ends_pure _ (passed t)))))))
  item_yes (by.globals {s} {t} {u} {b} {l} d h c) = by_item s a_typed (typed_at d (globals_no_brace h)) (ends_base _ _ (base_complete tok fits d)
      (listed tok fits (it.global tok fits) global_yes (got l u) (Ends (λ m. it.typed_from tok fits m b) t (got (an_item.Globals b l) (passed u)))
      (λ v g x w k. let p = parted x w in typed_globals b p.2 p.3 p.4 k c) h (semicolon_ends tok fits (tok u.at) c.0) (listing_ends tok fits (it.global tok fits) l u (semicolon_no_comma tok fits (tok u.at) c.0))))
  item_yes (by.function {s} {t} {u} {v} {r} (by.void i) h d) = let k = function_named returned.Void h d in by_item s a_void (ap (λ k. item_at k (tok (suc (suc s.at)))) i.0) (ends_then _ _ (take_yes tok fits s passed i.1) (ends_here _ (ends_then _ _ (name_taken tok fits (passed s) k.0) k.2)))
  item_yes (by.function (by.value (ty.typed {b = b} {n = n} e f)) h d) = typed_function e f (function_named (returned.Value (record { base = b; stars = n })) h d)
  item_yes (by.prototype {s} (by.void i) h c) = let k = prototype_named returned.Void h c in by_item s a_void (ap (λ k. item_at k (tok (suc (suc s.at)))) i.0) (ends_then _ _ (take_yes tok fits s passed i.1) (ends_here _ (ends_then _ _ (name_taken tok fits (passed s) k.0) k.2)))
  item_yes (by.prototype (by.value (ty.typed {b = b} {n = n} e f)) h c) = typed_function e f (prototype_named (returned.Value (record { base = b; stars = n })) h c)

  abbrev pub Begun : ItemStart → Option Kind → Type 0
  Begun a_typedef k = k ≡ Some (kind.Key keyword.Typedef)
  Begun a_struct k = k ≡ Some (kind.Key keyword.Struct)
  Begun a_void k = k ≡ Some (kind.Key keyword.Void)
  Begun a_typed k = Unit {0}

  struct_tells : (b : Bool) → Begun (struct_or b) (Some (kind.Key keyword.Struct))
  unfolding struct_or
  struct_tells true = refl
  struct_tells false = tt

  pub item_tells : (k j : Option Kind) → Begun (item_at k j) k
  unfolding item_at
  item_tells (Some (kind.Key keyword.Typedef)) j = refl
  item_tells (Some (kind.Key keyword.Struct)) j = struct_tells (is_sign punct.OpenBrace j)
  item_tells (Some (kind.Key keyword.Void)) j = refl
  item_tells _ j = tt

  of_sound : (n : ℕ) (s : Spot) (q : ItemStart) → Begun q (tok s.at) → Made (λ i t. by.ItemAt tok fits s t i) (it.item_of tok fits n q s)
  unfolding it.item_of it.typedef it.tagged it.alias it.struct_type it.struct_def it.procedure
  of_sound n s a_typedef e = then_take tok fits _ s passed _ (λ f. then_word tok fits _ (passed s) keyword.Struct _ (λ j. made_branch _ (passed (passed s)) _ _ _
      (λ x. made_here _ (passed (passed s)) _ (then_take tok fits _ (passed (passed s)) passed _ (λ y. made_branch _ (passed (passed (passed s))) _ _ _
      (λ z. made_here _ (passed (passed (passed s))) _ (then_take tok fits _ (passed (passed (passed s))) passed _ (λ w. then_sign tok fits _ (passed (passed (passed (passed s)))) punct.Semicolon passed _ (λ c.
      made_pure _ (passed (passed (passed (passed (passed s))))) _ (by.alias (e, f) j (is_name_tells (tok (suc (suc s.at))) x, y) (is_name_tells (tok (suc (suc (suc s.at)))) z, w) c)))))
      (λ _. made_bind _ _ (passed (passed (passed s))) _ _ (fields_sound n (passed (passed (passed s)))) (λ l t h. made_here _ t _ (then_name tok fits _ t _ (λ i. then_sign tok fits _ (passed t) punct.Semicolon passed _ (λ c.
      made_pure _ (passed (passed t)) _ (by.tagged (e, f) j (is_name_tells (tok (suc (suc s.at))) x, y) h i c)))))))))
      (λ _. made_bind _ _ (passed (passed s)) _ _ (fields_sound n (passed (passed s))) (λ l t h. made_here _ t _ (then_name tok fits _ t _ (λ i. then_sign tok fits _ (passed t) punct.Semicolon passed _ (λ c.
      made_pure _ (passed (passed t)) _ (by.untagged (e, f) j h i c))))))))
  of_sound n s a_struct e = then_take tok fits _ s passed _ (λ f. made_here _ (passed s) _ (then_name tok fits _ (passed s) _ (λ i. made_bind _ _ (passed (passed s)) _ _ (fields_sound n (passed (passed s))) (λ l t h.
      then_sign tok fits _ t punct.Semicolon passed _ (λ c. made_pure _ (passed t) _ (by.struct (e, f) i h c))))))
  of_sound n s a_void e = then_take tok fits _ s passed _ (λ f. made_here _ (passed s) _ (then_name tok fits _ (passed s) _ (λ i. function_sound n s (passed s) returned.Void (by.void (e, f)) i)))
  of_sound n s a_typed e = made_bind _ _ s _ _ (base_sound tok fits s) (λ b t h. typed_sound n s t b h)

  item_sound : (n : ℕ) (s : Spot) → Made (λ i t. by.ItemAt tok fits s t i) (it.item tok fits n s)
  unfolding it.item
  item_sound n s = made_here _ s _ (of_sound n s (item_at (tok s.at) (tok (suc (suc s.at)))) (item_tells (tok s.at) (tok (suc (suc s.at)))))

  -- ---- programs

  some_goes : (k : Option Kind) (x : Kind) → k ≡ Some x → is_end k ≡ false
  unfolding is_end
  some_goes k x e = ap is_end e

  base_goes : {s t : Spot} {b : Base} → BaseType tok fits s t b → is_end (tok s.at) ≡ false
  base_goes (ty.int {s} i) = some_goes (tok s.at) _ i.0
  base_goes (ty.struct {s} i n) = some_goes (tok s.at) _ i.0
  base_goes (ty.alias {s} i) = some_goes (tok s.at) _ i.0

  returns_goes : {s t : Spot} {r : ResultType} → by.Returns tok fits s t r → is_end (tok s.at) ≡ false
  returns_goes (by.void {s} i) = some_goes (tok s.at) _ i.0
  returns_goes (by.value (ty.typed d h)) = base_goes d

  item_goes : {s t : Spot} {i : Item} → by.ItemAt tok fits s t i → is_end (tok s.at) ≡ false
  item_goes (by.alias {s} i j n m c) = some_goes (tok s.at) _ i.0
  item_goes (by.untagged {s} i j h n c) = some_goes (tok s.at) _ i.0
  item_goes (by.tagged {s} i j m h n c) = some_goes (tok s.at) _ i.0
  item_goes (by.struct {s} i n h c) = some_goes (tok s.at) _ i.0
  item_goes (by.globals d h c) = base_goes d
  item_goes (by.function d h b) = returns_goes d
  item_goes (by.prototype d h c) = returns_goes d

  abbrev Listing : List Item → ℕ → P (List Item)
  Listing l m = st.many tok fits (λ s. is_end (tok s.at)) (it.item tok fits) m l

  items_go : {s t : Spot} {l : List Item} {r : Got (List Item)} → by.Items tok fits s t l → Ends (Listing l) t r → Ends (Listing []) s r
  items_go by.none k = k
  items_go (by.more {s} {t} {u} {l} {i} d e) k = items_go d (many_go tok fits (λ s. is_end (tok s.at)) (it.item tok fits) l (item_goes e) (ends_bind _ _ (item_yes e) k))

  pub items_yes : {s t : Spot} {l : List Item} → by.Items tok fits s t l → tok t.at ≡ None → Ends (λ m. it.items tok fits m) s (got l t)
  unfolding it.items is_end
  items_yes {s} {t} {l} d e = items_go d (many_stop tok fits (λ s. is_end (tok s.at)) (it.item tok fits) l (ap is_end e))

  at_end : (k : Option Kind) → is_end k ≡ true → k ≡ None
  unfolding is_end
  at_end None e = refl
  at_end (Some k) e = cc

  pub items_sound : (n : ℕ) (s : Spot) → Made (λ l t. by.Items tok fits s t l × (tok t.at ≡ None)) (it.items tok fits n s)
  unfolding it.items
  items_sound n s = made_map (λ l t. by.Items tok fits s t l × (is_end (tok t.at) ≡ true)) _ (it.items tok fits n s) (λ l t h. (h.0, at_end (tok t.at) h.1))
      (made_many tok fits (λ l t. by.Items tok fits s t l) (λ s. is_end (tok s.at)) (it.item tok fits)
      (λ m l t d e. made_map (λ i u. by.ItemAt tok fits t u i) _ (it.item tok fits m t) (λ i u h. by.more d h) (item_sound m t)) n [] s by.none)
