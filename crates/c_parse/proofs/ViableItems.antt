-- Where the items of a file meet a fault, the tokens before it begin items.
use Rattle.std.proofs.Common.{ℕ, suc, List, [], ◌∷◌, Option, Some, None, arith}
use Rattle.cc_model.specs.declared.tokens.Kind.TheVariants as kind
use Rattle.cc_model.specs.declared.tokens.Punct.TheVariants as punct
use Rattle.cc_model.specs.declared.tokens.Keyword.TheVariants as keyword
use Rattle.cc_model.specs.declared.trees.Base.{Base}
use Rattle.cc_model.specs.declared.trees.TypeName.{TypeName}
use Rattle.cc_model.specs.declared.trees.ResultType.{ResultType}
use Rattle.cc_model.specs.declared.trees.ResultType.TheVariants as returned
use Rattle.cc_model.specs.declared.trees.Declarator.{Declarator}
use Rattle.cc_model.specs.declared.trees.ProtoParam.{ProtoParam}
use Rattle.cc_model.specs.declared.trees.Field.{Field}
use Rattle.cc_model.specs.declared.trees.Item.{Item}
use Rattle.cc_model.specs.declared.trees.Item.TheVariants as an_item
use Rattle.cc_model.specs.Spots.{Spot, opened, passed, closed}
use Rattle.cc_model.specs.ReadStatements as rs
use Rattle.cc_model.specs.ReadItems as by
use Rattle.c_expressions.specs.Descent.{Got, got, failed, bad, P, ◌>>=◌, ◌>>◌, pure, wrong, is_sign, is_key, is_name, on_some}
use Rattle.c_expressions.specs.Descent as of
use Rattle.c_statements.specs.DescentStatements.{branch, given, number_at}
use Rattle.c_statements.specs.DescentStatements as st
use Rattle.c_parse.specs.DescentItems.{with_names, ItemStart, a_typedef, a_struct, a_void, a_typed, item_at, is_end}
use Rattle.c_parse.specs.DescentItems as it
use Rattle.c_expressions.proofs.Tests.{is_key_tells, is_name_tells}
use Rattle.c_statements.proofs.StmtSound.{number_tells, has_tells}
use Rattle.c_parse.proofs.ItemLaws.{Begun, item_tells}
use Rattle.c_expressions.proofs.Viable.{Tokens, Fits, Verdict, put, put_here, put_before, fits_behind, verdict_bind, verdict_map, verdict_if, verdict_some, done_verdict}
use Rattle.c_expressions.proofs.ViableExpressions.{base, stars, typed, base_verdict, stars_verdict, typed_verdict}
use Rattle.c_parse.proofs.FirmItems.{Headed, Tagged, Types, Behind, global_firm}
use Rattle.c_parse.proofs.Afters.{made, take_passes, sign_opens, sign_passes, word_passes, name_passes, close_shuts, verdict_here, verdict_made, verdict_many}
use Rattle.c_parse.proofs.ViableStatements.{number_piece, number_verdict, declarator_rest, declares, commas_rest, rest_verdict, declares_verdict, commas_verdict, commas_more_verdict}
use Rattle.c_parse.proofs.ViableParts.{block, block_verdict}
use Rattle.c_parse.proofs.ItemPieces.{declares_rel, declarators, line_parts, line_from, line, lines_rest, lines_parts, lines_from, lines, fields_parts, fields_from, fields, null_parts, null_from, value, number_parts, number_from, negative_parts, negative_from, valued, valued_plain, starts_parts, starts_from, global_parts, global_from, global, global_rel, naming, naming_none, name_parts, name_from, proto_parts, proto_from, proto, proto_rel, proto_list, protos, no_protos, void_parts, void_from, some_from, headed_parts, headed_from, headed, prototype_parts, prototype_from, ending, body_parts, body_from, prototype_rel, ending_rel, function_rest, struct_rest, tagged_from, tagged, alias_parts, alias_from, untagged_from, types, tag_parts, tag_from, globals_rest, globals_parts, globals_from, after_name, function_from, typed_parts, typed_from, item, typedef_parts, typedef_from, struct_parts, struct_from, procedure_parts, procedure_from, item_rel, items_rest, items_end, items}

module _ (tok : Tokens) (fits : Fits) where
  line_verdict : (n : ℕ) (s : Spot) → Verdict line tok fits s (it.field_line tok fits n s)
  unfolding it.field_line line line_parts declarators
  line_verdict n s = verdict_made tok fits by.FieldLine _ (λ _. line_parts) line_from s _
      (verdict_bind tok fits base _ s (of.base_type tok fits) _ (base_verdict tok fits s)
      (λ b t r. verdict_bind tok fits declarators _ t _ _ (commas_verdict tok fits rs.Declares _ declares declares_rel (λ m. st.declarator tok fits m) (declares_verdict tok fits) n t)
      (λ l u q. sign_passes tok fits punct.Semicolon _ u _ (done_verdict tok fits _ (passed u)))))

  line_rel : (tok : Tokens) (fits : Fits) (s t : Spot) (a : Field) → line.rel tok fits s a t → by.FieldLine tok fits s t a
  unfolding line made
  line_rel tok fits s t a d = d

  lines_verdict : (n : ℕ) (s : Spot) → Verdict lines tok fits s (it.field_lines tok fits n s)
  unfolding it.field_lines lines lines_parts lines_rest
  lines_verdict n s = verdict_made tok fits by.FieldLines _ (λ _. lines_parts) lines_from s _
      (verdict_bind tok fits line _ s (it.field_line tok fits n) _ (line_verdict n s)
      (λ f t r. verdict_many tok fits line by.FieldLine _ line_rel (st.has tok fits punct.CloseBrace) (it.field_line tok fits) (λ m u e. line_verdict m u) n (f ∷ []) t))

  fields_verdict : (n : ℕ) (s : Spot) → Verdict fields tok fits s (it.fields tok fits n s)
  unfolding it.fields st.here fields fields_parts
  fields_verdict n s = verdict_made tok fits by.Fields _ fields_parts fields_from s _
      (sign_opens tok fits punct.OpenBrace _ s _ (verdict_bind tok fits lines _ (opened s) (it.field_lines tok fits n) _ (lines_verdict n (opened s))
      (λ l t r. close_shuts tok fits punct.CloseBrace s.level _ t _ (done_verdict tok fits l (closed t s.level)))))

  value_verdict : (n : ℕ) (s : Spot) → Verdict value tok fits s (it.start_value tok fits n s)
  unfolding it.start_value it.number_value it.negative_value it.null_value st.here given branch number_parts negative_parts null_parts value
  value_verdict n s = verdict_some tok fits value s (number_at (tok s.at)) _ _
      (λ z e. verdict_map tok fits (number_parts z s) value s _ (λ tok' fits' v t d. number_from z tok' fits' s t v d)
      (take_passes tok fits (kind.Number z) _ s _ (number_tells (tok s.at) z e) (done_verdict tok fits _ (passed s))))
      (λ _. verdict_if tok fits value s (st.has tok fits punct.Dash s) _ _
      (λ e. verdict_map tok fits (negative_parts s) value s _ (λ tok' fits' v t d. negative_from tok' fits' s t v d)
      (take_passes tok fits (kind.Punct punct.Dash) _ s _ (has_tells tok fits punct.Dash s e) (verdict_bind tok fits number_piece _ (passed s) (st.expect_number tok fits) _ (number_verdict tok fits (passed s)) (λ z t r. done_verdict tok fits _ t))))
      (λ _. verdict_made tok fits by.Start _ null_parts null_from s _ (word_passes tok fits keyword.Null _ s _ (done_verdict tok fits _ (passed s)))))

  valued_verdict : (n : ℕ) (d : Declarator) (s : Spot) → Verdict (valued d) tok fits s (it.global_from tok fits n d s)
  unfolding it.global_from st.here branch pure starts_parts
  valued_verdict n d s = verdict_if tok fits (valued d) s (st.has tok fits punct.Assign s) _ _
      (λ e. verdict_map tok fits (starts_parts d s) (valued d) s _ (λ tok' fits' g t r. starts_from d tok' fits' s t g r)
      (take_passes tok fits (kind.Punct punct.Assign) _ s _ (has_tells tok fits punct.Assign s e) (verdict_bind tok fits value _ (passed s) (it.start_value tok fits n) _ (value_verdict n (passed s)) (λ v t r. done_verdict tok fits _ t))))
      (λ _. valued_plain d tok fits s)

  global_verdict : (n : ℕ) (s : Spot) → Verdict global tok fits s (it.global tok fits n s)
  unfolding it.global global global_parts
  global_verdict n s = verdict_made tok fits by.Global _ (λ _. global_parts) global_from s _
      (verdict_bind tok fits declares valued s (st.declarator tok fits n) _ (declares_verdict tok fits n s) (λ d t r. valued_verdict n d t))

  globals_verdict : (n : ℕ) (b : Base) (d : Declarator) (s : Spot) → Verdict (globals_rest b d) tok fits s (it.globals_from tok fits n b d s)
  unfolding it.globals_from globals_rest
  globals_verdict n b d s = verdict_bind tok fits (valued d) _ s (it.global_from tok fits n d) _ (valued_verdict n d s)
      (λ g t r. verdict_bind tok fits (commas_rest by.Global (λ tok fits s t a h. global_firm s t a h) (g ∷ [])) _ t _ _ (commas_more_verdict tok fits by.Global _ global global_rel (it.global tok fits) global_verdict n (g ∷ []) t)
      (λ l u q. sign_passes tok fits punct.Semicolon _ u _ (done_verdict tok fits _ (passed u))))

  naming_verdict : (r : TypeName) (s : Spot) →
      Verdict (naming r) tok fits s (branch (λ s. is_name (tok s.at)) (st.here (λ t. of.take tok fits passed >> pure (record { ty = r; name = Some t.at }))) (pure (record { ty = r; name = None })) s)
  unfolding st.here branch pure name_parts
  naming_verdict r s = verdict_if tok fits (naming r) s (is_name (tok s.at)) _ _
      (λ e. verdict_map tok fits (name_parts r s) (naming r) s _ (λ tok' fits' p t d. name_from r tok' fits' s t p d)
      (take_passes tok fits kind.Name _ s _ (is_name_tells (tok s.at) e) (done_verdict tok fits _ (passed s))))
      (λ _. naming_none r tok fits s)

  proto_verdict : (n : ℕ) (s : Spot) → Verdict proto tok fits s (it.proto tok fits n s)
  unfolding it.proto proto proto_parts
  proto_verdict n s = verdict_made tok fits by.Prototyped _ (λ _. proto_parts) proto_from s _
      (verdict_bind tok fits typed naming s (of.type_name tok fits n) _ (typed_verdict tok fits n s) (λ r t q. naming_verdict r t))

  protos_verdict : (n : ℕ) (s : Spot) → Verdict protos tok fits s (it.protos tok fits n s)
  unfolding it.protos it.void_protos branch pure void_parts proto_list
  protos_verdict n s = verdict_if tok fits protos s (st.has tok fits punct.Close s) _ _ (λ _. no_protos tok fits s)
      (λ _. verdict_if tok fits protos s (is_key keyword.Void (tok s.at)) _ _
      (λ e. verdict_map tok fits void_parts protos s _ (λ tok' fits' l t d. void_from tok' fits' s t l d)
      (take_passes tok fits (kind.Key keyword.Void) _ s _ (is_key_tells keyword.Void (tok s.at) e) (done_verdict tok fits _ (passed s))))
      (λ _. verdict_map tok fits proto_list protos s _ (λ tok' fits' l t d. some_from tok' fits' s t l d)
      (commas_verdict tok fits by.Prototyped _ proto proto_rel (λ m. it.proto tok fits m) proto_verdict n s)))

  headed_verdict : (n : ℕ) (s : Spot) → Verdict headed tok fits s (it.heading tok fits n s)
  unfolding it.heading st.here headed headed_parts
  headed_verdict n s = verdict_made tok fits Headed _ headed_parts headed_from s _
      (sign_opens tok fits punct.Open _ s _ (verdict_bind tok fits protos _ (opened s) (it.protos tok fits n) _ (protos_verdict n (opened s))
      (λ l t r. close_shuts tok fits punct.Close s.level _ t _ (done_verdict tok fits l (closed t s.level)))))

  -- where a parameter lacks its name, a prototype's `;` in place of the `{`
  nameless_verdict : (r : ResultType) (x : ℕ) (l : List ProtoParam) (s : Spot) → Verdict (ending r x l) tok fits s (failed (bad s.at))
  nameless_verdict r x l s = (
    (
      put tok s.at (kind.Punct punct.Semicolon),
      an_item.Prototype r x l,
      passed s,
      (λ i q. put_before tok s.at (kind.Punct punct.Semicolon) i q),
      omega arith,
      prototype_rel r x l (put tok s.at (kind.Punct punct.Semicolon)) _ s (put_here tok s.at (kind.Punct punct.Semicolon), fits_behind fits (bad s.at) s.at s.level (omega arith)),
    ),
    omega arith,
  )

  by_ending : (r : ResultType) (x : ℕ) (l : List ProtoParam) (s : Spot) (q : Got Item) → Verdict (prototype_parts r x l) tok fits s q → Verdict (ending r x l) tok fits s q
  by_ending r x l s q v = verdict_map tok fits (prototype_parts r x l) (ending r x l) s q (λ tok' fits' i t d. ending_rel r x l tok' fits' s t i (prototype_from r x l tok' fits' s t i d)) v

  ending_verdict : (n : ℕ) (r : ResultType) (x : ℕ) (l : List ProtoParam) (s : Spot) → Verdict (ending r x l) tok fits s (it.ending tok fits n r x l s)
  unfolding it.ending it.bodied branch given wrong body_parts prototype_parts
  ending_verdict n r x l s = verdict_if tok fits (ending r x l) s (st.has tok fits punct.OpenBrace s) _ _
      (λ _. verdict_some tok fits (ending r x l) s (with_names l) _ _
      (λ q e. verdict_map tok fits (body_parts r x q) (ending r x l) s _ (λ tok' fits' i t d. body_from r x l q e tok' fits' s t i d)
      (verdict_bind tok fits block _ s (st.block tok fits n) _ (block_verdict tok fits n s) (λ b t d. done_verdict tok fits _ t)))
      (λ _. nameless_verdict r x l s))
      (λ _. by_ending r x l s _ (sign_passes tok fits punct.Semicolon _ s _ (done_verdict tok fits _ (passed s))))

  function_verdict : (n : ℕ) (r : ResultType) (x : ℕ) (s : Spot) → Verdict (function_rest r x) tok fits s (it.function_from tok fits n r x s)
  unfolding it.function_from function_rest
  function_verdict n r x s = verdict_bind tok fits headed _ s (it.heading tok fits n) _ (headed_verdict n s) (λ l t d. ending_verdict n r x l t)

  struct_verdict : (n : ℕ) (tag : Option ℕ) (s : Spot) → Verdict (struct_rest tag) tok fits s (it.struct_type tok fits n tag s)
  unfolding it.struct_type st.here struct_rest
  struct_verdict n tag s = verdict_bind tok fits fields _ s (it.fields tok fits n) _ (fields_verdict n s)
      (λ l t d. verdict_here tok fits _ t _ (name_passes tok fits _ t _ (sign_passes tok fits punct.Semicolon _ (passed t) _ (done_verdict tok fits _ (passed (passed t))))))

  tagged_verdict : (n x : ℕ) (s : Spot) → Verdict (tagged x) tok fits s (branch (λ t. is_name (tok t.at)) (it.alias tok fits x) (it.struct_type tok fits n (Some x)) s)
  unfolding it.alias st.here branch alias_parts tagged
  tagged_verdict n x s = verdict_if tok fits (tagged x) s (is_name (tok s.at)) _ _
      (λ e. verdict_map tok fits (alias_parts x s) (tagged x) s _ (λ tok' fits' i t d. alias_from x tok' fits' s t i d)
      (take_passes tok fits kind.Name _ s _ (is_name_tells (tok s.at) e) (sign_passes tok fits punct.Semicolon _ (passed s) _ (done_verdict tok fits _ (passed (passed s))))))
      (λ _. verdict_made tok fits (λ tok fits s t i. Tagged tok fits x s t i) _ (λ _. struct_rest (Some x)) (tagged_from x) s _ (struct_verdict n (Some x) s))

  types_verdict : (n : ℕ) (s : Spot) → Verdict types tok fits s (branch (λ s. is_name (tok s.at)) (it.tagged tok fits n) (it.struct_type tok fits n None) s)
  unfolding it.tagged st.here branch tag_parts types
  types_verdict n s = verdict_if tok fits types s (is_name (tok s.at)) _ _
      (λ e. verdict_map tok fits (tag_parts s) types s _ (λ tok' fits' i t d. tag_from tok' fits' s t i d)
      (take_passes tok fits kind.Name _ s _ (is_name_tells (tok s.at) e) (tagged_verdict n s.at (passed s))))
      (λ _. verdict_made tok fits Types _ (λ _. struct_rest None) untagged_from s _ (struct_verdict n None s))

  named_verdict : (n level : ℕ) (b : Base) (k x : ℕ) (s : Spot) → Verdict (after_name level b k x) tok fits s
      (branch (st.has tok fits punct.Open) (it.function_from tok fits n (returned.Value (record { base = b; stars = k })) x) (it.globals_named tok fits n level b k x) s)
  unfolding it.globals_named branch globals_parts after_name
  named_verdict n level b k x s = verdict_if tok fits (after_name level b k x) s (st.has tok fits punct.Open s) _ _
      (λ _. verdict_map tok fits (function_rest (returned.Value (record { base = b; stars = k })) x) (after_name level b k x) s _ (λ tok' fits' i t d. function_from level b k x tok' fits' s t i d) (function_verdict n (returned.Value (record { base = b; stars = k })) x s))
      (λ _. verdict_made tok fits (λ tok fits s t i. Behind tok fits level b k x s t i) _ (λ _. globals_parts level b k x) (globals_from level b k x) s _
      (verdict_bind tok fits (declarator_rest level k x) (globals_rest b) s (st.declarator_from tok fits n level k x) _ (rest_verdict tok fits n level k x s) (λ d t r. globals_verdict n b d t)))

  item_of_verdict : (n : ℕ) (s : Spot) (q : ItemStart) → Begun tok fits q (tok s.at) → Verdict item tok fits s (it.item_of tok fits n q s)
  unfolding it.item_of it.typedef it.struct_def it.procedure it.typed_from st.here typedef_parts struct_parts procedure_parts typed_parts item
  item_of_verdict n s a_typedef e = verdict_map tok fits typedef_parts item s _ (λ tok' fits' i t d. typedef_from tok' fits' s t i d)
      (take_passes tok fits (kind.Key keyword.Typedef) _ s _ e (word_passes tok fits keyword.Struct _ (passed s) _ (types_verdict n (passed (passed s)))))
  item_of_verdict n s a_struct e = verdict_map tok fits (struct_parts s) item s _ (λ tok' fits' i t d. struct_from tok' fits' s t i d)
      (take_passes tok fits (kind.Key keyword.Struct) _ s _ e (name_passes tok fits _ (passed s) _ (verdict_bind tok fits fields _ (passed (passed s)) (it.fields tok fits n) _ (fields_verdict n (passed (passed s)))
      (λ l t r. sign_passes tok fits punct.Semicolon _ t _ (done_verdict tok fits _ (passed t))))))
  item_of_verdict n s a_void e = verdict_map tok fits (procedure_parts s) item s _ (λ tok' fits' i t d. procedure_from tok' fits' s t i d)
      (take_passes tok fits (kind.Key keyword.Void) _ s _ e (name_passes tok fits _ (passed s) _ (function_verdict n returned.Void (suc s.at) (passed (passed s)))))
  item_of_verdict n s a_typed e = verdict_made tok fits by.ItemAt _ (λ _. typed_parts) typed_from s _
      (verdict_bind tok fits base _ s (of.base_type tok fits) _ (base_verdict tok fits s)
      (λ b t r. verdict_here tok fits _ t _ (verdict_bind tok fits stars _ t (of.stars tok fits n) _ (stars_verdict tok fits n t)
      (λ k u d. verdict_here tok fits _ u _ (name_passes tok fits _ u _ (named_verdict n t.level b k u.at (passed u)))))))

  pub item_verdict : (n : ℕ) (s : Spot) → Verdict item tok fits s (it.item tok fits n s)
  unfolding it.item st.here
  item_verdict n s = item_of_verdict n s (item_at (tok s.at) (tok (suc (suc s.at)))) (item_tells tok fits (tok s.at) (tok (suc (suc s.at))))

  pub items_verdict : (n : ℕ) (s : Spot) → Verdict items tok fits s (it.items tok fits n s)
  unfolding it.items items items_rest
  items_verdict n s = verdict_made tok fits by.Items _ (λ _. items_rest) items_end s _
      (verdict_many tok fits item by.ItemAt _ item_rel (λ s. is_end (tok s.at)) (it.item tok fits) (λ m t e. item_verdict m t) n [] s)
