-- Where a declaration meets a fault, the tokens before it begin one.
use Rattle.std.proofs.Common.{◌≡◌, ℕ, suc, ℤ, pos, List, [], ◌∷◌, Some, None, arith}
use Rattle.cc_model.specs.declared.tokens.Kind.TheVariants as kind
use Rattle.cc_model.specs.declared.tokens.Punct.TheVariants as punct
use Rattle.cc_model.specs.declared.trees.Length.{Length}
use Rattle.cc_model.specs.declared.trees.Declarator.{Declarator}
use Rattle.cc_model.specs.declared.trees.Declared.{Declared}
use Rattle.cc_model.specs.declared.trees.Decl.{Decl}
use Rattle.cc_model.specs.Spots.{Spot, opened, passed, Next, Is}
use Rattle.cc_model.specs.ReadStatements as by
use Rattle.c_expressions.specs.Descent.{Got, got, P, ◌>>=◌, ◌>>◌, pure, leave, wrong, out, on_some}
use Rattle.c_expressions.specs.Descent as of
use Rattle.c_statements.specs.DescentStatements.{branch, given, number_at}
use Rattle.c_statements.specs.DescentStatements as st
use Rattle.c_statements.proofs.StmtSound.{number_tells, has_tells, lacks_tells}
use Rattle.c_expressions.proofs.Viable.{Tokens, Fits, Piece, Verdict, seq, done, left, here, put, put_here, put_before, fits_behind, verdict_bind, verdict_map, verdict_if, verdict_some, done_verdict, left_verdict}
use Rattle.c_expressions.proofs.ViableExpressions.{base, stars, chain, base_verdict, stars_verdict, chain_verdict}
use Rattle.c_parse.proofs.Firm.{Firm, firm_next, firm_map}
use Rattle.c_parse.proofs.FirmStatements.{Comma, LengthAt, length, Starting, plain, starts, comma_firm, commas_firm, length_firm, declares_firm, starting_firm, initialised_firm, declaration_firm, with_commas, with_lengths, with_start}
use Rattle.c_parse.proofs.Afters.{after, opens, passes, made, goes, take_opens, take_passes, sign_passes, name_passes, verdict_here, verdict_made, verdict_many}

-- ---- numbers

pub data NumberAt (tok : Tokens) (fits : Fits) : Spot → Spot → ℤ → Type 0 where
  number : {s : Spot} (z : ℤ) → Next tok fits (kind.Number z) s → NumberAt tok fits s (passed s) z

pub number_firm : (tok : Tokens) (fits : Fits) (s t : Spot) (z : ℤ) → NumberAt tok fits s t z → Firm tok fits s.at t.at (λ tok' fits'. NumberAt tok' fits' s t z)
number_firm tok fits _ _ _ (number z i) = firm_map (firm_next i) (λ tok' fits' i. number z i)

unfoldable pub number_parts : ℤ → Piece ℤ
number_parts z = passes (kind.Number z) (done z)

pub number_from : (z : ℤ) (tok : Tokens) (fits : Fits) (s t : Spot) (a : ℤ) → (number_parts z).rel tok fits s a t → NumberAt tok fits s t a
unfolding number_parts passes after done
number_from z tok fits s t a d = rw (d.1.0, d.1.1) (number z d.0)

-- the number is 0 in a completion
unfoldable pub number_piece : Piece ℤ
number_piece = made NumberAt number_firm (λ _. number_parts (pos 0)) (number_from (pos 0))

-- ---- declarators

unfoldable pub length_parts : Spot → Piece Length
length_parts s = opens (kind.Punct punct.OpenSquare) (seq number_piece (λ z. passes (kind.Punct punct.CloseSquare) (done (record { token = suc s.at; value = z }))))

length_of : (tok : Tokens) (fits : Fits) (s t : Spot) (z : ℤ) → Is tok fits punct.OpenSquare s → NumberAt tok fits (opened s) t z → Is tok fits punct.CloseSquare t →
    LengthAt tok fits s (passed t) (record { token = suc s.at; value = z })
length_of tok fits s _ _ i (number z n) c = length z i n c

pub length_from : (tok : Tokens) (fits : Fits) (s t : Spot) (a : Length) → (length_parts s).rel tok fits s a t → LengthAt tok fits s t a
unfolding length_parts opens passes after seq number_piece made done
length_from tok fits s t a d = rw (d.1.3.1.0, d.1.3.1.1) (length_of tok fits s d.1.1 d.1.0 d.0 d.1.2 d.1.3.0)

unfoldable pub length_piece : Piece Length
length_piece = made LengthAt (λ tok fits s t a h. length_firm s t a h) length_parts length_from

unfoldable pub lengths : Piece (List Length)
lengths = goes LengthAt (λ tok fits s t a h. length_firm s t a h) []

-- behind the name of a declarator
unfoldable pub declarator_rest : ℕ → ℕ → ℕ → Piece Declarator
declarator_rest level k x = seq lengths (λ l. left level (record { stars = k; name = x; lengths = l }))

unfoldable pub declares_parts : Spot → Piece Declarator
declares_parts s = seq stars (λ k. here (λ t. passes kind.Name (declarator_rest s.level k t.at)))

pub declares_from : (tok : Tokens) (fits : Fits) (s t : Spot) (a : Declarator) → (declares_parts s).rel tok fits s a t → by.Declares tok fits s t a
unfolding declares_parts declarator_rest seq stars here passes after lengths goes made left
declares_from tok fits s t a d = rw (d.3.1.3.0, d.3.1.3.1) (by.declares d.2 d.3.0 (with_lengths tok fits by.none d.3.1.2))

unfoldable pub declares : Piece Declarator
declares = made by.Declares (λ tok fits s t a h. declares_firm s t a h) declares_parts declares_from

-- ---- lists with commas

unfoldable pub commas_rest : {A : Type 0} (R : Tokens → Fits → Spot → Spot → A → Type 0) →
    ((tok : Tokens) (fits : Fits) (s t : Spot) (a : A) → R tok fits s t a → Firm tok fits s.at t.at (λ tok' fits'. R tok' fits' s t a)) → List A → Piece (List A)
commas_rest R firm l = goes (Comma R) (λ tok fits s t a h. comma_firm R (firm tok fits) s t a h) l

unfoldable pub commas_parts : {A : Type 0} (R : Tokens → Fits → Spot → Spot → A → Type 0) →
    ((tok : Tokens) (fits : Fits) (s t : Spot) (a : A) → R tok fits s t a → Firm tok fits s.at t.at (λ tok' fits'. R tok' fits' s t a)) → Piece A → Spot → Piece (List A)
commas_parts R firm F s = seq F (λ a. commas_rest R firm (a ∷ []))

pub commas_from : {A : Type 0} (R : Tokens → Fits → Spot → Spot → A → Type 0)
    (firm : (tok : Tokens) (fits : Fits) (s t : Spot) (a : A) → R tok fits s t a → Firm tok fits s.at t.at (λ tok' fits'. R tok' fits' s t a)) (F : Piece A)
    (to : (tok : Tokens) (fits : Fits) (s t : Spot) (a : A) → F.rel tok fits s a t → R tok fits s t a)
    (tok : Tokens) (fits : Fits) (s t : Spot) (l : List A) → (commas_parts R firm F s).rel tok fits s l t → by.Commas tok fits A (R tok fits) s t l
unfolding commas_parts commas_rest goes made seq
commas_from R firm F to tok fits s t l d = with_commas tok fits R (by.first (to tok fits s d.1 d.0 d.2)) d.3

unfoldable pub commas : {A : Type 0} (R : Tokens → Fits → Spot → Spot → A → Type 0)
    (firm : (tok : Tokens) (fits : Fits) (s t : Spot) (a : A) → R tok fits s t a → Firm tok fits s.at t.at (λ tok' fits'. R tok' fits' s t a)) (F : Piece A)
    (to : (tok : Tokens) (fits : Fits) (s t : Spot) (a : A) → F.rel tok fits s a t → R tok fits s t a) → Piece (List A)
commas {A} R firm F to = made (λ tok fits s t l. by.Commas tok fits A (R tok fits) s t l) (λ tok fits s t l h. commas_firm R (firm tok fits) h) (commas_parts R firm F) (commas_from R firm F to)

-- ---- declarations

unfoldable pub starting : ℕ → Declarator → Piece Declared
unfolding done
starting n d = made (λ tok fits s t x. Starting tok fits n d s t x) (λ tok fits s t x h. starting_firm s t x h) (λ _. done (record { declarator = d; initializer = None })) (λ tok fits s t x e. rw (e.0, e.1) plain)

unfoldable pub starts_parts : ℕ → Declarator → Spot → Piece Declared
starts_parts n d s = passes (kind.Punct punct.Assign) (seq (chain 6) (λ a. left n (record { declarator = d; initializer = Some (record { equals = s.at; value = a }) })))

pub starts_from : (n : ℕ) (d : Declarator) (tok : Tokens) (fits : Fits) (s t : Spot) (a : Declared) → (starts_parts n d s).rel tok fits s a t → (starting n d).rel tok fits s a t
unfolding starts_parts starting made passes after seq chain left
starts_from n d tok fits s t a r = rw (r.1.3.0, r.1.3.1) (starts r.0 r.1.2)

starting_plain : (n : ℕ) (d : Declarator) (tok : Tokens) (fits : Fits) (s : Spot) → (starting n d).rel tok fits s (record { declarator = d; initializer = None }) s
unfolding starting made
starting_plain n d tok fits s = plain

unfoldable pub initialised_parts : Spot → Piece Declared
initialised_parts s = seq declares (λ d. starting s.level d)

pub initialised_from : (tok : Tokens) (fits : Fits) (s t : Spot) (a : Declared) → (initialised_parts s).rel tok fits s a t → by.Initialised tok fits s t a
unfolding initialised_parts seq declares starting made
initialised_from tok fits s t a d = with_start tok fits d.2 d.3

unfoldable pub initialised : Piece Declared
initialised = made by.Initialised (λ tok fits s t a h. initialised_firm s t a h) initialised_parts initialised_from

pub initialised_rel : (tok : Tokens) (fits : Fits) (s t : Spot) (a : Declared) → initialised.rel tok fits s a t → by.Initialised tok fits s t a
unfolding initialised made
initialised_rel tok fits s t a d = d

unfoldable pub initialised_list : Piece (List Declared)
initialised_list = commas by.Initialised (λ tok fits s t a h. initialised_firm s t a h) initialised initialised_rel

unfoldable pub declaration_parts : Spot → Piece Decl
declaration_parts s = seq base (λ b. seq initialised_list (λ l. passes (kind.Punct punct.Semicolon) (done (record { base = b; parts = l }))))

pub declaration_from : (tok : Tokens) (fits : Fits) (s t : Spot) (a : Decl) → (declaration_parts s).rel tok fits s a t → by.Declaration tok fits s t a
unfolding declaration_parts seq base initialised_list commas made passes after done
declaration_from tok fits s t a d = rw (d.3.3.1.0, d.3.3.1.1) (by.declaration d.2 d.3.2 d.3.3.0)

unfoldable pub declaration : Piece Decl
declaration = made by.Declaration (λ tok fits s t a h. declaration_firm h) declaration_parts declaration_from

module _ (tok : Tokens) (fits : Fits) where
  pub number_verdict : (s : Spot) → Verdict number_piece tok fits s (st.expect_number tok fits s)
  unfolding st.expect_number given wrong number_piece made passes after done number_parts
  number_verdict s = verdict_some tok fits number_piece s (number_at (tok s.at)) _ _
      (λ z e. verdict_map tok fits (number_parts z) number_piece s _ (λ tok' fits' a t d. number_from z tok' fits' s t a d)
      (take_passes tok fits (kind.Number z) (done z) s (pure z) (number_tells (tok s.at) z e) (done_verdict tok fits z (passed s))))
      (λ _. (
        (
          put tok s.at (kind.Number (pos 0)),
          pos 0,
          passed s,
          (λ i q. put_before tok s.at (kind.Number (pos 0)) i q),
          omega arith,
          number (pos 0) (put_here tok s.at (kind.Number (pos 0)), fits_behind fits (of.bad s.at) s.at s.level (omega arith)),
        ),
        omega arith,
      ))

  pub length_verdict : (n : ℕ) (s : Spot) → tok s.at ≡ Some (kind.Punct punct.OpenSquare) → Verdict length_piece tok fits s (st.length tok fits n s)
  unfolding st.length st.here length_piece length_parts
  length_verdict n s e = verdict_made tok fits LengthAt _ length_parts length_from s _
      (take_opens tok fits (kind.Punct punct.OpenSquare) _ s _ e (verdict_bind tok fits number_piece _ (opened s) (st.expect_number tok fits) _ (number_verdict (opened s))
      (λ z t r. sign_passes tok fits punct.CloseSquare _ t _ (done_verdict tok fits _ (passed t)))))

  pub lengths_verdict : (n : ℕ) (s : Spot) → Verdict lengths tok fits s (st.many tok fits (st.lacks tok fits punct.OpenSquare) (st.length tok fits) n [] s)
  unfolding lengths length_piece made
  lengths_verdict n s = verdict_many tok fits length_piece LengthAt _ (λ tok' fits' s t a d. d) (st.lacks tok fits punct.OpenSquare) (st.length tok fits)
      (λ m t e. length_verdict m t (lacks_tells tok fits punct.OpenSquare t e)) n [] s

  pub rest_verdict : (n level k x : ℕ) (s : Spot) → Verdict (declarator_rest level k x) tok fits s (st.declarator_from tok fits n level k x s)
  unfolding st.declarator_from declarator_rest
  rest_verdict n level k x s = verdict_bind tok fits lengths _ s _ _ (lengths_verdict n s) (λ l t r. left_verdict tok fits level _ t)

  pub declares_verdict : (n : ℕ) (s : Spot) → Verdict declares tok fits s (st.declarator tok fits n s)
  unfolding st.declarator st.here declares declares_parts
  declares_verdict n s = verdict_made tok fits by.Declares _ declares_parts declares_from s _
      (verdict_bind tok fits stars _ s (of.stars tok fits n) _ (stars_verdict tok fits n s)
      (λ k t r. verdict_here tok fits _ t _ (name_passes tok fits _ t _ (rest_verdict n s.level k t.at (passed t)))))

  pub commas_more_verdict : {A : Type 0} (R : Tokens → Fits → Spot → Spot → A → Type 0)
      (firm : (tok : Tokens) (fits : Fits) (s t : Spot) (a : A) → R tok fits s t a → Firm tok fits s.at t.at (λ tok' fits'. R tok' fits' s t a)) (F : Piece A)
      (to : (tok : Tokens) (fits : Fits) (s t : Spot) (a : A) → F.rel tok fits s a t → R tok fits s t a) (f : ℕ → P A) →
      ((n : ℕ) (s : Spot) → Verdict F tok fits s (f n s)) → (n : ℕ) (l : List A) (s : Spot) → Verdict (commas_rest R firm l) tok fits s (st.commas_more tok fits f n l s)
  unfolding st.commas_more st.comma_then commas_rest passes after
  commas_more_verdict R firm F to f h n l s = verdict_many tok fits (passes (kind.Punct punct.Comma) F) (Comma R) _ (λ tok' fits' s t a d. (d.0, to tok' fits' (passed s) t a d.1))
      (st.lacks tok fits punct.Comma) (st.comma_then tok fits f) (λ m t e. take_passes tok fits (kind.Punct punct.Comma) F t (f m) (lacks_tells tok fits punct.Comma t e) (h m (passed t))) n l s

  pub commas_verdict : {A : Type 0} (R : Tokens → Fits → Spot → Spot → A → Type 0)
      (firm : (tok : Tokens) (fits : Fits) (s t : Spot) (a : A) → R tok fits s t a → Firm tok fits s.at t.at (λ tok' fits'. R tok' fits' s t a)) (F : Piece A)
      (to : (tok : Tokens) (fits : Fits) (s t : Spot) (a : A) → F.rel tok fits s a t → R tok fits s t a) (f : ℕ → P A) →
      ((n : ℕ) (s : Spot) → Verdict F tok fits s (f n s)) → (n : ℕ) (s : Spot) → Verdict (commas R firm F to) tok fits s (st.commas tok fits f n s)
  unfolding st.commas commas commas_parts
  commas_verdict {A} R firm F to f h n s = verdict_made tok fits (λ tok fits s t l. by.Commas tok fits A (R tok fits) s t l) _ (commas_parts R firm F) (commas_from R firm F to) s _
      (verdict_bind tok fits F (λ a. commas_rest R firm (a ∷ [])) s (f n) _ (h n s) (λ a t r. commas_more_verdict R firm F to f h n (a ∷ []) t))

  starting_verdict : (n level : ℕ) (d : Declarator) (s : Spot) →
      Verdict (starting level d) tok fits s (branch (st.has tok fits punct.Assign) (st.starting tok fits n level d) (pure (record { declarator = d; initializer = None })) s)
  unfolding branch st.starting st.here pure starts_parts
  starting_verdict n level d s = verdict_if tok fits (starting level d) s (st.has tok fits punct.Assign s) _ _
      (λ e. verdict_map tok fits (starts_parts level d s) (starting level d) s _ (λ tok' fits' x u r. starts_from level d tok' fits' s u x r)
      (take_passes tok fits (kind.Punct punct.Assign) _ s _ (has_tells tok fits punct.Assign s e) (verdict_bind tok fits (chain 6) _ (passed s) (of.chain tok fits n 6) _ (chain_verdict tok fits n 6 (passed s)) (λ a t r. left_verdict tok fits level _ t))))
      (λ _. starting_plain level d tok fits s)

  initialised_verdict : (n : ℕ) (s : Spot) → Verdict initialised tok fits s (st.initialised tok fits n s)
  unfolding st.initialised st.here initialised initialised_parts
  initialised_verdict n s = verdict_made tok fits by.Initialised _ initialised_parts initialised_from s _
      (verdict_bind tok fits declares _ s (st.declarator tok fits n) _ (declares_verdict n s) (λ d t r. starting_verdict n s.level d t))

  pub declaration_verdict : (n : ℕ) (s : Spot) → Verdict declaration tok fits s (st.declaration tok fits n s)
  unfolding st.declaration declaration declaration_parts initialised_list
  declaration_verdict n s = verdict_made tok fits by.Declaration _ declaration_parts declaration_from s _
      (verdict_bind tok fits base _ s (of.base_type tok fits) _ (base_verdict tok fits s)
      (λ b t r. verdict_bind tok fits initialised_list _ t _ _ (commas_verdict by.Initialised _ initialised initialised_rel (λ m. st.initialised tok fits m) initialised_verdict n t)
      (λ l u q. sign_passes tok fits punct.Semicolon _ u _ (done_verdict tok fits _ (passed u)))))
