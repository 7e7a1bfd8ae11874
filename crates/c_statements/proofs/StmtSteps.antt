-- What the code's steps are in the descent of statements and items.
use Rattle.std.proofs.Common.{◌≡◌, ℕ, suc, Bool, true, false, List, [], ◌∷◌, ◌++◌, Option, Some, Result, if◌then◌else◌, refl, sym, ap, ◌∙◌}
use Rattle.std.specs.Result.{IsErr, IsErrAnd}
use Rattle.cc_model.specs.declared.tokens.Kind.{Kind}
use Rattle.cc_model.specs.declared.tokens.Kind.TheVariants as kind
use Rattle.cc_model.specs.declared.tokens.Punct.{Punct}
use Rattle.cc_model.specs.declared.tokens.Punct.TheVariants as punct
use Rattle.cc_model.specs.declared.tokens.Keyword.TheVariants as keyword
use Rattle.cc_model.specs.Spots.{Spot, passed}
use Rattle.c_expressions.specs.declared.spot.Spot as code
use Rattle.c_expressions.specs.declared.fault.ParseFault.{ParseFault}
use Rattle.c_expressions.specs.Descent.{Fault, bad, deep, Got, got, failed, P, ◌>>=◌, Ends, is_sign, base_at, no_base}
use Rattle.c_expressions.specs.Descent as of
use Rattle.c_statements.specs.DescentStatements.{begins_decl, is_declared}
use Rattle.c_statements.specs.DescentStatements as st
use Rattle.c_expressions.specs.Shown.{Shows, ShowsFault, TakesFault}
use Rattle.c_statements.proofs.Pieces.{ends_bind, ends_fail, ends_then, ends_stop, many_stop, many_go}
use Rattle.c_statements.proofs.StmtComplete.{lacks_yes}
use Rattle.c_expressions.proofs.Steps.{exits, exits_take, same_result}

-- an exit by `?`
pub leaves : {A B : Type 0} (f : ℕ → P A) (s : Spot) (g : ℕ → P B) (t : Spot) (r : Result (B × code.Spot) ParseFault) (e : ParseFault) →
    (IsErr r × IsErrAnd r (λ x. x ≡ e)) → ShowsFault f s e → ((x : Fault) → Ends f s (failed x) → Ends g t (failed x)) → Shows g t r
leaves f s g t r e h p k = exits f g s t r e h k p

pub leaves_take : {B : Type 0} (q : Got (Unit {0})) (g : ℕ → P B) (t : Spot) (r : Result (B × code.Spot) ParseFault) (e : ParseFault) →
    (IsErr r × IsErrAnd r (λ x. x ≡ e)) → TakesFault q e → ((x : Fault) → q ≡ failed x → Ends g t (failed x)) → Shows g t r
leaves_take q g t r e h p k = exits_take (λ _. q) g t t r e h k p

-- a result of another piece
pub passes : {A : Type 0} (f : ℕ → P A) (s : Spot) (g : ℕ → P A) (t : Spot) (r : Result (A × code.Spot) ParseFault) → Shows f s r → ((q : Got A) → Ends f s q → Ends g t q) → Shows g t r
passes f s g t r p k = same_result f g s t r k p

module _ (tok : ℕ → Option Kind) (fits : ℕ → ℕ → Bool) where
  lacks_not : (p : Punct) (s : Spot) → is_sign p (tok s.at) ≡ true → st.lacks tok fits p s ≡ false
  unfolding st.lacks
  lacks_not p s e = ap (λ b. if b then false else true) e

  -- ---- one more element behind a comma

  pub comma_deep : {A : Type 0} {x : Fault} (f : ℕ → P A) (l : List A) (s : Spot) → is_sign punct.Comma (tok s.at) ≡ true → of.take tok fits passed s ≡ failed x → Ends (λ m. st.commas_more tok fits f m l) s (failed x)
  unfolding st.commas_more st.comma_then
  comma_deep f l s e h = many_go tok fits (st.lacks tok fits punct.Comma) (st.comma_then tok fits f) l (lacks_not punct.Comma s e) (ends_fail _ _ (ends_stop _ _ h))

  pub comma_bad : {A : Type 0} {x : Fault} {t : Spot} (f : ℕ → P A) (l : List A) (s : Spot) → is_sign punct.Comma (tok s.at) ≡ true → of.take tok fits passed s ≡ got tt t → Ends f t (failed x) → Ends (λ m. st.commas_more tok fits f m l) s (failed x)
  unfolding st.commas_more st.comma_then
  comma_bad f l s e h k = many_go tok fits (st.lacks tok fits punct.Comma) (st.comma_then tok fits f) l (lacks_not punct.Comma s e) (ends_fail _ _ (ends_then _ _ h k))

  pub comma_on : {A : Type 0} {r : Got (List A)} {t u : Spot} {a : A} (f : ℕ → P A) (l : List A) (s : Spot) → is_sign punct.Comma (tok s.at) ≡ true → of.take tok fits passed s ≡ got tt t → Ends f t (got a u) →
      Ends (λ m. st.commas_more tok fits f m (l ++ a ∷ [])) u r → Ends (λ m. st.commas_more tok fits f m l) s r
  unfolding st.commas_more st.comma_then
  comma_on f l s e h k w = many_go tok fits (st.lacks tok fits punct.Comma) (st.comma_then tok fits f) l (lacks_not punct.Comma s e) (ends_bind _ _ (ends_then _ _ h k) w)

  pub comma_end : {A : Type 0} (f : ℕ → P A) (l : List A) (s : Spot) → is_sign punct.Comma (tok s.at) ≡ false → Ends (λ m. st.commas_more tok fits f m l) s (got l s)
  unfolding st.commas_more
  comma_end f l s e = many_stop tok fits (st.lacks tok fits punct.Comma) (st.comma_then tok fits f) l (lacks_yes tok fits punct.Comma s e)

  -- ---- one more element where the test says so

  pub many_bad : {A : Type 0} {x : Fault} (stop : Spot → Bool) (f : ℕ → P A) (l : List A) (s : Spot) → stop s ≡ false → Ends f s (failed x) → Ends (λ m. st.many tok fits stop f m l) s (failed x)
  many_bad stop f l s e h = many_go tok fits stop f l e (ends_fail _ _ h)

  pub many_on : {A : Type 0} {r : Got (List A)} {u : Spot} {a : A} (stop : Spot → Bool) (f : ℕ → P A) (l : List A) (s : Spot) → stop s ≡ false → Ends f s (got a u) →
      Ends (λ m. st.many tok fits stop f m (l ++ a ∷ [])) u r → Ends (λ m. st.many tok fits stop f m l) s r
  many_on stop f l s e h k = many_go tok fits stop f l e (ends_bind _ _ h k)

  pub square_on : (s : Spot) → is_sign punct.OpenSquare (tok s.at) ≡ true → st.lacks tok fits punct.OpenSquare s ≡ false
  square_on s e = lacks_not punct.OpenSquare s e

  pub square_off : (s : Spot) → is_sign punct.OpenSquare (tok s.at) ≡ false → st.lacks tok fits punct.OpenSquare s ≡ true
  square_off s e = lacks_yes tok fits punct.OpenSquare s e

  -- ---- what begins a declaration

  pub starts_int : (s : Spot) → tok s.at ≡ Some (kind.Key keyword.Int) → true ≡ st.starts_decl tok fits s
  unfolding st.starts_decl begins_decl
  starts_int s e = sym (ap (λ k. begins_decl k (tok (suc s.at))) e)

  pub starts_struct : (s : Spot) → tok s.at ≡ Some (kind.Key keyword.Struct) → true ≡ st.starts_decl tok fits s
  unfolding st.starts_decl begins_decl
  starts_struct s e = sym (ap (λ k. begins_decl k (tok (suc s.at))) e)

  pub starts_alias : (s : Spot) (i : ℕ) (b : Bool) → i ≡ suc s.at → tok s.at ≡ Some kind.Name → b ≡ is_declared (tok i) → b ≡ st.starts_decl tok fits s
  unfolding st.starts_decl begins_decl
  starts_alias s i b n e h = h ∙ (ap (λ i. is_declared (tok i)) n ∙ sym (ap (λ k. begins_decl k (tok (suc s.at))) e))

  no_decl : (k n : Option Kind) → base_at k ≡ no_base → begins_decl k n ≡ false
  unfolding begins_decl base_at
  no_decl (Some (kind.Key keyword.Int)) n e = cc
  no_decl (Some (kind.Key keyword.Struct)) n e = cc
  no_decl (Some kind.Name) n e = cc
  no_decl _ n e = refl

  pub starts_other : (s : Spot) → base_at (tok s.at) ≡ no_base → false ≡ st.starts_decl tok fits s
  unfolding st.starts_decl
  starts_other s e = sym (no_decl (tok s.at) (tok (suc s.at)) e)
