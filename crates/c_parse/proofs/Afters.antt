-- Ways to write the parts of a rule, for laws on viable prefixes: a token before the rest, a rule by its parts, a list.
use Rattle.std.proofs.Common.{◌≡◌, ℕ, zero, suc, Bool, false, List, [], ◌∷◌, ◌++◌, Some, refl, ◌∙◌, arith}
use Rattle.cc_model.specs.declared.tokens.Kind.{Kind}
use Rattle.cc_model.specs.declared.tokens.Kind.TheVariants as kind
use Rattle.cc_model.specs.declared.tokens.Punct.{Punct}
use Rattle.cc_model.specs.declared.tokens.Keyword.{Keyword}
use Rattle.cc_model.specs.Spots.{Spot, opened, passed, closed, back, Next}
use Rattle.c_expressions.specs.Descent.{Fault, bad, deep, Got, got, failed, spent, P, go_on, ◌>>=◌, ◌>>◌, pure, out, is_sign}
use Rattle.c_expressions.specs.Descent as of
use Rattle.c_statements.specs.DescentStatements.{branch}
use Rattle.c_statements.specs.DescentStatements as st
use Rattle.c_expressions.proofs.Viable.{Tokens, Fits, Piece, Verdict, seq, token, open_token, pass_token, close_token, done, here, put, put_here, put_before, verdict_on, verdict_bind, verdict_then, verdict_map, verdict_if, seen_verdict, missing_verdict, open_verdict, pass_verdict, sign_verdict, pass_sign_verdict, word_verdict, name_verdict, close_verdict}
use Rattle.c_parse.proofs.Firm.{Firm}
use Rattle.c_parse.proofs.FirmStatements.{Goes, stop, go, goes_firm}

-- ---- a token before the rest

unfoldable pub after : {B : Type 0} → Kind → (Spot → ℕ) → (next : Spot → Spot) → ((s : Spot) → (next s).at ≡ suc s.at) → Piece B → Piece B
after {B} k level next up Q = record {
  rel = λ tok fits s b u. Next tok fits k (back s (level s)) × Q.rel tok fits (next s) b u;
  on = λ tok fits s u b h. let x = Q.on tok fits (next s) u b h.1 in let y = up s in omega arith;
  moved = λ tok tok' fits fits' s u b e h.
      let x = Q.on tok fits (next s) u b h.1 in
      let y = up s in
      let z = e s.at (omega arith) (omega arith) in
      ((z.0 ∙ h.0.0, z.1 (level s) h.0.1), Q.moved tok tok' fits fits' (next s) u b (λ i p q. e i (omega arith) q) h.1);
  due = λ tok fits s free.
      let y = up s in
      let x = Q.due (put tok s.at k) fits (next s) (λ i d p. free i d (omega arith)) in
      (x.0, x.1, x.2, (λ i p. x.3 i (omega arith) ∙ put_before tok s.at k i p), ((x.3 s.at (omega arith) ∙ put_here tok s.at k, free s.at (level s) (omega arith)), x.4));
}

-- one that stays open, one that does not, and one where n tokens are open
unfoldable pub opens : {B : Type 0} → Kind → Piece B → Piece B
opens k Q = after k (λ s. s.level) opened (λ s. refl) Q

unfoldable pub passes : {B : Type 0} → Kind → Piece B → Piece B
passes k Q = after k (λ s. s.level) passed (λ s. refl) Q

unfoldable pub shuts : {B : Type 0} → Punct → ℕ → Piece B → Piece B
shuts p n Q = after (kind.Punct p) (λ _. n) (λ s. closed s n) (λ s. refl) Q

-- ---- a rule: what it derives, and its parts, which give its completion

unfoldable pub made : {A : Type 0} (R : Tokens → Fits → Spot → Spot → A → Type 0) →
    ((tok : Tokens) (fits : Fits) (s t : Spot) (a : A) → R tok fits s t a → Firm tok fits s.at t.at (λ tok' fits'. R tok' fits' s t a)) →
    (S : Spot → Piece A) → ((tok : Tokens) (fits : Fits) (s t : Spot) (a : A) → (S s).rel tok fits s a t → R tok fits s t a) → Piece A
made R firm S to = record {
  rel = λ tok fits s a t. R tok fits s t a;
  on = λ tok fits s t a h. (firm tok fits s t a h).on;
  moved = λ tok tok' fits fits' s t a e h. (firm tok fits s t a h).moved tok' fits' e;
  due = λ tok fits s free. let x = (S s).due tok fits s free in (x.0, x.1, x.2, x.3, to x.0 fits s x.2 x.1 x.4);
}

-- a list behind l, whose completion is its end
unfoldable pub goes : {A : Type 0} (R : Tokens → Fits → Spot → Spot → A → Type 0) →
    ((tok : Tokens) (fits : Fits) (s t : Spot) (a : A) → R tok fits s t a → Firm tok fits s.at t.at (λ tok' fits'. R tok' fits' s t a)) → List A → Piece (List A)
unfolding done
goes {A} R firm l = made (λ tok fits s t m. Goes A (R tok fits) l s t m) (λ tok fits s t m h. goes_firm R (firm tok fits) h) (λ _. done l) (λ tok fits s t m d. rw (d.0, d.1) stop)

module _ (tok : Tokens) (fits : Fits) where
  pub verdict_after : {B : Type 0} (k : Kind) (level : Spot → ℕ) (next : Spot → Spot) (up : (s : Spot) → (next s).at ≡ suc s.at) (Q : Piece B) (s : Spot) (m : P (Unit {0})) (g : P B) →
      Verdict (token k level next up) tok fits s (m s) → Verdict Q tok fits (next s) (g (next s)) → Verdict (after k level next up Q) tok fits s ((m >> g) s)
  unfolding after seq token
  verdict_after k level next up Q s m g h v = verdict_map tok fits (seq (token k level next up) (λ _. Q)) (after k level next up Q) s ((m >> g) s)
      (λ tok' fits' b u d. (d.2.0, rw d.2.1 at d.3)) (verdict_then tok fits (token k level next up) (λ _. Q) s m g h (λ t r. rw r.1 v))

  -- a token that is there
  pub take_opens : {B : Type 0} (k : Kind) (Q : Piece B) (s : Spot) (g : P B) → tok s.at ≡ Some k → Verdict Q tok fits (opened s) (g (opened s)) → Verdict (opens k Q) tok fits s ((of.take tok fits opened >> g) s)
  unfolding opens open_token
  take_opens k Q s g e v = verdict_after k (λ s. s.level) opened (λ s. refl) Q s (of.take tok fits opened) g (open_verdict tok fits k s e) v

  pub take_passes : {B : Type 0} (k : Kind) (Q : Piece B) (s : Spot) (g : P B) → tok s.at ≡ Some k → Verdict Q tok fits (passed s) (g (passed s)) → Verdict (passes k Q) tok fits s ((of.take tok fits passed >> g) s)
  unfolding passes pass_token
  take_passes k Q s g e v = verdict_after k (λ s. s.level) passed (λ s. refl) Q s (of.take tok fits passed) g (pass_verdict tok fits k s e) v

  -- one that is expected
  pub sign_opens : {B : Type 0} (p : Punct) (Q : Piece B) (s : Spot) (g : P B) → Verdict Q tok fits (opened s) (g (opened s)) → Verdict (opens (kind.Punct p) Q) tok fits s ((of.expect tok fits p opened >> g) s)
  unfolding opens open_token
  sign_opens p Q s g v = verdict_after (kind.Punct p) (λ s. s.level) opened (λ s. refl) Q s (of.expect tok fits p opened) g (sign_verdict tok fits p s) v

  pub sign_passes : {B : Type 0} (p : Punct) (Q : Piece B) (s : Spot) (g : P B) → Verdict Q tok fits (passed s) (g (passed s)) → Verdict (passes (kind.Punct p) Q) tok fits s ((of.expect tok fits p passed >> g) s)
  unfolding passes pass_token
  sign_passes p Q s g v = verdict_after (kind.Punct p) (λ s. s.level) passed (λ s. refl) Q s (of.expect tok fits p passed) g (pass_sign_verdict tok fits p s) v

  pub word_passes : {B : Type 0} (w : Keyword) (Q : Piece B) (s : Spot) (g : P B) → Verdict Q tok fits (passed s) (g (passed s)) → Verdict (passes (kind.Key w) Q) tok fits s ((of.expect_key tok fits w >> g) s)
  unfolding passes pass_token
  word_passes w Q s g v = verdict_after (kind.Key w) (λ s. s.level) passed (λ s. refl) Q s (of.expect_key tok fits w) g (word_verdict tok fits w s) v

  pub name_passes : {B : Type 0} (Q : Piece B) (s : Spot) (g : P B) → Verdict Q tok fits (passed s) (g (passed s)) → Verdict (passes kind.Name Q) tok fits s ((of.expect_name tok fits >> g) s)
  unfolding passes pass_token
  name_passes Q s g v = verdict_after kind.Name (λ s. s.level) passed (λ s. refl) Q s (of.expect_name tok fits) g (name_verdict tok fits s) v

  pub close_shuts : {B : Type 0} (p : Punct) (n : ℕ) (Q : Piece B) (s : Spot) (g : P B) → Verdict Q tok fits (closed s n) (g (closed s n)) → Verdict (shuts p n Q) tok fits s ((of.close tok fits p n >> g) s)
  unfolding shuts close_token
  close_shuts p n Q s g v = verdict_after (kind.Punct p) (λ _. n) (λ s. closed s n) (λ s. refl) Q s (of.close tok fits p n) g (close_verdict tok fits p n s) v

  -- one that is there, where n tokens are open
  pub take_shuts : {B : Type 0} (p : Punct) (n : ℕ) (Q : Piece B) (s : Spot) (g : P B) → tok s.at ≡ Some (kind.Punct p) → Verdict Q tok fits (closed s n) (g (closed s n)) →
      Verdict (shuts p n Q) tok fits s ((of.take tok fits passed >> g) (back s n))
  unfolding shuts close_token of.take ◌>>◌ ◌>>=◌
  take_shuts p n Q s g e v = verdict_after (kind.Punct p) (λ _. n) (λ s. closed s n) (λ s. refl) Q s (λ s. of.take tok fits passed (back s n)) g
      (seen_verdict tok fits (kind.Punct p) (λ _. n) (λ s. closed s n) (λ s. refl) s e (fits s.at n) refl) v

  -- one that is missing
  pub missing_shuts : {B : Type 0} (p : Punct) (n : ℕ) (Q : Piece B) (s : Spot) → Verdict (shuts p n Q) tok fits s (failed (bad s.at))
  unfolding shuts close_token ◌>>◌ ◌>>=◌ go_on
  missing_shuts p n Q s = verdict_after (kind.Punct p) (λ _. n) (λ s. closed s n) (λ s. refl) Q s (λ s. failed (bad s.at)) (λ s. spent)
      (missing_verdict tok fits (kind.Punct p) (λ _. n) (λ s. closed s n) (λ s. refl) s) tt

  pub verdict_here : {A : Type 0} (S : Spot → Piece A) (s : Spot) (q : Got A) → Verdict (S s) tok fits s q → Verdict (here S) tok fits s q
  unfolding here
  verdict_here S s (got a t) h = h
  verdict_here S s (failed f) h = h
  verdict_here S s spent h = h

  -- where the first part fails, the rest is the completion
  pub verdict_due : {A B : Type 0} (R : Piece A) (Q : A → Piece B) (s : Spot) (f : Fault) → Verdict R tok fits s (failed f) → Verdict (seq R Q) tok fits s (failed f)
  unfolding go_on
  verdict_due {A} {B} R Q s f h = verdict_on tok fits R Q s (failed f) (λ a t. spent) h (λ a t r. tt)

  pub verdict_made : {A : Type 0} (R : Tokens → Fits → Spot → Spot → A → Type 0)
      (firm : (tok : Tokens) (fits : Fits) (s t : Spot) (a : A) → R tok fits s t a → Firm tok fits s.at t.at (λ tok' fits'. R tok' fits' s t a))
      (S : Spot → Piece A) (to : (tok : Tokens) (fits : Fits) (s t : Spot) (a : A) → (S s).rel tok fits s a t → R tok fits s t a) (s : Spot) (q : Got A) →
      Verdict (S s) tok fits s q → Verdict (made R firm S to) tok fits s q
  unfolding made
  verdict_made R firm S to s q h = verdict_map tok fits (S s) (made R firm S to) s q (λ tok' fits' a t d. to tok' fits' s t a d) h

  pub verdict_many : {A : Type 0} (F : Piece A) (R : Tokens → Fits → Spot → Spot → A → Type 0)
      (firm : (tok : Tokens) (fits : Fits) (s t : Spot) (a : A) → R tok fits s t a → Firm tok fits s.at t.at (λ tok' fits'. R tok' fits' s t a))
      (to : (tok : Tokens) (fits : Fits) (s t : Spot) (a : A) → F.rel tok fits s a t → R tok fits s t a)
      (over : Spot → Bool) (f : ℕ → P A) → ((n : ℕ) (s : Spot) → over s ≡ false → Verdict F tok fits s (f n s)) → (n : ℕ) (l : List A) (s : Spot) →
      Verdict (goes R firm l) tok fits s (st.many tok fits over f n l s)
  unfolding st.many out branch pure goes made seq
  verdict_many F R firm to over f h zero l s = tt
  verdict_many F R firm to over f h (suc n) l s = verdict_if tok fits (goes R firm l) s (over s) (got l s) _
      (λ _. Goes.stop)
      (λ e. verdict_map tok fits (seq F (λ a. goes R firm (l ++ a ∷ []))) (goes R firm l) s _ (λ tok' fits' m t d. go (to tok' fits' s d.1 d.0 d.2) d.3)
      (verdict_bind tok fits F (λ a. goes R firm (l ++ a ∷ [])) s (f n) _ (h n s e) (λ a t r. verdict_many F R firm to over f h n (l ++ a ∷ []) t)))
