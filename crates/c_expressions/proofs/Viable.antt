-- Where the descent meets a fault, the tokens before it begin a whole piece: one law for a sequence, one for a token.
use Rattle.std.proofs.Common.{◌≡◌, ℕ, suc, ◌≤◌, ◌<◌, Bool, true, false, not, Option, Some, None, nat_eq, nat_lt, if◌then◌else◌, refl, ap, ◌∙◌, arith, eq-eqb, ne_eqb, lt-ltb}
use Rattle.std.proofs.lemmas.Bool.Decides.{nat_tests}
use Rattle.cc_model.specs.declared.tokens.Kind.{Kind}
use Rattle.cc_model.specs.declared.tokens.Kind.TheVariants as kind
use Rattle.cc_model.specs.declared.tokens.Punct.{Punct}
use Rattle.cc_model.specs.declared.tokens.Keyword.{Keyword}
use Rattle.cc_model.specs.Spots.{Spot, opened, passed, closed, back, Next}
use Rattle.c_expressions.specs.Descent.{Fault, bad, deep, Got, got, failed, spent, P, go_on, ◌>>=◌, ◌>>◌, pure, leave, is_sign, is_key, is_name, on_some}
use Rattle.c_expressions.specs.Descent as of
use Rattle.c_expressions.proofs.Tests.{is_sign_tells, is_key_tells, is_name_tells}

abbrev pub Tokens : Type 0
Tokens = ℕ → Option Kind

abbrev pub Fits : Type 0
Fits = ℕ → ℕ → Bool

-- the tokens that are fixed: those before a bad one, and a deep one itself
abbrev pub limit : Fault → ℕ
limit (bad k) = k
limit (deep k) = suc k

abbrev pub place : Fault → ℕ
place (bad k) = k
place (deep k) = k

-- the levels of a completion: those before the fault fit, a deep one does not, and those behind it are free
unfoldable pub fits_of : Fits → Fault → Fits
fits_of fits (bad k) = λ i d. if nat_lt i k then fits i d else true
fits_of fits (deep k) = λ i d. if nat_lt i k then fits i d else (if nat_eq i k then not (fits i d) else true)

abbrev pub Same : Tokens → Fits → Tokens → Fits → ℕ → ℕ → Type 0
Same tok fits tok' fits' low high = (i : ℕ) → low ≤ i → i < high → (tok' i ≡ tok i) × ((d : ℕ) → fits i d ≡ true → fits' i d ≡ true)

-- a part of a rule: what derives it, that it looks at its own tokens alone, and its completion
pub record Piece (A : Type 0) : Type 1 where
  pub rel : Tokens → Fits → Spot → A → Spot → Type 0
  pub on : (tok : Tokens) (fits : Fits) (s t : Spot) (a : A) → rel tok fits s a t → s.at ≤ t.at
  pub moved : (tok tok' : Tokens) (fits fits' : Fits) (s t : Spot) (a : A) → Same tok fits tok' fits' s.at t.at → rel tok fits s a t → rel tok' fits' s a t
  pub due : (tok : Tokens) (fits : Fits) (s : Spot) → ((i d : ℕ) → s.at ≤ i → fits i d ≡ true) →
      (tok' : Tokens) × (a : A) × (t : Spot) × ((i : ℕ) → i < s.at → tok' i ≡ tok i) × rel tok' fits s a t

abbrev pub Can : {A : Type 0} → Piece A → Tokens → Fits → Spot → Fault → Type 0
Can {A} R tok fits s f = (tok' : Tokens) × (a : A) × (t : Spot) × ((i : ℕ) → i < limit f → tok' i ≡ tok i) × (limit f ≤ t.at) × R.rel tok' (fits_of fits f) s a t

abbrev pub Verdict : {A : Type 0} → Piece A → Tokens → Fits → Spot → Got A → Type 0
Verdict R tok fits s (got a t) = R.rel tok fits s a t
Verdict R tok fits s (failed f) = Can R tok fits s f × (s.at ≤ place f)
Verdict R tok fits s spent = Unit {0}

pub fits_before : (fits : Fits) (f : Fault) (i d : ℕ) → i < place f → fits i d ≡ true → fits_of fits f i d ≡ true
unfolding fits_of
fits_before fits (bad k) i d h e = let l : nat_lt i k ≡ true = lt-ltb i k h in rw (l, e) refl
fits_before fits (deep k) i d h e = let l : nat_lt i k ≡ true = lt-ltb i k h in rw (l, e) refl

pub fits_behind : (fits : Fits) (f : Fault) (i d : ℕ) → limit f ≤ i → fits_of fits f i d ≡ true
unfolding fits_of
fits_behind fits (bad k) i d h = let l : nat_lt i k ≡ false = grind (arith, nat_tests) in rw l refl
fits_behind fits (deep k) i d h = let l : nat_lt i k ≡ false = grind (arith, nat_tests) in let m : nat_eq i k ≡ false = ne_eqb i k (λ e. omega arith) in rw (l, m) refl

pub fits_deep : (fits : Fits) (k d : ℕ) → fits k d ≡ false → fits_of fits (deep k) k d ≡ true
unfolding fits_of
fits_deep fits k d e = let l : nat_lt k k ≡ false = grind (arith, nat_tests) in let m : nat_eq k k ≡ true = eq-eqb k k refl in rw (l, m, e) refl

pub place_limit : (f : Fault) → place f ≤ limit f
place_limit (bad k) = omega arith
place_limit (deep k) = omega arith

-- ---- one part after another

unfoldable pub seq : {A B : Type 0} → Piece A → (A → Piece B) → Piece B
seq {A} {B} R Q = record {
  rel = λ tok fits s b u. (a : A) × (t : Spot) × R.rel tok fits s a t × (Q a).rel tok fits t b u;
  on = λ tok fits s u b h. let x = R.on tok fits s h.1 h.0 h.2 in let y = (Q h.0).on tok fits h.1 u b h.3 in omega arith;
  moved = λ tok tok' fits fits' s u b e h.
      let x = R.on tok fits s h.1 h.0 h.2 in let y = (Q h.0).on tok fits h.1 u b h.3 in
      (h.0, h.1, R.moved tok tok' fits fits' s h.1 h.0 (λ i p q. e i p (omega arith)) h.2, (Q h.0).moved tok tok' fits fits' h.1 u b (λ i p q. e i (omega arith) q) h.3);
  due = λ tok fits s free.
      let x = R.due tok fits s free in
      let o = R.on x.0 fits s x.2 x.1 x.4 in
      let y = (Q x.1).due x.0 fits x.2 (λ i d p. free i d (omega arith)) in (
        y.0,
        y.1,
        y.2,
        (λ i p. y.3 i (omega arith) ∙ x.3 i p),
        (x.1, x.2, R.moved x.0 y.0 fits fits s x.2 x.1 (λ i p q. (y.3 i q, λ d e. e)) x.4, y.4),
      );
}

module _ (tok : Tokens) (fits : Fits) where
  pub verdict_rest : {A B : Type 0} (R : Piece A) (Q : A → Piece B) (s t : Spot) (a : A) (r : Got B) → R.rel tok fits s a t → Verdict (Q a) tok fits t r → Verdict (seq R Q) tok fits s r
  unfolding seq
  verdict_rest R Q s t a (got b u) h k = (a, t, h, k)
  verdict_rest R Q s t a (failed f) h k =
      let o = R.on tok fits s t a h in
      let l = place_limit f in (
        (
          k.0.0,
          k.0.1,
          k.0.2,
          k.0.3,
          k.0.4,
          (a, t, R.moved tok k.0.0 fits (fits_of fits f) s t a (λ i p q. (k.0.3 i (omega (arith, k.1)), λ d e. fits_before fits f i d (omega (arith, k.1)) e)) h, k.0.5),
        ),
        omega (arith, k.1),
      )
  verdict_rest R Q s t a spent h k = tt

  -- a sequence: its first part, and its rest wherever the first part ends
  pub verdict_on : {A B : Type 0} (R : Piece A) (Q : A → Piece B) (s : Spot) (q : Got A) (g : A → P B) → Verdict R tok fits s q →
      ((a : A) (t : Spot) → R.rel tok fits s a t → Verdict (Q a) tok fits t (g a t)) → Verdict (seq R Q) tok fits s (go_on q g)
  unfolding go_on seq
  verdict_on R Q s (got a t) g h k = verdict_rest R Q s t a (g a t) h (k a t h)
  verdict_on R Q s (failed f) g h k =
      let c = h.0 in
      let o = R.on c.0 (fits_of fits f) s c.2 c.1 c.5 in
      let y = (Q c.1).due c.0 (fits_of fits f) c.2 (λ i d p. fits_behind fits f i d (omega (arith, c.4))) in
      let v = (Q c.1).on y.0 (fits_of fits f) c.2 y.2 y.1 y.4 in (
        (
          y.0,
          y.1,
          y.2,
          (λ i p. y.3 i (omega (arith, c.4)) ∙ c.3 i p),
          omega (arith, c.4),
          (c.1, c.2, R.moved c.0 y.0 (fits_of fits f) (fits_of fits f) s c.2 c.1 (λ i p q. (y.3 i q, λ d e. e)) c.5, y.4),
        ),
        h.1,
      )
  verdict_on R Q s spent g h k = tt

  pub verdict_bind : {A B : Type 0} (R : Piece A) (Q : A → Piece B) (s : Spot) (m : P A) (g : A → P B) → Verdict R tok fits s (m s) →
      ((a : A) (t : Spot) → R.rel tok fits s a t → Verdict (Q a) tok fits t (g a t)) → Verdict (seq R Q) tok fits s ((m >>= g) s)
  unfolding ◌>>=◌
  verdict_bind R Q s m g h k = verdict_on R Q s (m s) g h k

  pub verdict_then : {B : Type 0} (R : Piece (Unit {0})) (Q : Unit {0} → Piece B) (s : Spot) (m : P (Unit {0})) (g : P B) → Verdict R tok fits s (m s) →
      ((t : Spot) → R.rel tok fits s tt t → Verdict (Q tt) tok fits t (g t)) → Verdict (seq R Q) tok fits s ((m >> g) s)
  unfolding ◌>>◌
  verdict_then R Q s m g h k = verdict_bind R Q s m (λ _. g) h (λ a t r. k t r)

  -- a rule: from its parts to what it derives, over any tokens
  pub verdict_map : {A : Type 0} (R Q : Piece A) (s : Spot) (q : Got A) → ((tok' : Tokens) (fits' : Fits) (a : A) (t : Spot) → R.rel tok' fits' s a t → Q.rel tok' fits' s a t) → Verdict R tok fits s q → Verdict Q tok fits s q
  verdict_map R Q s (got a t) f h = f tok fits a t h
  verdict_map R Q s (failed x) f h = ((h.0.0, h.0.1, h.0.2, h.0.3, h.0.4, f h.0.0 (fits_of fits x) h.0.1 h.0.2 h.0.5), h.1)
  verdict_map R Q s spent f h = tt

-- ---- the parts

-- the tokens with another one at k
unfoldable pub put : Tokens → ℕ → Kind → Tokens
put tok k x = λ i. if nat_eq i k then Some x else tok i

pub put_here : (tok : Tokens) (k : ℕ) (x : Kind) → put tok k x k ≡ Some x
unfolding put
put_here tok k x = rw (eq-eqb k k refl) refl

pub put_before : (tok : Tokens) (k : ℕ) (x : Kind) (i : ℕ) → i < k → put tok k x i ≡ tok i
unfolding put
put_before tok k x i h = rw (ne_eqb i k (λ e. omega arith)) refl

-- a token, where `level s` tokens are open; the rest begins at next
unfoldable pub token : Kind → (Spot → ℕ) → (next : Spot → Spot) → ((s : Spot) → (next s).at ≡ suc s.at) → Piece (Unit {0})
token k level next up = record {
  rel = λ tok fits s _ t. Next tok fits k (back s (level s)) × (t ≡ next s);
  on = λ tok fits s t _ h. let e = ap (λ (x : Spot). x.at) h.1 ∙ up s in omega arith;
  moved = λ tok tok' fits fits' s t _ e h. let q = ap (λ (x : Spot). x.at) h.1 ∙ up s in
      (((e s.at (omega arith) (omega arith)).0 ∙ h.0.0, (e s.at (omega arith) (omega arith)).1 (level s) h.0.1), h.1);
  due = λ tok fits s free. (put tok s.at k, tt, next s, (λ i q. put_before tok s.at k i q), ((put_here tok s.at k, free s.at (level s) (omega arith)), refl));
}

-- a token at its own level that stays open, or does not, and one where n tokens are open
unfoldable pub open_token : Kind → Piece (Unit {0})
open_token k = token k (λ s. s.level) opened (λ s. refl)

unfoldable pub pass_token : Kind → Piece (Unit {0})
pass_token k = token k (λ s. s.level) passed (λ s. refl)

unfoldable pub close_token : Punct → ℕ → Piece (Unit {0})
close_token p n = token (kind.Punct p) (λ _. n) (λ s. closed s n) (λ s. refl)

-- nothing more
unfoldable pub done : {A : Type 0} → A → Piece A
done {A} a = record {
  rel = λ tok fits s b t. (b ≡ a) × (t ≡ s);
  on = λ tok fits s t b h. let e = ap (λ (x : Spot). x.at) h.1 in omega arith;
  moved = λ tok tok' fits fits' s t b e h. h;
  due = λ tok fits s free. (tok, a, s, (λ i q. refl), (refl, refl));
}

-- the same, where n tokens stay open
unfoldable pub left : {A : Type 0} → ℕ → A → Piece A
left {A} n a = record {
  rel = λ tok fits s b t. (b ≡ a) × (t ≡ back s n);
  on = λ tok fits s t b h. let e = ap (λ (x : Spot). x.at) h.1 in omega arith;
  moved = λ tok tok' fits fits' s t b e h. h;
  due = λ tok fits s free. (tok, a, back s n, (λ i q. refl), (refl, refl));
}

module _ (tok : Tokens) (fits : Fits) where
  -- a token that is seen
  pub seen_verdict : (k : Kind) (level : Spot → ℕ) (next : Spot → Spot) (up : (s : Spot) → (next s).at ≡ suc s.at) (s : Spot) → tok s.at ≡ Some k → (b : Bool) → fits s.at (level s) ≡ b →
      Verdict (token k level next up) tok fits s (if b then got tt (next s) else failed (deep s.at))
  unfolding token
  seen_verdict k level next up s e true f = ((e, f), refl)
  seen_verdict k level next up s e false f = ((tok, tt, next s, (λ i q. refl), (let u = up s in omega arith), ((e, fits_deep fits s.at (level s) f), refl)), omega arith)

  -- one that is missing is the completion
  pub missing_verdict : (k : Kind) (level : Spot → ℕ) (next : Spot → Spot) (up : (s : Spot) → (next s).at ≡ suc s.at) (s : Spot) → Verdict (token k level next up) tok fits s (failed (bad s.at))
  unfolding token
  missing_verdict k level next up s = (
    (
      put tok s.at k,
      tt,
      next s,
      (λ i q. put_before tok s.at k i q),
      (let u = up s in omega arith),
      ((put_here tok s.at k, fits_behind fits (bad s.at) s.at (level s) (omega arith)), refl),
    ),
    omega arith,
  )

  pub verdict_if : {A : Type 0} (R : Piece A) (s : Spot) (c : Bool) (x y : Got A) → (c ≡ true → Verdict R tok fits s x) → (c ≡ false → Verdict R tok fits s y) → Verdict R tok fits s (if c then x else y)
  verdict_if R s true x y h k = h refl
  verdict_if R s false x y h k = k refl

  pub verdict_some : {A B : Type 0} (R : Piece B) (s : Spot) (o : Option A) (f : A → Got B) (b : Got B) → ((x : A) → o ≡ Some x → Verdict R tok fits s (f x)) → (o ≡ None → Verdict R tok fits s b) → Verdict R tok fits s (on_some o f b)
  unfolding on_some
  verdict_some R s (Some x) f b h k = h x refl
  verdict_some R s None f b h k = k refl

  pub open_verdict : (k : Kind) (s : Spot) → tok s.at ≡ Some k → Verdict (open_token k) tok fits s (of.take tok fits opened s)
  unfolding of.take open_token
  open_verdict k s e = seen_verdict k (λ s. s.level) opened (λ s. refl) s e (fits s.at s.level) refl

  pub pass_verdict : (k : Kind) (s : Spot) → tok s.at ≡ Some k → Verdict (pass_token k) tok fits s (of.take tok fits passed s)
  unfolding of.take pass_token
  pass_verdict k s e = seen_verdict k (λ s. s.level) passed (λ s. refl) s e (fits s.at s.level) refl

  open_missing : (k : Kind) (s : Spot) → Verdict (open_token k) tok fits s (failed (bad s.at))
  unfolding open_token
  open_missing k s = missing_verdict k (λ s. s.level) opened (λ s. refl) s

  pub sign_verdict : (p : Punct) (s : Spot) → Verdict (open_token (kind.Punct p)) tok fits s (of.expect tok fits p opened s)
  unfolding of.expect
  sign_verdict p s = verdict_if (open_token (kind.Punct p)) s (is_sign p (tok s.at)) _ _ (λ e. open_verdict (kind.Punct p) s (is_sign_tells p (tok s.at) e)) (λ _. open_missing (kind.Punct p) s)

  pass_missing : (k : Kind) (s : Spot) → Verdict (pass_token k) tok fits s (failed (bad s.at))
  unfolding pass_token
  pass_missing k s = missing_verdict k (λ s. s.level) passed (λ s. refl) s

  pub pass_sign_verdict : (p : Punct) (s : Spot) → Verdict (pass_token (kind.Punct p)) tok fits s (of.expect tok fits p passed s)
  unfolding of.expect
  pass_sign_verdict p s = verdict_if (pass_token (kind.Punct p)) s (is_sign p (tok s.at)) _ _ (λ e. pass_verdict (kind.Punct p) s (is_sign_tells p (tok s.at) e)) (λ _. pass_missing (kind.Punct p) s)

  pub word_verdict : (w : Keyword) (s : Spot) → Verdict (pass_token (kind.Key w)) tok fits s (of.expect_key tok fits w s)
  unfolding of.expect_key
  word_verdict w s = verdict_if (pass_token (kind.Key w)) s (is_key w (tok s.at)) _ _ (λ e. pass_verdict (kind.Key w) s (is_key_tells w (tok s.at) e)) (λ _. pass_missing (kind.Key w) s)

  pub name_verdict : (s : Spot) → Verdict (pass_token kind.Name) tok fits s (of.expect_name tok fits s)
  unfolding of.expect_name
  name_verdict s = verdict_if (pass_token kind.Name) s (is_name (tok s.at)) _ _ (λ e. pass_verdict kind.Name s (is_name_tells (tok s.at) e)) (λ _. pass_missing kind.Name s)

  close_missing : (p : Punct) (n : ℕ) (s : Spot) → Verdict (close_token p n) tok fits s (failed (bad s.at))
  unfolding close_token
  close_missing p n s = missing_verdict (kind.Punct p) (λ _. n) (λ s. closed s n) (λ s. refl) s

  close_seen : (p : Punct) (n : ℕ) (s : Spot) → tok s.at ≡ Some (kind.Punct p) → Verdict (close_token p n) tok fits s (of.take tok fits passed (back s n))
  unfolding of.take close_token
  close_seen p n s e = seen_verdict (kind.Punct p) (λ _. n) (λ s. closed s n) (λ s. refl) s e (fits s.at n) refl

  pub close_verdict : (p : Punct) (n : ℕ) (s : Spot) → Verdict (close_token p n) tok fits s (of.close tok fits p n s)
  unfolding of.close of.expect
  close_verdict p n s = verdict_if (close_token p n) s (is_sign p (tok s.at)) _ _ (λ e. close_seen p n s (is_sign_tells p (tok s.at) e)) (λ _. close_missing p n s)

  pub done_verdict : {A : Type 0} (a : A) (s : Spot) → Verdict (done a) tok fits s (pure a s)
  unfolding done pure
  done_verdict a s = (refl, refl)

  pub left_verdict : {A : Type 0} (n : ℕ) (a : A) (s : Spot) → Verdict (left n a) tok fits s (leave n a s)
  unfolding left leave
  left_verdict n a s = (refl, refl)

-- ---- ways to make a piece

-- a piece that looks at the place where it begins
unfoldable pub here : {A : Type 0} → (Spot → Piece A) → Piece A
here S = record {
  rel = λ tok fits s a t. (S s).rel tok fits s a t;
  on = λ tok fits s t a h. (S s).on tok fits s t a h;
  moved = λ tok tok' fits fits' s t a e h. (S s).moved tok tok' fits fits' s t a e h;
  due = λ tok fits s free. (S s).due tok fits s free;
}

-- the piece S by another name: what S derives, R does
unfoldable pub rule : {A : Type 0} (S : Piece A) (R : Tokens → Fits → Spot → A → Spot → Type 0) →
    ((tok : Tokens) (fits : Fits) (s t : Spot) (a : A) → R tok fits s a t → s.at ≤ t.at) →
    ((tok tok' : Tokens) (fits fits' : Fits) (s t : Spot) (a : A) → Same tok fits tok' fits' s.at t.at → R tok fits s a t → R tok' fits' s a t) →
    ((tok : Tokens) (fits : Fits) (s t : Spot) (a : A) → S.rel tok fits s a t → R tok fits s a t) → Piece A
rule S R on moved to = record {
  rel = R;
  on = on;
  moved = moved;
  due = λ tok fits s free. let x = S.due tok fits s free in (x.0, x.1, x.2, x.3, to x.0 fits s x.2 x.1 x.4);
}

-- a piece that only looks ahead, and is never wrong
abbrev pub Peeks : {A : Type 0} → Spot → Got A → Type 0
Peeks s (got a t) = t ≡ s
Peeks s (failed f) = ⊥
Peeks s spent = Unit {0}

pub verdict_peek : {A B : Type 0} (tok : Tokens) (fits : Fits) (R : Piece B) (s : Spot) (m : P A) (f : A → P B) → Peeks s (m s) → ((a : A) → Verdict R tok fits s (f a s)) → Verdict R tok fits s ((m >>= f) s)
unfolding ◌>>=◌ go_on
verdict_peek {A} tok fits R s m f h k = go (m s) h
  where
    go : (q : Got A) → Peeks s q → Verdict R tok fits s (go_on q f)
    go (got a t) e = rw e (k a)
    go (failed x) e = absurd e
    go spent e = tt
