-- What the code takes is what the descent takes.
use Rattle.std.proofs.Common.{◌≡◌, ℕ, zero, suc, ◌+◌, ◌≤◌, ◌<◌, true, false, Option, Some, None, if◌then◌else◌, refl, ap, ◌∙◌, arith, add-one, eq-eqb, ne_eqb, ◌≢◌}
use Rattle.std.proofs.lemmas.Bool.Decides.{nat_tests}
use Rattle.cc_model.specs.declared.tokens.Kind.{Kind}
use Rattle.cc_model.specs.declared.tokens.Kind.TheVariants as kind
use Rattle.cc_model.specs.declared.tokens.Keyword.{Keyword}
use Rattle.cc_model.specs.declared.tokens.Punct.{Punct}
use Rattle.cc_model.specs.Spots.{Spot, opened, passed, shallow}
use Rattle.cc_model.specs.ReadExpressions.{binary_sign}
use Rattle.c_expressions.specs.Descent.{bad, deep, Got, got, failed, P, binary_at, of_rank, is_sign, is_key, is_name}
use Rattle.c_expressions.specs.Descent as of
use Rattle.c_expressions.specs.Shown.{binary_maker}

shallow_yes : (i n : ℕ) → n ≤ 200 → shallow i n ≡ true
shallow_yes i n h = grind (arith, nat_tests)

shallow_no : (i n : ℕ) → 200 < n → shallow i n ≡ false
shallow_no i n h = grind (arith, nat_tests)

module _ (tok : ℕ → Option Kind) where
  pub take_deep : (s : Spot) (next : Spot → Spot) → 200 < s.level → of.take tok shallow next s ≡ failed (deep s.at)
  unfolding of.take
  take_deep s next h = ap (λ b. if b then got tt (next s) else failed (deep s.at)) (shallow_no s.at s.level h)

  pub take_next : (s : Spot) (next : Spot → Spot) → s.level ≤ 200 → of.take tok shallow next s ≡ got tt (next s)
  unfolding of.take
  take_next s next h = ap (λ b. if b then got tt (next s) else failed (deep s.at)) (shallow_yes s.at s.level h)

  pub take_opened : (s : Spot) → s.level ≤ 200 → of.take tok shallow opened s ≡ got tt (record { at = s.at + 1; level = s.level + 1 })
  take_opened s h = take_next s opened h ∙ (rw (add-one, add-one) refl)

  pub take_passed : (s : Spot) → s.level ≤ 200 → of.take tok shallow passed s ≡ got tt (record { at = s.at + 1; level = s.level })
  take_passed s h = take_next s passed h ∙ (rw add-one refl)

  pub sign_bad : (s : Spot) (p : Punct) (next : Spot → Spot) → is_sign p (tok s.at) ≡ false → of.expect tok shallow p next s ≡ failed (bad s.at)
  unfolding of.expect
  sign_bad s p next e = ap (λ b. if b then of.take tok shallow next s else failed (bad s.at)) e

  pub sign_taken : (s : Spot) (p : Punct) (next : Spot → Spot) → is_sign p (tok s.at) ≡ true → of.expect tok shallow p next s ≡ of.take tok shallow next s
  unfolding of.expect
  sign_taken s p next e = ap (λ b. if b then of.take tok shallow next s else failed (bad s.at)) e

  pub key_bad : (s : Spot) (k : Keyword) → is_key k (tok s.at) ≡ false → of.expect_key tok shallow k s ≡ failed (bad s.at)
  unfolding of.expect_key
  key_bad s k e = ap (λ b. if b then of.take tok shallow passed s else failed (bad s.at)) e

  pub key_taken : (s : Spot) (k : Keyword) → is_key k (tok s.at) ≡ true → of.expect_key tok shallow k s ≡ of.take tok shallow passed s
  unfolding of.expect_key
  key_taken s k e = ap (λ b. if b then of.take tok shallow passed s else failed (bad s.at)) e

  pub name_bad : (s : Spot) → is_name (tok s.at) ≡ false → of.expect_name tok shallow s ≡ failed (bad s.at)
  unfolding of.expect_name
  name_bad s e = ap (λ b. if b then of.take tok shallow passed s else failed (bad s.at)) e

  pub name_taken : (s : Spot) → is_name (tok s.at) ≡ true → of.expect_name tok shallow s ≡ of.take tok shallow passed s
  unfolding of.expect_name
  name_taken s e = ap (λ b. if b then of.take tok shallow passed s else failed (bad s.at)) e

pub has_rank : (l n : ℕ) (p : Punct) → 0 < l → (0 < n → binary_sign p ≡ Some (n, binary_maker p)) → n ≡ l → binary_at l (Some (kind.Punct p)) ≡ Some (binary_maker p)
unfolding binary_at of_rank
has_rank l n p h f e = rw (f (omega arith)) (rw (eq-eqb n l e) refl)

pub lacks_rank : (l n : ℕ) (p : Punct) → 0 < l → (n ≡ 0 → binary_sign p ≡ None) → (0 < n → binary_sign p ≡ Some (n, binary_maker p)) → n ≢ l → binary_at l (Some (kind.Punct p)) ≡ None
unfolding binary_at of_rank
lacks_rank l zero p h z f e = rw (z refl) refl
lacks_rank l (suc n) p h z f e = rw (f (omega arith)) (rw (ne_eqb (suc n) l e) refl)
