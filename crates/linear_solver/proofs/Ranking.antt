-- Slack, pairs and the order of places, by their sides.
use Rattle.std.proofs.Common.{◌≡◌, ◌∙◌, sym, ap, ap₂, subst, refl, arith, ℕ, zero, suc, ◌+◌, ◌-◌, ◌*◌, ◌^◌, ◌<◌, ◌≤◌, max, Bool, true, false, ◌||◌, ◌&&◌, ◌⊎◌, inl, inr, nat_eq, nat_lt, List, [], ◌∷◌, length, drop, get_or, All, ℤ, pos, negsuc, ◌+ℤ◌, unsigned_abs, if◌then◌else◌, mul_comm}
use Rattle.std.proofs.lemmas.List.{drop_more, drop_all}
use Rattle.std.proofs.lemmas.List.Elements.{All-nil}
use Rattle.std.proofs.lemmas.Bool.{cases_lt}
use Rattle.std.proofs.lemmas.Int.{ints}
use native.Mathlib.Nat.{mul-le-mul_left, mul-le-mul}
use borrow.Author.Tests.{eqb-true, eq-eqb, ltb-true}
use Rattle.cc_base.specs.Inequality.{Inequality, coefficient}
use Rattle.cc_base.specs.declared.forms.Multiple.{Multiple}
use Rattle.cc_base.specs.Pass.{below, above, is_positive, is_lower, is_upper, lowers, uppers, pair_slack, slack_with, slack_of, slack, pairs, better, best_in, best}
use Rattle.linear_solver.specs.declared.slack.Side.TheVariants.{Neither, Lower, Upper}
use Rattle.linear_solver.specs.declared.slack.Sides.{Sides}
use Rattle.linear_solver.specs.declared.slack.Rank.{Rank}
use Rattle.linear_solver.specs.declared.slack.Best.{Best}
use Rattle.linear_solver.specs.Sides.{side, side_step, sides_from, sides, no_sides}
use Rattle.linear_solver.specs.Ranks.{rank, before, Known, just}
use Rattle.linear_solver.specs.Ordered.{Ordered, NarrowAll}
use Rattle.linear_solver.proofs.Integers.{bool_cases}
use Rattle.linear_solver.proofs.Tidied.{or_true, and_true}
use Rattle.linear_solver.proofs.Loops.{no_coefficient}

push_if : {A B : Type 0} (f : A → B) (b : Bool) (x y : A) → f (if b then x else y) ≡ (if b then f x else f y)
push_if f true x y = refl
push_if f false x y = refl

greatest_low : ℕ → List Inequality → ℕ
greatest_low x [] = 0
greatest_low x (i ∷ l) = max (below (coefficient x i.terms)) (greatest_low x l)

greatest_high : ℕ → List Inequality → ℕ
greatest_high x [] = 0
greatest_high x (i ∷ l) = max (above (coefficient x i.terms)) (greatest_high x l)

-- ---- what the walk counts

lowers_step : (c : ℤ) (s : Sides) (n : ℕ) → (side_step (side c) s).lowers + n ≡ s.lowers + (if is_positive (below c) then suc n else n)
unfolding side below is_positive
lowers_step (pos zero) s n = refl
lowers_step (pos (suc k)) s n = refl
lowers_step (negsuc k) s n = omega arith

uppers_step : (c : ℤ) (s : Sides) (n : ℕ) → (side_step (side c) s).uppers + n ≡ s.uppers + (if is_positive (above c) then suc n else n)
unfolding side above is_positive
uppers_step (pos zero) s n = refl
uppers_step (pos (suc k)) s n = omega arith
uppers_step (negsuc k) s n = refl

low_step : (c : ℤ) (s : Sides) (n : ℕ) → max (side_step (side c) s).low n ≡ max s.low (if is_positive (below c) then max (below c) n else n)
unfolding side below is_positive
low_step (pos zero) s n = refl
low_step (pos (suc k)) s n = refl
low_step (negsuc k) s n = omega arith

high_step : (c : ℤ) (s : Sides) (n : ℕ) → max (side_step (side c) s).high n ≡ max s.high (if is_positive (above c) then max (above c) n else n)
unfolding side above is_positive
high_step (pos zero) s n = refl
high_step (pos (suc k)) s n = omega arith
high_step (negsuc k) s n = refl

lowers_from : (x : ℕ) (s : Sides) (l : List Inequality) → (sides_from x s l).lowers ≡ s.lowers + length (lowers x l)
unfolding sides_from lowers is_lower
lowers_from x s [] = omega arith
lowers_from x s (i ∷ l) = lowers_from x (side_step (side (coefficient x i.terms)) s) l ∙ lowers_step (coefficient x i.terms) s (length (lowers x l))
    ∙ ap (λ (n : ℕ). s.lowers + n) (sym (push_if length (is_positive (below (coefficient x i.terms))) (i ∷ lowers x l) (lowers x l)))

uppers_from : (x : ℕ) (s : Sides) (l : List Inequality) → (sides_from x s l).uppers ≡ s.uppers + length (uppers x l)
unfolding sides_from uppers is_upper
uppers_from x s [] = omega arith
uppers_from x s (i ∷ l) = uppers_from x (side_step (side (coefficient x i.terms)) s) l ∙ uppers_step (coefficient x i.terms) s (length (uppers x l))
    ∙ ap (λ (n : ℕ). s.uppers + n) (sym (push_if length (is_positive (above (coefficient x i.terms))) (i ∷ uppers x l) (uppers x l)))

low_from : (x : ℕ) (s : Sides) (l : List Inequality) → (sides_from x s l).low ≡ max s.low (greatest_low x (lowers x l))
unfolding sides_from lowers is_lower greatest_low
low_from x s [] = omega arith
low_from x s (i ∷ l) = low_from x (side_step (side (coefficient x i.terms)) s) l ∙ low_step (coefficient x i.terms) s (greatest_low x (lowers x l))
    ∙ ap (λ (n : ℕ). max s.low n) (sym (push_if (greatest_low x) (is_positive (below (coefficient x i.terms))) (i ∷ lowers x l) (lowers x l)))

high_from : (x : ℕ) (s : Sides) (l : List Inequality) → (sides_from x s l).high ≡ max s.high (greatest_high x (uppers x l))
unfolding sides_from uppers is_upper greatest_high
high_from x s [] = omega arith
high_from x s (i ∷ l) = high_from x (side_step (side (coefficient x i.terms)) s) l ∙ high_step (coefficient x i.terms) s (greatest_high x (uppers x l))
    ∙ ap (λ (n : ℕ). max s.high n) (sym (push_if (greatest_high x) (is_positive (above (coefficient x i.terms))) (i ∷ uppers x l) (uppers x l)))

-- ---- slack is a product

scale_max : (k m n : ℕ) → max (k * m) (k * n) ≡ k * max m n
scale_max k m n = elim (cases_lt m n) [
  | inl h ↦ let e : max m n ≡ n = omega arith in let f = mul-le-mul_left k (let g : m ≤ n = omega arith in g) in (let g : max (k * m) (k * n) ≡ k * n = omega (arith, f) in g) ∙ ap (λ (z : ℕ). k * z) (sym e)
  | inr h ↦ let e : max m n ≡ m = omega arith in let f = mul-le-mul_left k (let g : n ≤ m = omega arith in g) in (let g : max (k * m) (k * n) ≡ k * m = omega (arith, f) in g) ∙ ap (λ (z : ℕ). k * z) (sym e)
]

scale_max_left : (k m n : ℕ) → max (m * k) (n * k) ≡ max m n * k
scale_max_left k m n = ap₂ max (mul_comm m k) (mul_comm n k) ∙ scale_max k m n ∙ mul_comm k (max m n)

less_one : (a b : ℕ) → max (a - 1) (b - 1) ≡ max a b - 1
less_one a b = omega arith

with_is : (x : ℕ) (i : Inequality) (us : List Inequality) → slack_with x i us ≡ (below (coefficient x i.terms) - 1) * (greatest_high x us - 1)
unfolding slack_with pair_slack greatest_high
with_is x i [] = omega arith
with_is x i (j ∷ us) = ap (λ (n : ℕ). max (pair_slack x i j) n) (with_is x i us)
    ∙ scale_max (below (coefficient x i.terms) - 1) (above (coefficient x j.terms) - 1) (greatest_high x us - 1)
    ∙ ap (λ (n : ℕ). (below (coefficient x i.terms) - 1) * n) (less_one (above (coefficient x j.terms)) (greatest_high x us))

slack_of_is : (x : ℕ) (ls us : List Inequality) → slack_of x ls us ≡ (greatest_low x ls - 1) * (greatest_high x us - 1)
unfolding slack_of greatest_low
slack_of_is x [] us = omega arith
slack_of_is x (i ∷ ls) us = ap₂ max (with_is x i us) (slack_of_is x ls us)
    ∙ scale_max_left (greatest_high x us - 1) (below (coefficient x i.terms) - 1) (greatest_low x ls - 1)
    ∙ ap (λ (n : ℕ). n * (greatest_high x us - 1)) (less_one (below (coefficient x i.terms)) (greatest_low x ls))

from_none : (n : ℕ) → max 0 n ≡ n
from_none n = omega arith

slack_sides : (x : ℕ) (l : List Inequality) (s : Sides) → s ≡ sides x l → (s.low - 1) * (s.high - 1) ≡ slack x l
unfolding slack sides no_sides
slack_sides x l s e =
    ap₂ (λ (a b : ℕ). (a - 1) * (b - 1))
    (ap (λ (t : Sides). t.low) e ∙ low_from x no_sides l ∙ from_none (greatest_low x (lowers x l)))
    (ap (λ (t : Sides). t.high) e ∙ high_from x no_sides l ∙ from_none (greatest_high x (uppers x l)))
    ∙ sym (slack_of_is x (lowers x l) (uppers x l))

lowers_sides : (x : ℕ) (l : List Inequality) (s : Sides) → s ≡ sides x l → s.lowers ≡ length (lowers x l)
unfolding sides no_sides
lowers_sides x l s e = ap (λ (t : Sides). t.lowers) e ∙ lowers_from x no_sides l ∙ (omega arith)

uppers_sides : (x : ℕ) (l : List Inequality) (s : Sides) → s ≡ sides x l → s.uppers ≡ length (uppers x l)
unfolding sides no_sides
uppers_sides x l s e = ap (λ (t : Sides). t.uppers) e ∙ uppers_from x no_sides l ∙ (omega arith)

pub rank_sides : (x : ℕ) (l : List Inequality) (s : Sides) (a b : ℕ) → s ≡ sides x l → a ≡ s.low - 1 → b ≡ s.high - 1 →
    (let r : Rank = record { slack = a * b; pairs = s.lowers * s.uppers; place = x } in r) ≡ rank x l
unfolding rank pairs
rank_sides x l s a b e p q =
    ap₂ (λ (m n : ℕ). let r : Rank = record { slack = m; pairs = n; place = x } in r)
    (ap₂ (λ (m n : ℕ). m * n) p q ∙ slack_sides x l s e)
    (ap₂ (λ (m n : ℕ). m * n) (lowers_sides x l s e) (uppers_sides x l s e))

-- ---- their sizes

pub coefficient_bound : (b n x : ℕ) (l : List Multiple) → Ordered n l → All (λ t. unsigned_abs t.coefficient ≤ b) l → unsigned_abs (coefficient x l) ≤ b
unfolding coefficient
coefficient_bound b n x [] o a = omega arith
coefficient_bound b n x (t ∷ l) o a = elim (bool_cases (nat_eq x t.place)) [
  | inl e ↦
      let i = no_coefficient (suc t.place) x l (let f = eqb-true x t.place e in omega (arith, f)) o.2 in
      let h = a 0 t (omega arith) in
      let s : (if nat_eq x t.place then t.coefficient else pos 0) +ℤ coefficient x l ≡ t.coefficient = ap₂ (λ (c : Bool) (z : ℤ). (if c then t.coefficient else pos 0) +ℤ z) e i ∙ (let f : t.coefficient +ℤ pos 0 ≡ t.coefficient = omega (arith, ints) in f) in
      subst (λ (z : ℤ). unsigned_abs z ≤ b) (sym s) h
  | inr e ↦
      let s : (if nat_eq x t.place then t.coefficient else pos 0) +ℤ coefficient x l ≡ coefficient x l = ap (λ (c : Bool). (if c then t.coefficient else pos 0) +ℤ coefficient x l) e ∙ (let f : pos 0 +ℤ coefficient x l ≡ coefficient x l = omega (arith, ints) in f) in
      subst (λ (z : ℤ). unsigned_abs z ≤ b) (sym s) (coefficient_bound b (suc t.place) x l o.2 (λ k d m. a (suc k) d (omega arith)))
]

pub below_bound : (c : ℤ) (b : ℕ) → unsigned_abs c ≤ b → below c ≤ b
unfolding below
below_bound (pos n) b h = omega arith
below_bound (negsuc n) b h = h

pub above_bound : (c : ℤ) (b : ℕ) → unsigned_abs c ≤ b → above c ≤ b
unfolding above
above_bound (pos n) b h = h
above_bound (negsuc n) b h = omega arith

pub lower_side : (c : ℤ) (a : ℕ) → Lower a ≡ side c → (a ≡ below c) × (0 < a) × (above c ≡ 0)
unfolding side below above
lower_side (pos zero) a e = absurd (cc e)
lower_side (pos (suc n)) a e = absurd (cc e)
lower_side (negsuc n) a e = let f : a ≡ suc n = cc e in (f, omega (arith, f), refl)

pub upper_side : (c : ℤ) (a : ℕ) → Upper a ≡ side c → (a ≡ above c) × (0 < a) × (below c ≡ 0)
unfolding side below above
upper_side (pos zero) a e = absurd (cc e)
upper_side (pos (suc n)) a e = let f : a ≡ suc n = cc e in (f, omega (arith, f), refl)
upper_side (negsuc n) a e = absurd (cc e)

pub neither_side : (c : ℤ) → Neither ≡ side c → (below c ≡ 0) × (above c ≡ 0)
unfolding side below above
neither_side (pos zero) e = (refl, refl)
neither_side (pos (suc n)) e = absurd (cc e)
neither_side (negsuc n) e = absurd (cc e)

side_low : (c : ℤ) (s : Sides) (b : ℕ) → unsigned_abs c ≤ b → s.low ≤ b → (side_step (side c) s).low ≤ b
unfolding side
side_low (pos zero) s b h k = k
side_low (pos (suc n)) s b h k = k
side_low (negsuc n) s b h k = omega (arith, h, k)

side_high : (c : ℤ) (s : Sides) (b : ℕ) → unsigned_abs c ≤ b → s.high ≤ b → (side_step (side c) s).high ≤ b
unfolding side
side_high (pos zero) s b h k = k
side_high (pos (suc n)) s b h k = omega (arith, h, k)
side_high (negsuc n) s b h k = k

sizes_from : (x : ℕ) (s : Sides) (l : List Inequality) → NarrowAll l → s.low ≤ 2 ^ 44 → s.high ≤ 2 ^ 44 → ((sides_from x s l).low ≤ 2 ^ 44) × ((sides_from x s l).high ≤ 2 ^ 44)
unfolding sides_from
sizes_from x s [] n h k = (h, k)
sizes_from x s (i ∷ l) n h k =
    let c = coefficient_bound (2 ^ 44) 0 x i.terms (n.0).ordered (n.0).terms in
    sizes_from x (side_step (side (coefficient x i.terms)) s) l n.1 (side_low (coefficient x i.terms) s (2 ^ 44) c h) (side_high (coefficient x i.terms) s (2 ^ 44) c k)

pub sizes : (x : ℕ) (l : List Inequality) (s : Sides) → NarrowAll l → s ≡ sides x l → (s.low ≤ 2 ^ 44) × (s.high ≤ 2 ^ 44)
unfolding sides no_sides
sizes x l s n e = let r = sizes_from x no_sides l n (omega arith) (omega arith) in
    (subst (λ (t : Sides). t.low ≤ 2 ^ 44) (sym e) r.0, subst (λ (t : Sides). t.high ≤ 2 ^ 44) (sym e) r.1)

pub product_bound : (a b m n : ℕ) → a ≤ m → b ≤ n → a * b ≤ m * n
product_bound a b m n h k = mul-le-mul h k

-- ---- the order

abbrev Goes : Rank → Rank → Type 0
Goes a b = (a.slack < b.slack) ⊎ ((a.slack ≡ b.slack) × ((a.pairs < b.pairs) ⊎ ((a.pairs ≡ b.pairs) × (a.place < b.place))))

pub goes : (a b : Rank) → before a b ≡ true → Goes a b
unfolding before
goes a b h = elim (or_true _ _ h) [
  | inl e ↦ inl (ltb-true _ _ e)
  | inr e ↦ let r = and_true _ _ e in inr (
    eqb-true _ _ r.0,
    elim (or_true _ _ r.1) [
      | inl f ↦ inl (ltb-true _ _ f)
      | inr f ↦ let s = and_true _ _ f in inr (eqb-true _ _ s.0, ltb-true _ _ s.1)
    ],
  )
]

lt_is : (a b : ℕ) → a < b → nat_lt a b ≡ true
lt_is a b h = grind arith

lt_not : (a b : ℕ) → b ≤ a → nat_lt a b ≡ false
lt_not a b h = grind arith

eq_is : (a b : ℕ) → a ≡ b → nat_eq a b ≡ true
eq_is a b h = eq-eqb a b h

or_first : (a b : Bool) → a ≡ true → a || b ≡ true
or_first true b h = refl
or_first false b h = absurd (cc h)

or_second : (a b : Bool) → b ≡ true → a || b ≡ true
or_second true b h = refl
or_second false b h = h

and_both : (a b : Bool) → a ≡ true → b ≡ true → a && b ≡ true
and_both true b h k = k
and_both false b h k = absurd (cc h)

goes_back : (a b : Rank) → Goes a b → before a b ≡ true
unfolding before
goes_back a b g = elim g [
  | inl h ↦ or_first _ _ (lt_is _ _ h)
  | inr r ↦ or_second _ _ (and_both _ _ (eq_is _ _ r.0) (elim r.1 [
    | inl h ↦ or_first _ _ (lt_is _ _ h)
    | inr s ↦ or_second _ _ (and_both _ _ (eq_is _ _ s.0) (lt_is _ _ s.1))
  ]))
]

goes_trans : (a b c : Rank) → Goes a b → Goes b c → Goes a c
goes_trans a b c g h = elim g [
  | inl p ↦ elim h [ inl q ↦ inl (omega (arith, p, q)) | inr q ↦ let e = q.0 in inl (omega (arith, p, e)) ]
  | inr p ↦ elim h [
    | inl q ↦ let e = p.0 in inl (omega (arith, e, q))
    | inr q ↦ let e = p.0 in let f = q.0 in inr (
      omega (arith, e, f),
      elim p.1 [
        | inl u ↦ elim q.1 [ inl v ↦ inl (omega (arith, u, v)) | inr v ↦ let k = v.0 in inl (omega (arith, u, k)) ]
        | inr u ↦ let m = u.0 in elim q.1 [ inl v ↦ inl (omega (arith, m, v)) | inr v ↦ let k = v.0 in let i = u.1 in let j = v.1 in inr (omega (arith, m, k), omega (arith, i, j)) ]
      ],
    )
  ]
]

goes_not : (a : Rank) → Goes a a → ⊥
goes_not a g = elim g [ inl h ↦ omega (arith, h) | inr r ↦ elim r.1 [ inl h ↦ omega (arith, h) | inr s ↦ let h = s.1 in omega (arith, h) ] ]

not_before : (a b : Rank) → (Goes a b → ⊥) → before a b ≡ false
not_before a b n = elim (bool_cases (before a b)) [ inl e ↦ absurd (n (goes a b e)) | inr e ↦ e ]

better_is : (l : List Inequality) (x y : ℕ) → better l x y ≡ before (rank x l) (rank y l)
unfolding better before rank
better_is l x y = refl

-- how `is_before` answers
pub by_slack : (a b : Rank) → (a.slack ≡ b.slack → ⊥) → nat_lt a.slack b.slack ≡ before a b
unfolding before
by_slack a b n = let e : nat_eq a.slack b.slack ≡ false = (elim (bool_cases (nat_eq a.slack b.slack)) [ inl t ↦ absurd (n (eqb-true _ _ t)) | inr t ↦ t ]) in
    or_nothing (nat_lt a.slack b.slack) (nat_eq a.slack b.slack) _ e
  where
    or_nothing : (x y z : Bool) → y ≡ false → x ≡ x || (y && z)
    or_nothing true y z h = refl
    or_nothing false true z h = absurd (cc h)
    or_nothing false false z h = refl

same_tests : (x y z : Bool) → x ≡ false → y ≡ true → z ≡ x || (y && z)
same_tests true y z h k = absurd (cc h)
same_tests false true z h k = refl
same_tests false false z h k = absurd (cc k)

pub by_pairs : (a b : Rank) → a.slack ≡ b.slack → (a.pairs ≡ b.pairs → ⊥) → nat_lt a.pairs b.pairs ≡ before a b
unfolding before
by_pairs a b s n = let e : nat_eq a.pairs b.pairs ≡ false = (elim (bool_cases (nat_eq a.pairs b.pairs)) [ inl t ↦ absurd (n (eqb-true _ _ t)) | inr t ↦ t ]) in
    or_nothing (nat_lt a.pairs b.pairs) (nat_eq a.pairs b.pairs) _ e ∙ same_tests (nat_lt a.slack b.slack) (nat_eq a.slack b.slack) _ (lt_not _ _ (omega (arith, s))) (eq_is _ _ s)
  where
    or_nothing : (x y z : Bool) → y ≡ false → x ≡ x || (y && z)
    or_nothing true y z h = refl
    or_nothing false true z h = absurd (cc h)
    or_nothing false false z h = refl

pub by_place : (a b : Rank) → a.slack ≡ b.slack → a.pairs ≡ b.pairs → nat_lt a.place b.place ≡ before a b
unfolding before
by_place a b s p =
    same_tests (nat_lt a.pairs b.pairs) (nat_eq a.pairs b.pairs) _ (lt_not _ _ (omega (arith, p))) (eq_is _ _ p)
    ∙ same_tests (nat_lt a.slack b.slack) (nat_eq a.slack b.slack) _ (lt_not _ _ (omega (arith, s))) (eq_is _ _ s)

-- ---- the best so far

pub just_better : (l : List Inequality) (x y : ℕ) (b : Bool) → better l y x ≡ b → best_in l x (just y) ≡ (if b then y else x)
unfolding best_in
just_better l x y b e = ap (λ (c : Bool). if c then y else x) e

rank_place : (l : List Inequality) (x : ℕ) → (rank x l).place ≡ x
unfolding rank
rank_place l x = refl

pub seen_place : (l : List Inequality) (b : Best) (y : ℕ) → Known l b → better l y b.rank.place ≡ false → b.rank.place ≡ best_in l b.rank.place (just y)
seen_place l b y k e = sym (just_better l b.rank.place y false e)

-- the new place's rank is q
module _ (l : List Inequality) (b : Best) (y : ℕ) (q : Rank) (k : Known l b) (e : q ≡ rank y l) where
  place_is : q.place ≡ y
  place_is = ap (λ (r : Rank). r.place) e ∙ rank_place l y

  better_before : better l y b.rank.place ≡ before q b.rank
  better_before = better_is l y b.rank.place ∙ ap₂ before (sym e) (sym k.rank_is)

  pub taken_place : before q b.rank ≡ true → q.place ≡ best_in l b.rank.place (just y)
  taken_place t = place_is ∙ sym (just_better l b.rank.place y true (better_before ∙ t))

  pub left_place : before q b.rank ≡ false → b.rank.place ≡ best_in l b.rank.place (just y)
  left_place t = sym (just_better l b.rank.place y false (better_before ∙ t))

  pub left_better : before q b.rank ≡ false → better l y b.rank.place ≡ false
  left_better t = better_before ∙ t

  pub taken_rank : q ≡ rank q.place l
  taken_rank = e ∙ ap (λ (x : ℕ). rank x l) (sym place_is)

  -- what wasn't better than the old one isn't better than the new one
  pub taken_better : before q b.rank ≡ true → (z : ℕ) → better l z b.rank.place ≡ false → better l z q.place ≡ false
  taken_better t z f = better_is l z q.place ∙ ap (before (rank z l)) (sym taken_rank) ∙ not_before (rank z l) q (λ g.
      let h = goes_back (rank z l) b.rank (goes_trans (rank z l) q b.rank g (goes q b.rank t)) in
      let i : before (rank z l) b.rank ≡ false = ap (before (rank z l)) k.rank_is ∙ sym (better_is l z b.rank.place) ∙ f in cc (h, i))

  pub taken_self : better l y q.place ≡ false
  taken_self = better_is l y q.place ∙ ap₂ before (sym e) (sym taken_rank) ∙ not_before q q (goes_not q)

pub known_none : (l : List Inequality) (b : Best) (x : ℕ) → b.rank ≡ rank x l → b.seen.items ≡ [] → Known l b
known_none l b x e f = record {
  rank_is = e ∙ ap (λ (y : ℕ). rank y l) (sym (ap (λ (r : Rank). r.place) e ∙ rank_place l x));
  none_better = subst (λ (m : List ℕ). All (λ y. better l y b.rank.place ≡ false) m) (sym f) (All-nil (λ y. better l y b.rank.place ≡ false));
}

pub start_place : (l : List Inequality) (r : Rank) (x : ℕ) → r ≡ rank x l → r.place ≡ x
start_place l r x e = ap (λ (q : Rank). q.place) e ∙ rank_place l x

-- ---- the loops over terms and inequalities

pub terms_more : (l : List Inequality) (b n : ℕ) (p : List Multiple) (k : ℕ) (d : Multiple) (w : ℕ) → k < length p → n ≡ best_in l b (just (get_or p k d).place) → best_in l b (drop k p) ≡ w → best_in l n (drop (k + 1) p) ≡ w
unfolding best_in
terms_more l b n p k d w h e f = ap (λ (x : ℕ). best_in l x (drop (k + 1) p)) e ∙ sym (ap (best_in l b) (drop_more p k d h)) ∙ f

pub terms_end : (l : List Inequality) (b : ℕ) (p : List Multiple) (k w : ℕ) → length p ≤ k → best_in l b (drop k p) ≡ w → b ≡ w
unfolding best_in
terms_end l b p k w h f = sym (ap (best_in l b) (drop_all k p h)) ∙ f

pub list_more : (l : List Inequality) (b n : ℕ) (m r : List Inequality) (i : Inequality) (w : ℕ) → m ≡ i ∷ r → n ≡ best_in l b i.terms → best l b m ≡ w → best l n r ≡ w
unfolding best
list_more l b n m r i w e f g = ap (λ (x : ℕ). best l x r) f ∙ sym (ap (best l b) e) ∙ g

pub list_end : (l : List Inequality) (b : ℕ) (m : List Inequality) (w : ℕ) → m ≡ [] → best l b m ≡ w → b ≡ w
unfolding best
list_end l b m w e f = sym (ap (best l b) e) ∙ f

pub rank_pairs : (l : List Inequality) (x : ℕ) → (rank x l).pairs ≡ pairs x l
unfolding rank
rank_pairs l x = refl
