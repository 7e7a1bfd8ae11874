-- The counter over the passes of a choice.
use Rattle.std.proofs.Common.{◌≡◌, ◌∙◌, sym, ap, ap₂, subst, refl, arith, ℕ, suc, ◌<◌, ◌≤◌, ◌+◌, Bool, true, false, inl, inr, nat_lt, ℤ, pos, negsuc, List, [], ◌∷◌, length, if◌then◌else◌}
use Rattle.cc_base.specs.Inequality.{Inequality, MeetsAll}
use Rattle.cc_base.specs.Pass.{Passed, pass}
use Rattle.cc_base.specs.declared.passes.PassEnd.{PassEnd}
use Rattle.cc_base.specs.declared.passes.Mode.TheVariants.{Real, Dark}
use Rattle.cc_base.specs.declared.passes.PassEnd.TheVariants.{Open, Empty, Full}
use Rattle.cc_base.specs.Witness.{witness, origin, unwound}
use Rattle.cc_base.specs.Groups.{Form, Atom, places_in, value}
use Rattle.linear_solver.specs.declared.choice.Tried as code
use Rattle.linear_solver.specs.declared.choice.Tried.TheVariants.{Beyond, Found, Closed, Undecided}
use Rattle.linear_solver.specs.Trail.{trail_of}
use Rattle.linear_solver.proofs.Counting.{unwound_trail}
use Rattle.linear_solver.proofs.Eliminated.{at_most_meets, at_least_meets, below_zero, above_zero}
use Rattle.cc_base.specs.Need.{Tried, found, closed, open_choice, after, after_open, by_dark, one_choice, tried, elimination, first_list, disequalities, at_most, at_least}
use Rattle.linear_solver.specs.Seen.{at_places, over, done, counted}
use Rattle.linear_solver.specs.Counts.{TriedCount, beyond, within, tried_count, cost_of, opened, FoundMeets}
use Rattle.linear_solver.proofs.Integers.{bool_cases}
use Rattle.linear_solver.proofs.Passes.{dark_pass}

pub counted_over_is : (s b : ℕ) (p : Passed) → over ≡ counted s b p → b < s + p.cost
unfolding counted
counted_over_is s b p e = elim (bool_cases (nat_lt b (s + p.cost))) [
  | inl t ↦ grind arith
  | inr t ↦ absurd (let f : over ≡ done p.how (s + p.cost) = e ∙ ap (λ (d : Bool). if d then over else done p.how (s + p.cost)) t in cc f)
]

pub counted_done_is : (s b : ℕ) (p : Passed) (h : PassEnd) (u : ℕ) → done h u ≡ counted s b p → (s + p.cost ≤ b) × (u ≡ s + p.cost) × (h ≡ p.how)
unfolding counted
counted_done_is s b p h u e = elim (bool_cases (nat_lt b (s + p.cost))) [
  | inl t ↦ absurd (let f : done h u ≡ over = e ∙ ap (λ (d : Bool). if d then over else done p.how (s + p.cost)) t in cc f)
  | inr t ↦ let f : done h u ≡ done p.how (s + p.cost) = e ∙ ap (λ (d : Bool). if d then over else done p.how (s + p.cost)) t in (grind arith, cc f, cc f)
]

tried_beyond : (s b : ℕ) (t : Tried) → b < s + cost_of t → beyond ≡ tried_count s b t
unfolding tried_count
tried_beyond s b t h = let e : nat_lt b (s + cost_of t) ≡ true = grind arith in sym (ap (λ (d : Bool). if d then beyond else within (after s t)) e)

tried_within : (s b : ℕ) (t : Tried) → s + cost_of t ≤ b → within (after s t) ≡ tried_count s b t
unfolding tried_count
tried_within s b t h = let e : nat_lt b (s + cost_of t) ≡ false = grind arith in sym (ap (λ (d : Bool). if d then beyond else within (after s t)) e)

by_full : (p : Passed) → Full ≡ p.how → by_dark 0 p ≡ found (0 + p.cost)
unfolding by_dark
by_full p e = ap (λ (h : PassEnd). let t : Tried = elim h [ Full ↦ found (0 + p.cost) | Empty ↦ open_choice (0 + p.cost) | Open ↦ open_choice (0 + p.cost) ] in t) (sym e)

by_other : (p : Passed) (h : PassEnd) → h ≡ p.how → (h ≡ Full → ⊥) → by_dark 0 p ≡ open_choice (0 + p.cost)
unfolding by_dark
by_other p Full e n = absurd (n refl)
by_other p Empty e n = ap (λ (h : PassEnd). let t : Tried = elim h [ Full ↦ found (0 + p.cost) | Empty ↦ open_choice (0 + p.cost) | Open ↦ open_choice (0 + p.cost) ] in t) (sym e)
by_other p Open e n = ap (λ (h : PassEnd). let t : Tried = elim h [ Full ↦ found (0 + p.cost) | Empty ↦ open_choice (0 + p.cost) | Open ↦ open_choice (0 + p.cost) ] in t) (sym e)

dark_cost : (p : Passed) (h : PassEnd) → h ≡ p.how → cost_of (by_dark 0 p) ≡ p.cost
unfolding cost_of
dark_cost p Full e = ap cost_of (by_full p e) ∙ (let f : 0 + p.cost ≡ p.cost = omega arith in f)
dark_cost p Empty e = ap cost_of (by_other p Empty e (λ x. cc x)) ∙ (let f : 0 + p.cost ≡ p.cost = omega arith in f)
dark_cost p Open e = ap cost_of (by_other p Open e (λ x. cc x)) ∙ (let f : 0 + p.cost ≡ p.cost = omega arith in f)

pub dark_over : (s b : ℕ) (p : Passed) → over ≡ counted s b p → beyond ≡ tried_count s b (by_dark 0 p)
dark_over s b p e = let c = dark_cost p p.how refl in let l = counted_over_is s b p e in tried_beyond s b (by_dark 0 p) (omega (arith, c, l))

pub dark_full : (s b u : ℕ) (p : Passed) → done Full u ≡ counted s b p → within (found u) ≡ tried_count s b (by_dark 0 p)
unfolding after
dark_full s b u p e =
    let i = counted_done_is s b p Full u e in let f = by_full p i.2 in let c = dark_cost p p.how refl in let l = i.0 in let m = i.1 in
    ap (λ (n : ℕ). within (found n)) (let g : u ≡ s + (0 + p.cost) = omega (arith, m) in g) ∙ ap (λ (t : Tried). within (after s t)) (sym f) ∙ tried_within s b (by_dark 0 p) (omega (arith, c, l))

pub dark_other : (s b u : ℕ) (h : PassEnd) (p : Passed) → done h u ≡ counted s b p → (h ≡ Full → ⊥) → within (open_choice u) ≡ tried_count s b (by_dark 0 p)
unfolding after
dark_other s b u h p e n =
    let i = counted_done_is s b p h u e in let f = by_other p h i.2 n in let c = dark_cost p p.how refl in let l = i.0 in let m = i.1 in
    ap (λ (k : ℕ). within (open_choice k)) (let g : u ≡ s + (0 + p.cost) = omega (arith, m) in g) ∙ ap (λ (t : Tried). within (after s t)) (sym f) ∙ tried_within s b (by_dark 0 p) (omega (arith, c, l))

pub dark_meets : (s b u n : ℕ) (l : List Inequality) (v : ℕ → ℤ) → done Full u ≡ counted s b (pass Dark n l) → v ≡ unwound (trail_of Dark (n + 1) l) origin → MeetsAll v l
dark_meets s b u n l v e f =
    let i = counted_done_is s b (pass Dark n l) Full u e in
    let g : n + 1 ≡ suc n = omega arith in
    subst (λ (w : ℕ → ℤ). MeetsAll w l) (sym (f ∙ unwound_trail Dark (n + 1) l ∙ ap (λ (k : ℕ). witness Dark k l) g)) (dark_pass n l (sym i.2))

-- ---- one pass, and then more

after_cost : (c : ℕ) (t : Tried) → cost_of (after c t) ≡ c + cost_of t
unfolding after cost_of
after_cost c (found k) = refl
after_cost c (closed k) = refl
after_cost c (open_choice k) = refl

after_open_cost : (c : ℕ) (t : Tried) → cost_of (after_open c t) ≡ c + cost_of t
unfolding after_open cost_of
after_open_cost c (found k) = refl
after_open_cost c (closed k) = refl
after_open_cost c (open_choice k) = refl

after_after : (s c : ℕ) (t : Tried) → after s (after c t) ≡ after (s + c) t
unfolding after
after_after s c (found k) = let e : s + (c + k) ≡ (s + c) + k = omega arith in ap found e
after_after s c (closed k) = let e : s + (c + k) ≡ (s + c) + k = omega arith in ap closed e
after_after s c (open_choice k) = let e : s + (c + k) ≡ (s + c) + k = omega arith in ap open_choice e

pub after_count : (s c b : ℕ) (t : Tried) → tried_count (s + c) b t ≡ tried_count s b (after c t)
unfolding tried_count
after_count s c b t =
    let e = after_cost c t in let f : (s + c) + cost_of t ≡ s + cost_of (after c t) = omega (arith, e) in
    ap₂ (λ (n : ℕ) (u : Tried). if nat_lt b n then beyond else within u) f (sym (after_after s c t))

opened_after : (s : ℕ) (c : ℕ) (t : Tried) → opened (within (after (s + c) t)) ≡ within (after s (after_open c t))
unfolding after after_open
opened_after s c (found k) = let e : (s + c) + k ≡ s + (c + k) = omega arith in ap (λ (n : ℕ). within (found n)) e
opened_after s c (closed k) = let e : (s + c) + k ≡ s + (c + k) = omega arith in ap (λ (n : ℕ). within (open_choice n)) e
opened_after s c (open_choice k) = let e : (s + c) + k ≡ s + (c + k) = omega arith in ap (λ (n : ℕ). within (open_choice n)) e

opened_if : (d : Bool) (u : Tried) → opened (if d then beyond else within u) ≡ (if d then beyond else opened (within u))
opened_if true u = refl
opened_if false u = refl

pub opened_count : (s c b : ℕ) (t : Tried) → opened (tried_count (s + c) b t) ≡ tried_count s b (after_open c t)
unfolding tried_count
opened_count s c b t =
    let e = after_open_cost c t in let f : (s + c) + cost_of t ≡ s + cost_of (after_open c t) = omega (arith, e) in
    opened_if (nat_lt b ((s + c) + cost_of t)) (after (s + c) t)
    ∙ ap₂ (λ (n : ℕ) (u : TriedCount). if nat_lt b n then beyond else u) f (opened_after s c t)

staged : Passed → Tried → Tried
staged p t = elim p.how [ Empty ↦ closed p.cost | Full ↦ after p.cost t | Open ↦ after p.cost t ]

staged_empty : (p : Passed) (t : Tried) → Empty ≡ p.how → staged p t ≡ closed p.cost
unfolding staged
staged_empty p t e = ap (λ (h : PassEnd). let u : Tried = elim h [ Empty ↦ closed p.cost | Full ↦ after p.cost t | Open ↦ after p.cost t ] in u) (sym e)

staged_full : (p : Passed) (t : Tried) → Full ≡ p.how → staged p t ≡ after p.cost t
unfolding staged
staged_full p t e = ap (λ (h : PassEnd). let u : Tried = elim h [ Empty ↦ closed p.cost | Full ↦ after p.cost t | Open ↦ after p.cost t ] in u) (sym e)

staged_open : (p : Passed) (t : Tried) → Open ≡ p.how → staged p t ≡ after p.cost t
unfolding staged
staged_open p t e = ap (λ (h : PassEnd). let u : Tried = elim h [ Empty ↦ closed p.cost | Full ↦ after p.cost t | Open ↦ after p.cost t ] in u) (sym e)

staged_least : (p : Passed) (t : Tried) (h : PassEnd) → h ≡ p.how → p.cost ≤ cost_of (staged p t)
unfolding cost_of
staged_least p t Empty e = let f = ap cost_of (staged_empty p t e) in omega (arith, f)
staged_least p t Full e = let f = ap cost_of (staged_full p t e) in let g = after_cost p.cost t in omega (arith, f, g)
staged_least p t Open e = let f = ap cost_of (staged_open p t e) in let g = after_cost p.cost t in omega (arith, f, g)

stage_over : (s b : ℕ) (p : Passed) (t : Tried) → over ≡ counted s b p → beyond ≡ tried_count s b (staged p t)
stage_over s b p t e = let h = counted_over_is s b p e in let k = staged_least p t p.how refl in tried_beyond s b (staged p t) (omega (arith, h, k))

stage_empty : (s b u : ℕ) (p : Passed) (t : Tried) → done Empty u ≡ counted s b p → within (closed u) ≡ tried_count s b (staged p t)
unfolding after cost_of
stage_empty s b u p t e =
    let i = counted_done_is s b p Empty u e in let l = i.0 in let m = i.1 in let f = staged_empty p t i.2 in
    ap (λ (k : ℕ). within (closed k)) m ∙ tried_within s b (closed p.cost) l ∙ ap (tried_count s b) (sym f)

stage_more : (s b u : ℕ) (h : PassEnd) (p : Passed) (t : Tried) (r : TriedCount) → done h u ≡ counted s b p → (h ≡ Empty → ⊥) → r ≡ tried_count u b t → r ≡ tried_count s b (staged p t)
stage_more s b u Empty p t r e n f = absurd (n refl)
stage_more s b u Full p t r e n f =
    let i = counted_done_is s b p Full u e in
    f ∙ ap (λ (k : ℕ). tried_count k b t) i.1 ∙ after_count s p.cost b t ∙ ap (tried_count s b) (sym (staged_full p t i.2))
stage_more s b u Open p t r e n f =
    let i = counted_done_is s b p Open u e in
    f ∙ ap (λ (k : ℕ). tried_count k b t) i.1 ∙ after_count s p.cost b t ∙ ap (tried_count s b) (sym (staged_open p t i.2))

dark_after : (n : ℕ) (p : Passed) → by_dark n p ≡ after n (by_dark 0 p)
unfolding by_dark after
dark_after n p = at_end p.how
  where
    at_end : (h : PassEnd) → (let t : Tried = elim h [ Full ↦ found (n + p.cost) | Empty ↦ open_choice (n + p.cost) | Open ↦ open_choice (n + p.cost) ] in t)
        ≡ after n (elim h [ Full ↦ found (0 + p.cost) | Empty ↦ open_choice (0 + p.cost) | Open ↦ open_choice (0 + p.cost) ])
    at_end Full = let e : n + p.cost ≡ n + (0 + p.cost) = omega arith in ap found e
    at_end Empty = let e : n + p.cost ≡ n + (0 + p.cost) = omega arith in ap open_choice e
    at_end Open = let e : n + p.cost ≡ n + (0 + p.cost) = omega arith in ap open_choice e

one_staged : (n : ℕ) (l : List Inequality) → staged (pass Real n l) (by_dark 0 (pass Dark n l)) ≡ one_choice n l
unfolding staged one_choice
one_staged n l = at_end (pass Real n l).how
  where
    c : ℕ
    c = (pass Real n l).cost

    at_end : (h : PassEnd) → (let t : Tried = elim h [ Empty ↦ closed (pass Real n l).cost | Full ↦ after (pass Real n l).cost (by_dark 0 (pass Dark n l)) | Open ↦ after (pass Real n l).cost (by_dark 0 (pass Dark n l)) ] in t)
        ≡ (elim h [ Empty ↦ closed (pass Real n l).cost | Full ↦ by_dark (pass Real n l).cost (pass Dark n l) | Open ↦ by_dark (pass Real n l).cost (pass Dark n l) ])
    at_end Empty = refl
    at_end Full = sym (dark_after (pass Real n l).cost (pass Dark n l))
    at_end Open = sym (dark_after (pass Real n l).cost (pass Dark n l))

pub one_over : (s b n : ℕ) (l : List Inequality) → over ≡ counted s b (pass Real n l) → beyond ≡ tried_count s b (one_choice n l)
one_over s b n l e = stage_over s b (pass Real n l) (by_dark 0 (pass Dark n l)) e ∙ ap (tried_count s b) (one_staged n l)

pub one_empty : (s b u n : ℕ) (l : List Inequality) → done Empty u ≡ counted s b (pass Real n l) → within (closed u) ≡ tried_count s b (one_choice n l)
one_empty s b u n l e = stage_empty s b u (pass Real n l) (by_dark 0 (pass Dark n l)) e ∙ ap (tried_count s b) (one_staged n l)

pub one_more : (s b u n : ℕ) (l : List Inequality) (h : PassEnd) (r : TriedCount) → done h u ≡ counted s b (pass Real n l) → (h ≡ Empty → ⊥) → r ≡ tried_count u b (by_dark 0 (pass Dark n l)) → r ≡ tried_count s b (one_choice n l)
one_more s b u n l h r e m f = stage_more s b u h (pass Real n l) (by_dark 0 (pass Dark n l)) r e m f ∙ ap (tried_count s b) (one_staged n l)

pub done_within : (s b u : ℕ) (h : PassEnd) (p : Passed) → done h u ≡ counted s b p → u ≤ b
done_within s b u h p e = let i = counted_done_is s b p h u e in let l = i.0 in let m = i.1 in omega (arith, l, m)

elimination_staged : (lo hi : ℤ) (l : List Atom) → staged (pass Real (length (places_in l)) (first_list lo hi l)) (tried (length (places_in l)) (first_list lo hi l) (disequalities l)) ≡ elimination lo hi l
unfolding staged elimination
elimination_staged lo hi l = refl

pub elimination_over : (s b : ℕ) (lo hi : ℤ) (l : List Atom) → over ≡ counted s b (pass Real (length (places_in l)) (first_list lo hi l)) → beyond ≡ tried_count s b (elimination lo hi l)
elimination_over s b lo hi l e = stage_over s b _ (tried (length (places_in l)) (first_list lo hi l) (disequalities l)) e ∙ ap (tried_count s b) (elimination_staged lo hi l)

pub elimination_empty : (s b u : ℕ) (lo hi : ℤ) (l : List Atom) → done Empty u ≡ counted s b (pass Real (length (places_in l)) (first_list lo hi l)) → within (closed u) ≡ tried_count s b (elimination lo hi l)
elimination_empty s b u lo hi l e = stage_empty s b u _ (tried (length (places_in l)) (first_list lo hi l) (disequalities l)) e ∙ ap (tried_count s b) (elimination_staged lo hi l)

pub elimination_more : (s b u : ℕ) (lo hi : ℤ) (l : List Atom) (h : PassEnd) (r : TriedCount) → done h u ≡ counted s b (pass Real (length (places_in l)) (first_list lo hi l)) → (h ≡ Empty → ⊥) →
    r ≡ tried_count u b (tried (length (places_in l)) (first_list lo hi l) (disequalities l)) → r ≡ tried_count s b (elimination lo hi l)
elimination_more s b u lo hi l h r e m f = stage_more s b u h _ (tried (length (places_in l)) (first_list lo hi l) (disequalities l)) r e m f ∙ ap (tried_count s b) (elimination_staged lo hi l)

-- ---- the two sides of a disequality

beyond_is : (s b : ℕ) (t : Tried) → beyond ≡ tried_count s b t → b < s + cost_of t
unfolding tried_count
beyond_is s b t e = elim (bool_cases (nat_lt b (s + cost_of t))) [
  | inl h ↦ grind arith
  | inr h ↦ absurd (let f : beyond ≡ within (after s t) = e ∙ ap (λ (d : Bool). if d then beyond else within (after s t)) h in cc f)
]

pub within_is : (s b : ℕ) (t u : Tried) → within u ≡ tried_count s b t → (s + cost_of t ≤ b) × (u ≡ after s t)
unfolding tried_count
within_is s b t u e = elim (bool_cases (nat_lt b (s + cost_of t))) [
  | inl h ↦ absurd (let f : within u ≡ beyond = e ∙ ap (λ (d : Bool). if d then beyond else within (after s t)) h in cc f)
  | inr h ↦ let f : within u ≡ within (after s t) = e ∙ ap (λ (d : Bool). if d then beyond else within (after s t)) h in (grind arith, cc f)
]

pub spent_within : (s b : ℕ) (t u : Tried) → within u ≡ tried_count s b t → cost_of u ≤ b
spent_within s b t u e = let i = within_is s b t u e in let h = i.0 in let f = ap cost_of i.1 in let g = after_cost s t in omega (arith, h, f, g)

both : Tried → Tried → Tried
both a c = elim a [ found k ↦ found k | closed k ↦ after k c | open_choice k ↦ after_open k c ]

both_least : (a c : Tried) → cost_of a ≤ cost_of (both a c)
unfolding both cost_of
both_least (found k) c = let e : k ≤ k = omega arith in e
both_least (closed k) c = let e = after_cost k c in omega (arith, e)
both_least (open_choice k) c = let e = after_open_cost k c in omega (arith, e)

both_found : (s u : ℕ) (a c : Tried) → found u ≡ after s a → both a c ≡ a
unfolding both after
both_found s u (found k) c e = refl
both_found s u (closed k) c e = absurd (cc e)
both_found s u (open_choice k) c e = absurd (cc e)

both_closed : (s u : ℕ) (a c : Tried) → closed u ≡ after s a → (k : ℕ) × (u ≡ s + k) × (both a c ≡ after k c)
unfolding both after
both_closed s u (found k) c e = absurd (cc e)
both_closed s u (closed k) c e = (k, cc e, refl)
both_closed s u (open_choice k) c e = absurd (cc e)

both_open : (s u : ℕ) (a c : Tried) → open_choice u ≡ after s a → (k : ℕ) × (u ≡ s + k) × (both a c ≡ after_open k c)
unfolding both after
both_open s u (found k) c e = absurd (cc e)
both_open s u (closed k) c e = absurd (cc e)
both_open s u (open_choice k) c e = (k, cc e, refl)

tried_both : (n : ℕ) (l : List Inequality) (g : Form) (fs : List Form) → both (tried n (at_most g (negsuc 0) ∷ l) fs) (tried n (at_least g (pos 1) ∷ l) fs) ≡ tried n l (g ∷ fs)
unfolding both tried
tried_both n l g fs = refl

module _ (s b n : ℕ) (l : List Inequality) (g : Form) (fs : List Form) where
  under : Tried
  under = tried n (at_most g (negsuc 0) ∷ l) fs

  over_side : Tried
  over_side = tried n (at_least g (pos 1) ∷ l) fs

  pub sides_beyond : beyond ≡ tried_count s b (tried n (at_most g (negsuc 0) ∷ l) fs) → beyond ≡ tried_count s b (tried n l (g ∷ fs))
  unfolding under over_side
  sides_beyond e =
      let h = beyond_is s b under e in let k = both_least under over_side in
      tried_beyond s b (both under over_side) (omega (arith, h, k)) ∙ ap (tried_count s b) (tried_both n l g fs)

  pub sides_found : (u : ℕ) → within (found u) ≡ tried_count s b (tried n (at_most g (negsuc 0) ∷ l) fs) → within (found u) ≡ tried_count s b (tried n l (g ∷ fs))
  unfolding under over_side
  sides_found u e = e ∙ ap (tried_count s b) (sym (both_found s u under over_side (within_is s b under (found u) e).1) ∙ tried_both n l g fs)

  pub sides_closed : (u : ℕ) (r : TriedCount) → within (closed u) ≡ tried_count s b (tried n (at_most g (negsuc 0) ∷ l) fs) → r ≡ tried_count u b (tried n (at_least g (pos 1) ∷ l) fs) → r ≡ tried_count s b (tried n l (g ∷ fs))
  unfolding under over_side
  sides_closed u r e f =
      let q = both_closed s u under over_side (within_is s b under (closed u) e).1 in
      f ∙ ap (λ (k : ℕ). tried_count k b over_side) q.1 ∙ after_count s q.0 b over_side ∙ ap (tried_count s b) (sym q.2 ∙ tried_both n l g fs)

  pub sides_open : (u : ℕ) (r : TriedCount) → within (open_choice u) ≡ tried_count s b (tried n (at_most g (negsuc 0) ∷ l) fs) → r ≡ tried_count u b (tried n (at_least g (pos 1) ∷ l) fs) → opened r ≡ tried_count s b (tried n l (g ∷ fs))
  unfolding under over_side
  sides_open u r e f =
      let q = both_open s u under over_side (within_is s b under (open_choice u) e).1 in
      ap opened (f ∙ ap (λ (k : ℕ). tried_count k b over_side) q.1) ∙ opened_count s q.0 b over_side ∙ ap (tried_count s b) (sym q.2 ∙ tried_both n l g fs)

pub tried_none : (n : ℕ) (l : List Inequality) → one_choice n l ≡ tried n l []
unfolding tried
tried_none n l = refl

-- ---- what was found

pub under_meets : (r : code.Tried) (l : List Inequality) (g : Form) (fs : List Form) → FoundMeets r (at_most g (negsuc 0) ∷ l) fs → FoundMeets r l (g ∷ fs)
under_meets Beyond l g fs m = tt
under_meets (Found n v) l g fs m = let w = at_places v.items in ((m.0).1, (below_zero (value w g) ((at_most_meets w g (negsuc 0)).0 (m.0).0), m.1))
under_meets (Closed n) l g fs m = tt
under_meets (Undecided n) l g fs m = tt

pub over_meets : (r : code.Tried) (l : List Inequality) (g : Form) (fs : List Form) → FoundMeets r (at_least g (pos 1) ∷ l) fs → FoundMeets r l (g ∷ fs)
over_meets Beyond l g fs m = tt
over_meets (Found n v) l g fs m = let w = at_places v.items in ((m.0).1, (above_zero (value w g) ((at_least_meets w g (pos 1)).0 (m.0).0), m.1))
over_meets (Closed n) l g fs m = tt
over_meets (Undecided n) l g fs m = tt

pub closed_within : (s b u : ℕ) (t : Tried) → within (closed u) ≡ tried_count s b t → u ≤ b
unfolding cost_of
closed_within s b u t e = spent_within s b t (closed u) e

pub open_within : (s b u : ℕ) (t : Tried) → within (open_choice u) ≡ tried_count s b t → u ≤ b
unfolding cost_of
open_within s b u t e = spent_within s b t (open_choice u) e

pub found_within : (s b u : ℕ) (t : Tried) → within (found u) ≡ tried_count s b t → u ≤ b
unfolding cost_of
found_within s b u t e = spent_within s b t (found u) e
