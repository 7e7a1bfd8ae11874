-- Where functions begin, and the places behind their calls.
use Rattle.std.proofs.Common.{◌≡◌, ◌<◌, ◌≤◌, ◌⊎◌, ◌↔◌, inl, inr, ℕ, zero, suc, ◌+◌, ◌-◌, if◌then◌else◌, Bool, true, false, List, [], ◌∷◌, ◌++◌, length, get_or, Some, None, slice_get, refl, sym, ◌∙◌, subst, ap, arith}
use Rattle.std.proofs.lemmas.List.{length-append}
use Rattle.std.proofs.lemmas.Bool.{cases_lt}
use Rattle.std.proofs.lemmas.Bool.Decides.{nat_tests}
use Rattle.std.proofs.lemmas.Option.{slice_get_within}
use Rattle.cc_base.specs.Paths.{In}
use Rattle.tac_lower.specs.declared.instr.Instr.{Instr}
use Rattle.tac_lower.specs.declared.instr.Instr.TheVariants as instr
use Rattle.tac_lower.specs.declared.tac.TacFunc.{TacFunc}
use Rattle.tac_lower.specs.declared.tac.Tac.{Tac}
use Rattle.tac_lower.specs.Finished.{first_in}
use Rattle.tac_lower.specs.Flow.{last_first, Calls, IsBehind}
use Rattle.search_walks.specs.Rows.{row, Has, Grows, IsOne}
use Rattle.search_walks.specs.Returns.{called, BeginsUpTo, FirstsUpTo, IsBehindAt, BehindUpTo, AreReturns}
use Rattle.search_base.proofs.TermLaws.{there_is}
use Rattle.search_walks.proofs.RowLaws.{grows_by}

-- ---- the function of a place

last_within : (at : ℕ) (fs : List TacFunc) → last_first at fs ≤ at
last_within at [] = omega arith
last_within at (f ∷ fs) = let h = last_within at fs in grind (arith, nat_tests)

last_here : (at n : ℕ) (f : TacFunc) (fs : List TacFunc) → slice_get fs n ≡ Some f → f.first ≡ at → last_first at fs ≡ at
last_here at n f [] e g = absurd (cc e)
last_here at zero f (x ∷ fs) e g = let h = last_within at fs in let i : x.first ≡ at = cc (e, g) in grind (arith, nat_tests)
last_here at (suc n) f (x ∷ fs) e g = let h = last_here at n f fs e g in grind (arith, nat_tests)

last_other : (at : ℕ) (fs : List TacFunc) → ((n : ℕ) (f : TacFunc) → slice_get fs n ≡ Some f → f.first ≡ at → ⊥) → last_first at fs ≡ last_first (at - 1) fs
last_other at [] h = refl
last_other at (f ∷ fs) h = let i = last_other at fs (λ n g. h (suc n) g) in let j : f.first ≡ at → ⊥ = h 0 f refl in grind (arith, nat_tests)

module _ (t : Tac) where
  pub no_firsts : (l : List ℕ) → l ≡ [] → FirstsUpTo t 0 l
  no_firsts l e = record { places = ap length e; each = λ a h. absurd (omega (arith, h)) }

  pub no_last : 0 ≡ last_first (0 - 1) t.funcs
  no_last = let h = last_within (0 - 1) t.funcs in omega (arith, h)

  pub next_last : (marks : List Bool) (k last new : ℕ) (b : Bool) → BeginsUpTo t (length t.funcs) marks → slice_get marks k ≡ Some b → last ≡ last_first (k - 1) t.funcs → new ≡ (if b then k else last) → new ≡ last_first k t.funcs
  next_last marks k last new true x e h i = let b = ((x.each k).0 e).1 in i ∙ sym (last_here k b.number b.function t.funcs b.is b.first)
  next_last marks k last new false x e h i = i ∙ h ∙ sym (last_other k t.funcs none)
    where
      none : (n : ℕ) (f : TacFunc) → slice_get t.funcs n ≡ Some f → f.first ≡ k → ⊥
      none n f j g = absurd (cc (e, (x.each k).1 (subst (λ m. k < m) x.places (slice_get_within marks k false e), record { number = n; before = slice_get_within t.funcs n f j; function = f; is = j; first = g })))

  pub more_firsts : (k last : ℕ) (l new : List ℕ) → FirstsUpTo t k l → new ≡ l ++ last ∷ [] → last ≡ last_first k t.funcs → FirstsUpTo t (k + 1) new
  more_firsts k last l new x e g = record { places = ap length e ∙ length-append l (last ∷ []) ∙ ap (λ m. m + 1) x.places; each = λ a h. ap (λ m. slice_get m a) e ∙ by a (cases_lt a k) h }
    where
      before : (l : List ℕ) (a : ℕ) → a < length l → slice_get (l ++ last ∷ []) a ≡ slice_get l a
      before [] a h = absurd (omega (arith, h))
      before (y ∷ l) zero h = refl
      before (y ∷ l) (suc a) h = before l a (omega (arith, h))

      behind : (l : List ℕ) → slice_get (l ++ last ∷ []) (length l) ≡ Some last
      behind [] = refl
      behind (y ∷ l) = behind l

      by : (a : ℕ) → (a < k) ⊎ (k ≤ a) → a < k + 1 → slice_get (l ++ last ∷ []) a ≡ Some (last_first a t.funcs)
      by a (inl i) h = before l a (subst (λ m. a < m) (sym x.places) i) ∙ x.each a i
      by a (inr i) h = let j : a ≡ k = omega (arith, h, i) in ap (slice_get (l ++ last ∷ [])) (j ∙ sym x.places) ∙ behind l ∙ ap Some (g ∙ ap (λ m. last_first m t.funcs) (sym j))

-- ---- behind calls

module _ (t : Tac) where
  calls_by : (first f : ℕ) (i : Instr) → called i ≡ Some f → Calls t first (Some i) → first_in t f ≡ first
  calls_by first f (instr.Call n g a m) e c = ap (first_in t) (cc e) ∙ c
  calls_by first f _ e c = absurd c

  called_by : (first f : ℕ) (i : Instr) → called i ≡ Some f → first_in t f ≡ first → Calls t first (Some i)
  called_by first f (instr.Call n g a m) e c = ap (first_in t) (cc e) ∙ c
  called_by first f _ e c = absurd (cc e)

  module _ (at : ℕ) (i : Instr) (is : slice_get t.code at ≡ Some i) where
    pub call_behind : (f first next : ℕ) (old new : List (List ℕ)) → called i ≡ Some f → first ≡ first_in t f → next ≡ suc at → length old ≡ length t.code → Grows old new (IsOne old first next) → Grows old new (IsBehindAt t at)
    call_behind f first next old new e g h n x = grows_by (IsOne old first next) (IsBehindAt t at) old new to back x
      where
        to : (p m : ℕ) → IsOne old first next p m → IsBehindAt t at p m
        to p m y = record { there = subst (λ k. p < k) n y.there; calls = subst (Calls t p) (sym is) (called_by p f i e (sym g ∙ sym y.same_place)); next = y.same_number ∙ h }

        back : (p m : ℕ) → IsBehindAt t at p m → IsOne old first next p m
        back p m y = record { there = subst (λ k. p < k) (sym n) y.there; same_place = sym (g ∙ calls_by p f i e (subst (Calls t p) is y.calls)); same_number = y.next ∙ sym h }

  pub none_behind : (l : List (List ℕ)) → length l ≡ length t.code → ((p n : ℕ) → Has l p n → ⊥) → BehindUpTo t 0 l
  none_behind l e h = record { places = e; each = λ p n. ((λ x. absurd (h p n x)), λ (i, j, k). by p n j k) }
    where
      by : (p n : ℕ) → n ≤ 0 → IsBehind t p n → Has l p n
      by p zero j k = absurd k
      by p (suc n) j k = absurd (omega (arith, j))

  pub more_behind : (k : ℕ) (l new : List (List ℕ)) → BehindUpTo t k l → Grows l new (IsBehindAt t k) → BehindUpTo t (k + 1) new
  more_behind k l new x y = record { places = y.places ∙ x.places; each = λ p n. (to p n, λ (i, j, b). back p n i j b (cases_lt k n)) }
    where
      to : (p n : ℕ) → Has new p n → (p < length t.code) × (n ≤ k + 1) × IsBehind t p n
      to p n h = elim ((y.each p n).0 h) [
        | inl i ↦ let r = (x.each p n).0 i in (r.0, (let j = r.1 in omega (arith, j)), r.2)
        | inr i ↦ (i.there, (let j = i.next in omega (arith, j)), subst (IsBehind t p) (sym i.next) i.calls)
      ]

      back : (p n : ℕ) → p < length t.code → n ≤ k + 1 → IsBehind t p n → (k < n) ⊎ (n ≤ k) → Has new p n
      back p n i j b (inl h) = let e : n ≡ suc k = omega (arith, h, j) in (y.each p n).1 (inr (record { there = i; calls = subst (IsBehind t p) e b; next = e }))
      back p n i j b (inr h) = (y.each p n).1 (inl ((x.each p n).1 (i, h, b)))

  pub behind_at : (k m : ℕ) (l : List (List ℕ)) → k ≡ m → BehindUpTo t k l → BehindUpTo t m l
  behind_at k m l e x = subst (λ n. BehindUpTo t n l) e x

  behind_within : (first to : ℕ) → IsBehind t first to → to ≤ length t.code
  behind_within first zero b = absurd b
  behind_within first (suc at) b = elim (cases_lt at (length t.code)) [ inl h ↦ omega (arith, h) | inr h ↦ absurd (subst (Calls t first) (past t.code at h) b) ]
    where
      past : (l : List Instr) (n : ℕ) → length l ≤ n → slice_get l n ≡ None
      past [] n h = refl
      past (i ∷ l) zero h = absurd (omega (arith, h))
      past (i ∷ l) (suc n) h = past l n (omega (arith, h))

  -- where a return leads
  pub back_at : (firsts : List ℕ) (behind : List (List ℕ)) (at first : ℕ) (l : List ℕ) → AreReturns t firsts behind → at < length t.code → first ≡ get_or firsts at first → l ≡ row behind first → (to : ℕ) → In to l ↔ IsBehind t (last_first at t.funcs) to
  back_at firsts behind at first l x h e f to = (there, back)
    where
      own : first ≡ last_first at t.funcs
      own = cc (there_is firsts at first (subst (λ m. at < m) (sym (x.function).places) h) e, (x.function).each at h)

      there : In to l → IsBehind t (last_first at t.funcs) to
      there i = subst (λ m. IsBehind t m to) own (((x.calls).each first to).0 (record { is_in = subst (In to) f i })).2

      back : IsBehind t (last_first at t.funcs) to → In to l
      back b = subst (In to) (sym f) (((x.calls).each first to).1 ((let w = last_within at t.funcs in omega (arith, w, own, h)), behind_within (last_first at t.funcs) to b, subst (λ m. IsBehind t m to) (sym own) b)).is_in
