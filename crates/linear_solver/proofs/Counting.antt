-- The counter of a pass.
use Rattle.std.proofs.Common.{◌≡◌, ◌∙◌, sym, ap, ap₂, refl, arith, ℕ, zero, suc, ◌<◌, ◌≤◌, ◌+◌, ◌-◌, Bool, true, false, nat_lt, List, [], ◌∷◌, ℤ, length, if◌then◌else◌}
use Rattle.cc_base.specs.Inequality.{Inequality}
use Rattle.cc_base.specs.Pass.{Ready, ended, going, ready, Passed, costing, pairs, eliminate, turns, pass}
use Rattle.cc_base.specs.declared.passes.Mode.{Mode}
use Rattle.cc_base.specs.declared.passes.PassEnd.{PassEnd}
use Rattle.cc_base.specs.declared.passes.PassEnd.TheVariants.{Open}
use Rattle.cc_base.specs.Witness.{witness, origin, restored, unwound, Turn}
use Rattle.linear_solver.specs.Seen.{over, done, counted}
use Rattle.linear_solver.specs.Ordered.{SafeAll}
use Rattle.linear_solver.specs.Trail.{trail_of, Sound}
use Rattle.linear_solver.proofs.Pairing.{narrow_going, safe_eliminate}

pub counted_within : (s b : ℕ) (e : PassEnd) → s ≤ b → counted s b (record { how = e; cost = 0 }) ≡ done e s
unfolding counted
counted_within s b e h = let t : nat_lt b (s + 0) ≡ false = grind arith in
    ap (λ (c : Bool). if c then over else done e (s + 0)) t ∙ ap (done e) (omega arith)

pub counted_costing : (s b c : ℕ) (p : Passed) → counted s b (costing c p) ≡ counted (s + c) b p
unfolding counted costing
counted_costing s b c p = let e : s + (c + p.cost) ≡ (s + c) + p.cost = omega arith in ap (λ (n : ℕ). if nat_lt b n then over else done p.how n) e

pub counted_over : (s b c : ℕ) (p : Passed) → b < s + c → counted s b (costing c p) ≡ over
unfolding counted costing
counted_over s b c p h = let t : nat_lt b (s + (c + p.cost)) ≡ true = grind arith in
    ap (λ (d : Bool). if d then over else done p.how (s + (c + p.cost))) t

next : Mode → ℕ → Ready → Passed
next m n r = elim r [ ended e ↦ record { how = e; cost = 0 } | going x k ↦ costing (pairs x k) (turns m n (eliminate m x k)) ]

pub turns_ended : (m : Mode) (n : ℕ) (l : List Inequality) (e : PassEnd) → 0 < n → ended e ≡ ready l → turns m n l ≡ (let r : Passed = record { how = e; cost = 0 } in r)
unfolding turns next
turns_ended m zero l e h i = absurd (omega arith)
turns_ended m (suc n) l e h i = ap (next m n) (sym i)

pub turns_going : (m : Mode) (n : ℕ) (l : List Inequality) (x : ℕ) (k : List Inequality) → 0 < n → going x k ≡ ready l → turns m n l ≡ costing (pairs x k) (turns m (n - 1) (eliminate m x k))
unfolding turns next
turns_going m zero l x k h i = absurd (omega arith)
turns_going m (suc n) l x k h i = ap (next m n) (sym i) ∙ ap (λ (j : ℕ). costing (pairs x k) (turns m j (eliminate m x k))) (omega arith)

pub turns_none : (m : Mode) (n : ℕ) (l : List Inequality) → n ≤ 0 → turns m n l ≡ (let r : Passed = record { how = Open; cost = 0 } in r)
unfolding turns
turns_none m zero l h = refl
turns_none m (suc n) l h = absurd (omega arith)

pub pass_start : (m : Mode) (n k : ℕ) (l : List Inequality) (s b : ℕ) → k ≡ length l → counted (s + k) b (turns m (n + 1) l) ≡ counted s b (pass m n l)
unfolding pass
pass_start m n k l s b e = ap₂ (λ (i j : ℕ). counted (s + i) b (turns m j l)) e (omega arith) ∙ sym (counted_costing s b (length l) (turns m (suc n) l))

pub pass_over : (m : Mode) (n k : ℕ) (l : List Inequality) (s b : ℕ) → k ≡ length l → b < s + k → counted s b (pass m n l) ≡ over
unfolding pass
pass_over m n k l s b e h = counted_over s b (length l) (turns m (suc n) l) (omega (arith, e, h))

trail_from : Mode → ℕ → Ready → List Turn
trail_from m n r = elim r [ ended e ↦ [] | going x k ↦ record { place = x; list = k } ∷ trail_of m n (eliminate m x k) ]

pub trail_ended : (m : Mode) (n : ℕ) (l : List Inequality) (e : PassEnd) → 0 < n → ended e ≡ ready l → trail_of m n l ≡ []
unfolding trail_of trail_from
trail_ended m zero l e h i = refl
trail_ended m (suc n) l e h i = ap (trail_from m n) (sym i)

pub trail_going : (m : Mode) (n : ℕ) (l : List Inequality) (x : ℕ) (k : List Inequality) → 0 < n → going x k ≡ ready l → trail_of m n l ≡ (let t : Turn = record { place = x; list = k } in t) ∷ trail_of m (n - 1) (eliminate m x k)
unfolding trail_of trail_from
trail_going m zero l x k h i = absurd (omega arith)
trail_going m (suc n) l x k h i = ap (trail_from m n) (sym i) ∙ ap (λ (j : ℕ). (let t : Turn = record { place = x; list = k } in t) ∷ trail_of m j (eliminate m x k)) (omega arith)

pub trail_none : (m : Mode) (n : ℕ) (l : List Inequality) → n ≤ 0 → trail_of m n l ≡ []
unfolding trail_of
trail_none m zero l h = refl
trail_none m (suc n) l h = absurd (omega arith)

-- ---- what the trail of a pass is for

witness_from : Mode → ℕ → Ready → ℕ → ℤ
witness_from m n r = elim r [ ended e ↦ origin | going x k ↦ restored (witness m n (eliminate m x k)) x k ]

unwound_from : (m : Mode) (n : ℕ) (r : Ready) → ((l : List Inequality) → unwound (trail_of m n l) origin ≡ witness m n l) → unwound (trail_from m n r) origin ≡ witness_from m n r
unfolding trail_from witness_from unwound
unwound_from m n (ended e) ih = refl
unwound_from m n (going x k) ih = ap (λ (v : ℕ → ℤ). restored v x k) (ih (eliminate m x k))

pub unwound_trail : (m : Mode) (n : ℕ) (l : List Inequality) → unwound (trail_of m n l) origin ≡ witness m n l
unfolding trail_of trail_from witness witness_from unwound
unwound_trail m zero l = refl
unwound_trail m (suc n) l = unwound_from m n (ready l) (unwound_trail m n)

sound_from : (m : Mode) (n : ℕ) (l : List Inequality) (r : Ready) → r ≡ ready l → SafeAll l → ((k : List Inequality) → SafeAll k → Sound (trail_of m n k)) → Sound (trail_from m n r)
unfolding trail_from
sound_from m n l (ended e) i s ih = tt
sound_from m n l (going x k) i s ih = let g = narrow_going l x k s i in (g, ih (eliminate m x k) (safe_eliminate m x k g))

pub sound_trail : (m : Mode) (n : ℕ) (l : List Inequality) → SafeAll l → Sound (trail_of m n l)
unfolding trail_of trail_from
sound_trail m zero l s = tt
sound_trail m (suc n) l s = sound_from m n l (ready l) refl s (sound_trail m n)
