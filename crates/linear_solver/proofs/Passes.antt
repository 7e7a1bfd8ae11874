-- A Real pass that ends Empty: no integers meet the list. A Dark pass that ends Full: its values meet the list.
use Rattle.std.proofs.Common.{◌≡◌, ℕ, zero, suc, ℤ, List}
use Rattle.cc_base.specs.Inequality.{Inequality, MeetsAll}
use Rattle.cc_base.specs.Pass.{Ready, ended, going, ready, Passed, costing, pairs, eliminate, turns, pass}
use Rattle.cc_base.specs.declared.passes.Mode.{Mode}
use Rattle.cc_base.specs.declared.passes.Mode.TheVariants.{Real, Dark}
use Rattle.cc_base.specs.declared.passes.PassEnd.TheVariants.{Open, Empty, Full}
use Rattle.cc_base.specs.Witness.{restored, origin, witness}
use Rattle.linear_solver.proofs.Tidied.{Says, ready_says}
use Rattle.linear_solver.proofs.Taken.{real_taken, dark_taken}

-- how a turn goes on from a list that is ready
next : Mode → ℕ → Ready → Passed
next m n r = elim r [ ended e ↦ record { how = e; cost = 0 } | going x k ↦ costing (pairs x k) (turns m n (eliminate m x k)) ]

real_next : (n : ℕ) (l : List Inequality) (r : Ready) → ((k : List Inequality) → (turns Real n k).how ≡ Empty → (v : ℕ → ℤ) → MeetsAll v k → ⊥) → Says l r → (next Real n r).how ≡ Empty → (v : ℕ → ℤ) → MeetsAll v l → ⊥
unfolding next costing
real_next n l (ended Open) ih s h v m = cc h
real_next n l (ended Empty) ih s h v m = s v m
real_next n l (ended Full) ih s h v m = cc h
real_next n l (going x k) ih s h v m = ih (eliminate Real x k) h v (real_taken v x k ((s v).0 m))

real_turns : (n : ℕ) (l : List Inequality) → (turns Real n l).how ≡ Empty → (v : ℕ → ℤ) → MeetsAll v l → ⊥
unfolding turns next
real_turns zero l h v m = cc h
real_turns (suc n) l h v m = real_next n l (ready l) (real_turns n) (ready_says l) h v m

-- (b)
pub real_pass : (n : ℕ) (l : List Inequality) → (pass Real n l).how ≡ Empty → (v : ℕ → ℤ) → MeetsAll v l → ⊥
unfolding pass costing
real_pass n l h v m = real_turns (suc n) l h v m

back : ℕ → Ready → ℕ → ℤ
back n r = elim r [ ended e ↦ origin | going x k ↦ restored (witness Dark n (eliminate Dark x k)) x k ]

dark_next : (n : ℕ) (l : List Inequality) (r : Ready) → ((k : List Inequality) → (turns Dark n k).how ≡ Full → MeetsAll (witness Dark n k) k) → Says l r → (next Dark n r).how ≡ Full → MeetsAll (back n r) l
unfolding next back costing
dark_next n l (ended Open) ih s h = absurd (cc h)
dark_next n l (ended Empty) ih s h = absurd (cc h)
dark_next n l (ended Full) ih s h = s origin
dark_next n l (going x k) ih s h = let w = restored (witness Dark n (eliminate Dark x k)) x k in (s w).1 (dark_taken (witness Dark n (eliminate Dark x k)) x k (ih (eliminate Dark x k) h))

pub dark_turns : (n : ℕ) (l : List Inequality) → (turns Dark n l).how ≡ Full → MeetsAll (witness Dark n l) l
unfolding turns next witness back
dark_turns zero l h = absurd (cc h)
dark_turns (suc n) l h = dark_next n l (ready l) (dark_turns n) (ready_says l) h

-- (c)
pub dark_pass : (n : ℕ) (l : List Inequality) → (pass Dark n l).how ≡ Full → MeetsAll (witness Dark (suc n) l) l
unfolding pass costing
dark_pass n l h = dark_turns (suc n) l h
