-- The line that is written of tests.
use Rattle.std.proofs.Common.{◌≡◌, ℕ, zero, suc, ◌+◌, ◌<◌, ◌⊎◌, inl, inr, List, [], ◌∷◌, length, Some, refl, sym, ap, subst, arith, slice_get, get_or, Result, Err}
use native.Mathlib.Decide.{ℕ_discrete}
use Rattle.cc_base.specs.declared.inputs.Test.{Test}
use Rattle.cc_base.specs.Limits.{Limits}
use Rattle.cc_model.specs.Core.{Program}
use Rattle.cc_model.specs.Runs.{path_at, end_at}
use Rattle.cc_model.specs.Tested.{Real, tested}
use Rattle.replay.specs.ReplayText.{Written, all_real, one_real, one_differs, replayed_line, differs_line}
use Rattle.replay.specs.declared.faults.TestsFault.{TestsFault}
use Rattle.replay.specs.declared.faults.TestsFault.TheVariants as fault
use Rattle.replay.specs.declared.tests_file.Tests.{Tests}
use Rattle.replay.specs.Files.{IsFileOrNoMemory}
use Rattle.concolic_cli.specs.Replaying.{AreReal}

module _ (p : Program) (b : Limits) where
  -- ---- the line that is written

  pub real_next : (tests : List Test) (n : ℕ) (t : Test) → AreReal p b tests n → slice_get tests n ≡ Some t → Real (tested p b) t → AreReal p b tests (n + 1)
  real_next tests n t h e r = λ k u l f. by k u f (before_or k l)
    where
      before_or : (k : ℕ) → k < n + 1 → (k < n) ⊎ (k ≡ n)
      before_or k l = elim (ℕ_discrete k n) [ yes s ↦ inr s | no s ↦ inl (omega (arith, l, s)) ]

      by : (k : ℕ) (u : Test) → slice_get tests k ≡ Some u → (k < n) ⊎ (k ≡ n) → Real (tested p b) u
      by k u f (inl l) = h k u l f
      by k u f (inr s) = let g : slice_get tests n ≡ Some u = subst (λ m. slice_get tests m ≡ Some u) s f in let same : t ≡ u = cc (e, g) in subst (Real (tested p b)) same r

  later : (t : Test) (tests : List Test) (n : ℕ) → AreReal p b (t ∷ tests) (suc n) → AreReal p b tests n
  later t tests n h = λ k u l e. h (suc k) u (omega (arith, l)) e

  pub all_written : (total : ℕ) (tests : List Test) (lines : List ℕ) → length lines ≡ length tests → AreReal p b tests (length tests) → Written p b total tests lines (replayed_line total) 0
  all_written total [] [] e h = all_real
  all_written total [] (n ∷ lines) e h = absurd (omega (arith, e))
  all_written total (t ∷ tests) [] e h = absurd (omega (arith, e))
  all_written total (t ∷ tests) (n ∷ lines) e h = one_real t tests n lines (replayed_line total) 0 (h 0 t (omega arith) refl) (all_written total tests lines (omega (arith, e)) (later t tests (length tests) h))

  pub one_written : (total : ℕ) (tests : List Test) (lines : List ℕ) (k n : ℕ) (t : Test) → slice_get tests k ≡ Some t → slice_get lines k ≡ Some n → AreReal p b tests k → (Real (tested p b) t → ⊥) →
      Written p b total tests lines (differs_line n t (path_at p b t.input) (end_at p b t.input)) 8
  one_written total [] lines k n t e f h d = absurd (cc e)
  one_written total (u ∷ tests) [] k n t e f h d = absurd (cc f)
  one_written total (u ∷ tests) (m ∷ lines) zero n t e f h d =
      let same : t ≡ u = cc e in
      let line : n ≡ m = cc f in
      subst (λ x. Written p b total (u ∷ tests) (x ∷ lines) (differs_line n t (path_at p b t.input) (end_at p b t.input)) 8) line
      (subst (λ x. Written p b total (x ∷ tests) (n ∷ lines) (differs_line n t (path_at p b t.input) (end_at p b t.input)) 8) same (one_differs t tests n lines d))
  one_written total (u ∷ tests) (m ∷ lines) (suc k) n t e f h d =
      one_real u tests m lines _ 8 (h 0 u (omega arith) refl) (one_written total tests lines k n t e f (later u tests k h) d)

  -- ---- as the code finds it

  pub at_place : (tests : List Test) (n : ℕ) (x t : Test) → n < length tests → x ≡ get_or tests n t → slice_get tests n ≡ Some x
  at_place [] n x t h e = absurd (omega (arith, h))
  at_place (u ∷ tests) zero x t h e = ap Some (sym e)
  at_place (u ∷ tests) (suc n) x t h e = at_place tests n x t (omega (arith, h)) e

  pub line_at : (lines : List ℕ) (n x d : ℕ) → n < length lines → x ≡ get_or lines n d → slice_get lines n ≡ Some x
  line_at [] n x d h e = absurd (omega (arith, h))
  line_at (u ∷ lines) zero x d h e = ap Some (sym e)
  line_at (u ∷ lines) (suc n) x d h e = line_at lines n x d (omega (arith, h)) e

pub below : {A : Type 0} (l : List A) (n : ℕ) (x : A) → slice_get l n ≡ Some x → n < length l
below [] n x e = absurd (cc e)
below (y ∷ l) zero x e = omega arith
below (y ∷ l) (suc n) x e = let h = below l n x e in omega (arith, h)

-- a refused line is that of no tests file
pub not_file : (r : Result Tests TestsFault) (n : ℕ) (b : Limits) (all : List Test) (lines : List ℕ) → r ≡ Err (fault.Line n) → IsFileOrNoMemory r b all lines → ⊥
not_file r n b all lines e h = by_fault (subst (λ x. IsFileOrNoMemory x b all lines) e h)
  where
    by_fault : fault.Line n ≡ fault.NoMemory → ⊥
    by_fault f = cc f
