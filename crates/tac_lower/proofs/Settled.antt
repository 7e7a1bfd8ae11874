-- More instructions than are enough change nothing, so the run of a code is one.
use Rattle.std.proofs.Common.{◌≡◌, ℕ, zero, suc, ◌+◌, Bool, List, Option, Some, None, refl, sym, ap, ◌∙◌, subst, arith, slice_get}
use Rattle.cc_model.specs.Core.{Func}
use Rattle.cc_model.specs.Domain.{Domain}
use Rattle.cc_model.specs.Meaning.{Fixed, State, Ran, Done}
use Rattle.cc_model.specs.Instructions.{Instruction, Config, act_if, machine, from_entry, CodeRuns}

module _ (d : Domain) (x : Fixed) (is_zero : d.V → Bool) (first_of : ℕ → ℕ) (code : List Instruction) where
  abbrev pub St : Type 0
  St = State d.V d.D

  -- n instructions and then m more
  more : (n m : ℕ) (lost : Config d → Done d) (c : Config d) (s : St) → machine d x is_zero first_of code lost (n + m) c s ≡ machine d x is_zero first_of code (machine d x is_zero first_of code lost m) n c s
  unfolding machine
  more zero m lost c s = ap (λ k. machine d x is_zero first_of code lost k c s) (let e : 0 + m ≡ m = omega arith in e)
  more (suc n) m lost c s =
      let e : suc n + m ≡ suc (n + m) = omega arith in
      ap (λ k. machine d x is_zero first_of code lost k c s) e
      ∙ ap (λ k. act_if d x is_zero first_of (slice_get code c.pc) k c s) (λ i c' s'. more n m lost c' s' i)

  more_from : (n m : ℕ) (lost : Config d → Done d) (o : Option Func) (s : St) → from_entry d x is_zero first_of code lost (n + m) o s ≡ from_entry d x is_zero first_of code (machine d x is_zero first_of code lost m) n o s
  unfolding from_entry
  more_from n m lost None s = refl
  more_from n m lost (Some f) s = more n m lost _ s

  pub one_run : (s : St) (r r' : Ran d.E St (Unit {0})) → CodeRuns d x is_zero first_of code s r → CodeRuns d x is_zero first_of code s r' → r ≡ r'
  one_run s r r' p q =
      let lost : Config d → Done d = λ c s1. r in
      let o = slice_get (x.program).funcs (x.program).entry in
      let e : p.0 + q.0 ≡ q.0 + p.0 = omega arith in
      sym (p.1 (machine d x is_zero first_of code lost q.0)) ∙ sym (more_from p.0 q.0 lost o s) ∙ ap (λ k. from_entry d x is_zero first_of code lost k o s) e
      ∙ more_from q.0 p.0 lost o s ∙ q.1 (machine d x is_zero first_of code lost p.0)
