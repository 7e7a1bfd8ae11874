-- A run of code goes on by one instruction after the other, to its end.
use Rattle.std.proofs.Common.{◌≡◌, ℕ, suc, ◌+◌, Bool, List, [], ◌++◌, Some, slice_get, refl, sym, ap, ◌∙◌, arith, append_assoc}
use Rattle.cc_base.specs.declared.ends.End.{End}
use Rattle.cc_model.specs.Core.{Func}
use Rattle.cc_model.specs.Domain.{Domain}
use Rattle.cc_model.specs.Meaning.{Entry, Fixed, State, over, Ran, Done, prepend}
use Rattle.cc_model.specs.Instructions.{Instruction, Config, machine, from_entry, CodeRuns}
use Rattle.tac_lower.proofs.Settled.{one_run}
use Rattle.sym_run.specs.Coming.{GoesOn, EndsWith, ComesTo}

module _ (d : Domain) (x : Fixed) (is_zero : d.V → Bool) (first_of : ℕ → ℕ) (code : List Instruction) (s0 : State d.V d.D) where
  abbrev St : Type 0
  St = State d.V d.D

  abbrev Log : Type 0
  Log = List (Entry d.E)

  -- from the first instruction of the entry
  pub comes_begin : (f : Func) → slice_get (x.program).funcs (x.program).entry ≡ Some f → ComesTo d x is_zero first_of code s0 [] (record { pc = first_of (x.program).entry; temps = λ m. d.nil; stack = [] }) s0
  unfolding from_entry prepend
  comes_begin f e = (0, λ lost n. ap (λ o. from_entry d x is_zero first_of code lost (0 + n) o s0) e ∙ (let z : 0 + n ≡ n = omega arith in ap (λ m. machine d x is_zero first_of code lost m (record { pc = first_of (x.program).entry; temps = λ m. d.nil; stack = [] }) s0) z))

  twice : (l m : Log) (r : Ran d.E St (Unit {0})) → prepend d l (prepend d m r) ≡ prepend d (l ++ m) r
  unfolding prepend
  twice l m r = ap (λ z. (let q : Ran d.E St (Unit {0}) = record { log = z; result = r.result } in q)) (sym (append_assoc l m r.log))

  pub comes_on : (log l : Log) (c c' : Config d) (s s' : St) → ComesTo d x is_zero first_of code s0 log c s → GoesOn d x is_zero first_of code c s l c' s' → ComesTo d x is_zero first_of code s0 (log ++ l) c' s'
  comes_on log l c c' s s' p g = (
    suc p.0,
    λ lost n.
        (let e : suc p.0 + n ≡ p.0 + suc n = omega arith in ap (λ m. from_entry d x is_zero first_of code lost m (slice_get (x.program).funcs (x.program).entry) s0) e)
        ∙ p.1 lost (suc n) ∙ ap (prepend d log) (g lost n) ∙ twice log l (machine d x is_zero first_of code lost n c' s'),
  )

  -- the run is what was logged, and the end
  pub comes_over : (log l : Log) (c : Config d) (s s' : St) (e : End) (r : Ran d.E St (Unit {0})) → ComesTo d x is_zero first_of code s0 log c s → EndsWith d x is_zero first_of code c s l e s' → CodeRuns d x is_zero first_of code s0 r → r ≡ record { log = log ++ l; result = over e s' }
  unfolding prepend
  comes_over log l c s s' e r p g runs =
      one_run d x is_zero first_of code s0 r (record { log = log ++ l; result = over e s' }) runs (p.0 + 1, λ lost. p.1 lost 1 ∙ ap (prepend d log) (g lost 0))
