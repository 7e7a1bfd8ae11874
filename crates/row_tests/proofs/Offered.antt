-- Elements of lists, by their index.
use Rattle.std.proofs.Common.{ℕ, zero, suc, ◌<◌, ◌≡◌, List, [], ◌∷◌, inl, inr, length, map, get_or, ap, arith}
use Rattle.cc_base.specs.Paths.{In}
use Rattle.sym_run.specs.declared.trace.Choice.{Choice}

pub outcome_in : (l : List Choice) (k : ℕ) (x : Choice) → k < length l → x ≡ get_or l k x → In x.outcome (map (λ c. c.outcome) l)
outcome_in [] k x h e = absurd (omega (arith, h))
outcome_in (y ∷ l) zero x h e = inl (ap (λ (c : Choice). c.outcome) e)
outcome_in (y ∷ l) (suc k) x h e = inr (outcome_in l k x (omega (arith, h)) e)
