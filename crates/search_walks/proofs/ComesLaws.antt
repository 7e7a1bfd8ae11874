-- What comes of a candidate, in parts.
use Rattle.std.proofs.Common.{◌≡◌, ℕ, suc, List, Option, Some, None, length, ap}
use Rattle.cc_base.specs.declared.inputs.Input.{Input}
use Rattle.search_walks.specs.declared.log.Log.{Log}
use Rattle.search_walks.specs.declared.log.Tried.{Tried}
use Rattle.search_walks.specs.Made.{RunOf}
use Rattle.search_base.specs.Setting.{Setting}
use Rattle.search_walks.specs.Steps.{TriedOne, no_input, past_budget, was_run}
use Rattle.search_walks.specs.Walks.{Candidate}

module _ (s : Setting) (u : Input) (c : Candidate) (old new : Option (List ℕ)) (l m : Log) where
  pub none_made : TriedOne s u c old new l m None → m.made ≡ l.made
  none_made (no_input n e f) = ap (λ x. x.made) f
  none_made (past_budget n b e f) = ap (λ x. x.made) f

  pub none_size : TriedOne s u c old new l m None → length (m.covered).items ≡ length (l.covered).items
  none_size (no_input n e f) = ap (λ x. length (x.covered).items) f
  none_size (past_budget n b e f) = ap (λ x. length (x.covered).items) f

  module _ (t : Tried) where
    pub run_made : TriedOne s u c old new l m (Some t) → m.made ≡ suc l.made
    run_made (was_run i same gives f) = (f.counted).made

    pub run_size : TriedOne s u c old new l m (Some t) → length (m.covered).items ≡ length (l.covered).items
    run_size (was_run i same gives f) = ((f.counted).covered).size

    pub run_is : TriedOne s u c old new l m (Some t) → RunOf s (t.run).trace (t.run).path
    run_is (was_run i same gives f) = f.run
