-- The alternatives that the events of a run offer.
use Rattle.std.specs.Prelude.{ℕ, suc, List, [], ◌∷◌, ◌++◌, map}
use Rattle.cc_model.specs.declared.checked.SiteId.{SiteId}
use Rattle.sym_run.specs.declared.trace.Choice.{Choice}
use Rattle.sym_run.specs.declared.trace.Event.{Event}
use Rattle.search_walks.specs.declared.candidates.Candidate.{Candidate}

-- those of one event
abbrev pub offers_at : ℕ → SiteId → List Choice → List Candidate
offers_at k s os = map (λ o. record { event = k; site = s; outcome = o.outcome }) os

-- those of events, the first of which has the number k
abbrev pub offers_from : ℕ → List Event → List Candidate
offers_from k [] = []
offers_from k (e ∷ l) = offers_at k e.site e.others ++ offers_from (suc k) l
