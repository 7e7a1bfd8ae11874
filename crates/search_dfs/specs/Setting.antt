-- What a search has from its start, what it writes, and what it counts.
use Rattle.std.specs.Prelude.{ℕ, zero, suc, ◌^◌, ◌<◌, ◌≤◌, ◌≡◌, ◌⊎◌, ◌↔◌, List, [], ◌∷◌, length, All}
use Rattle.cc_base.specs.declared.inputs.Input.{Input}
use Rattle.cc_base.specs.declared.outcomes.Outcome.{Outcome}
use Rattle.cc_base.specs.declared.outcomes.Outcome.TheVariants.{Zero}
use Rattle.cc_base.specs.Outcomes.{HasByte}
use Rattle.cc_base.specs.Paths.{Path, In, Ascend}
use Rattle.cc_model.specs.Tested.{never, spent, turned}
use Rattle.sym_run.specs.declared.trace.Trace.{Trace}
use Rattle.flip_solve.specs.Needed.{IsTraceFrom}
use Rattle.flip_solve.specs.declared.flipping.Turned as answer
use Rattle.flip_solve.specs.declared.flipping.Turned.TheVariants as turn
use Rattle.search_dfs.specs.Below.{Tells}
use Rattle.search_base.specs.Setting.{Setting, layer_of}

-- the outcome number k
abbrev pub own_at : ℕ → Path → Outcome
own_at k [] = Zero
own_at zero (o ∷ p) = o
own_at (suc k) (o ∷ p) = own_at k p

-- the outcomes of event k: the run's own and the alternatives, ascending
pub record ChoicesOf (s : Setting) (i : Input) (k : ℕ) (os : List Outcome) : Type 0 where
  pub ascend : Ascend os
  pub all : (o : Outcome) → In o os ↔ ((o ≡ own_at k (((layer_of s).runs).path i)) ⊎ In o ((layer_of s).others i k))
  pub few : length os ≤ 29

-- a run within the bounds, with its path; what its first n events offer may be missing
pub record TraceOf (s : Setting) (n : ℕ) (t : Trace) (p : Path) : Type 0 where
  pub within : ((layer_of s).runs).IsWithin t.input
  pub is_trace : IsTraceFrom n s.checked s.limits t.input t
  pub trace : Tells n s.checked s.limits t.input t
  pub path : p ≡ ((layer_of s).runs).path t.input
  pub end : t.end ≡ ((layer_of s).runs).end t.input
  pub short : length p ≤ s.limits.depth
  pub few : s.limits.depth ≤ 1024
  pub bytes : All HasByte p
  pub few_cells : length (t.input).cells < 10 ^ 18

-- what a solve answers at a prefix
abbrev pub Answered : Setting → Input → Path → answer.Turned → Type 0
Answered s u q turn.Never = (layer_of s).Answers u q never
Answered s u q turn.Spent = (layer_of s).Answers u q spent
Answered s u q (turn.Turned i) = (layer_of s).Answers u q turned × ((layer_of s).runs).IsWithin i × (layer_of s).Meets u q i
