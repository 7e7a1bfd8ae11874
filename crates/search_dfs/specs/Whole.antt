-- What the search as a whole owes.
use Rattle.std.specs.Prelude.{ℕ, ◌↔◌, Bool, List, [], ◌++◌, Option}
use Rattle.cc_base.specs.Paths.{Path, In, Pairwise}
use Rattle.cc_model.specs.Listing.{Sound, Licensed, Covered}
use Rattle.search_dfs.specs.Search.{State, below, start}
use Rattle.search_base.specs.Setting.{Setting, layer_of, base_of}
use Rattle.search_dfs.specs.declared.open.Open.{Open}
use Rattle.search_dfs.specs.Stack.{Does, Rest}
use Rattle.search_dfs.specs.Output.{Items, Out, Wrote, WroteSome}
use Rattle.search_dfs.specs.Turns.{levels_of, runs_of, Fits_open, Matches}
use Rattle.cc_base.specs.Limits.{Limits}
use Rattle.cc_base.specs.declared.inputs.Test.{Test}
use Rattle.cc_model.specs.Tested.{Term}
use Rattle.cc_model.specs.Listing.{WasRun, TermBefore}

module _ (p : Setting) (after : Option Path) (limit : ℕ) where
  -- what was written are the lines of a listing that is Sound, Licensed and Covered
  pub record Listed_whole (was now : Out) : Type 0 where
    pub items : Items
    pub wrote : Wrote p items was now
    pub sound : Sound after ((layer_of p).runs) items
    -- with the terms of its runs, in order, each once
    pub licensed : (b : Limits) (es : List Term) → Pairwise (TermBefore after (layer_of p)) es → ((e : Term) → In e es ↔ ((t : Test) × WasRun t items × In e ((layer_of p).terms t.input))) →
        Licensed after (layer_of p) limit (record { bounds = b; items = items; terms = es })
    pub covered : Covered after (layer_of p) items

  -- what was written is a first part of the lines of items that are Sound
  pub record Listed_part (was now : Out) : Type 0 where
    pub items : Items
    pub wrote : WroteSome p items was now
    pub sound : Sound after ((layer_of p).runs) items

  -- what was written, followed by whatever is still to come, is a search
  pub record Running (b : Open) (was now : Out) : Type 0 where
    pub items : Items
    pub wrote : Wrote p items was now
    pub fits : Fits_open p b
    pub state : State
    pub matches : Matches b state
    pub ahead : (cuts : Bool) (t : State) (a : Items) → Rest p after limit cuts (levels_of b) (runs_of b) state a t →
        Does p after limit cuts (below [] (base_of p)) start (items ++ a) t
