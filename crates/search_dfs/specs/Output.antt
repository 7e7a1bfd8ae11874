-- What a search writes and counts.
use Rattle.std.specs.Prelude.{ℕ, ◌+◌, ◌≤◌, ◌≡◌, ◌⊎◌, ◌↔◌, ◌||◌, List, map, Option}
use Rattle.cc_base.specs.declared.inputs.Test.{Test}
use Rattle.cc_base.specs.Paths.{In}
use Rattle.cc_model.specs.Tested.{Term}
use Rattle.cc_model.specs.Listing.{Item, WasRun, count_by, is_test, is_run, is_spent, is_at_steps, is_stray, is_unrun}
use Rattle.cc_model.specs.Report.{item_lines, has_fault}
use Rattle.cc_outside.specs.Told.{appended, WritesPart}
use Rattle.search_dfs.specs.declared.tally.Tally.{Tally}
use Rattle.search_base.specs.Setting.{Setting, layer_of}
use Rattle.search_base.specs.Readable.{CanBeRead}
use Rattle.search_base.specs.Terms.{seen_term, InOrder}

abbrev pub Items : Type 0
Items = List Item

-- the bytes that were written, where they are told, the sink's faults, and the counts
pub record Out : Type 0 where
  pub bytes : Option (List ℕ)
  pub faults : ℕ
  pub tally : Tally

abbrev pub out : Option (List ℕ) → ℕ → Tally → Out
out b f t = record { bytes = b; faults = f; tally = t }

-- the items were counted, and the terms of their runs are among those found
pub record Tallied (p : Setting) (e : Items) (old new : Tally) : Type 0 where
  pub paths : new.paths ≡ old.paths + count_by is_test e
  pub runs : new.runs ≡ old.runs + count_by is_run e
  pub spent : new.spent ≡ old.spent + count_by is_spent e
  pub steps : new.steps ≡ old.steps + count_by is_at_steps e
  pub strays : new.strays ≡ old.strays + count_by is_stray e
  pub unrun : new.unrun ≡ old.unrun + count_by is_unrun e
  pub fault : new.fault ≡ old.fault || has_fault e
  pub terms : (x : Term) → In x (map seen_term (new.terms).items) ↔ (In x (map seen_term (old.terms).items) ⊎ ((t : Test) × WasRun t e × In x ((layer_of p).terms t.input)))
  pub order : InOrder (old.terms).items → InOrder (new.terms).items

-- the items are lines that were written, and they were counted
pub record Wrote (p : Setting) (e : Items) (old new : Out) : Type 0 where
  pub bytes : new.bytes ≡ appended old.bytes (item_lines e)
  pub faults : old.faults ≤ new.faults
  pub tally : Tallied p e old.tally new.tally
  pub few : (x : Item) → In x e → CanBeRead x

-- a first part of their lines was written
abbrev pub WroteSome : Setting → Items → Out → Out → Type 0
WroteSome p e old new = WritesPart old.bytes new.bytes (item_lines e)
