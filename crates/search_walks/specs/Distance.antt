-- The flow distance of the outcomes of decisions. The measure is this project's own.
use Rattle.std.specs.Prelude.{◌≡◌, ◌≤◌, ℕ, suc, ◌+◌, ◌*◌, Bool, true, false, List, length, Option, Some, None, slice_get}
use Rattle.cc_model.specs.declared.checked.Checked.{Checked}
use Rattle.cc_model.specs.declared.checked.Site.{Site}
use Rattle.cc_model.specs.declared.checked.SiteId.{SiteId}
use Rattle.cc_model.specs.declared.checked.SiteKind.TheVariants.{Decision}
use Rattle.tac_lower.specs.declared.instr.Instr.{Instr}
use Rattle.tac_lower.specs.declared.tac.Tac.{Tac}
use Rattle.tac_lower.specs.Flow.{site_in, decided, LeadsTo, OutcomeLeadsTo}

-- where an outcome of a site stands in a list with two entries for each site, F and then T
abbrev pub entry : ℕ → Bool → ℕ
entry s false = 2 * s
entry s true = 2 * s + 1

module _ (c : Checked) where
  abbrev pub IsDecisionSite : ℕ → Type 0
  IsDecisionSite s = (x : Site) × (slice_get c.sites s ≡ Some x) × (x.kind ≡ Decision)

  module _ (t : Tac) where
    -- the instruction at a place is a decision of the site
    abbrev pub DecidesAt : ℕ → ℕ → Type 0
    DecidesAt at s = (i : Instr) × (n : ℕ) × (slice_get t.code at ≡ Some i) × (decided i ≡ Some n) × (id : SiteId) × (site_in i ≡ Some id) × (id.0 ≡ s)

    -- the instruction at a place is no decision
    abbrev pub IsPlain : ℕ → Type 0
    IsPlain at = (i : Instr) × (slice_get t.code at ≡ Some i) × (decided i ≡ None)

    -- flow edges lead from one place to the other, with no decision before the last
    pub data Flows : ℕ → ℕ → Type 0 where
      here : (at : ℕ) → Flows at at
      on : (at next to : ℕ) → IsPlain at → LeadsTo t at next → Flows next to → Flows at to

    -- behind an outcome of a decision of one site, the next decision can be one of the other site
    pub record IsNext (s : ℕ) (side : Bool) (later : ℕ) : Type 0 where
      pub at : ℕ
      pub decides : DecidesAt at s
      pub start : ℕ
      pub leads : OutcomeLeadsTo t at side start
      pub to : ℕ
      pub flows : Flows start to
      pub next : DecidesAt to later

    module _ (covered : List Bool) where
      -- with so many further decisions, flow edges lead from an outcome to one that isn't covered
      pub data Walk : ℕ → ℕ → Bool → Type 0 where
        ends : (s : ℕ) (side : Bool) → IsDecisionSite s → slice_get covered (entry s side) ≡ Some false → Walk 0 s side
        goes : (n s later : ℕ) (side outcome : Bool) → IsDecisionSite s → IsNext s side later → Walk n later outcome → Walk (suc n) s side

      -- the least number of further decisions, or that there is no such walk
      abbrev pub IsDistance : ℕ → Bool → Option ℕ → Type 0
      IsDistance s side None = (n : ℕ) → Walk n s side → ⊥
      IsDistance s side (Some d) = Walk d s side × ((n : ℕ) → Walk n s side → d ≤ n)

      -- the distances of all outcomes of all sites
      pub record AreDistances (v : List (Option ℕ)) : Type 0 where
        pub all : length v ≡ 2 * length c.sites
        pub each : (s : ℕ) (side : Bool) (d : Option ℕ) → slice_get v (entry s side) ≡ Some d → IsDistance s side d
