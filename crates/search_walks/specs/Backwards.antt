-- The flow of a code backwards, and what is known of distances while they are found layer by layer.
use Rattle.std.specs.Prelude.{◌≡◌, ◌<◌, ◌↔◌, ℕ, Bool, List, length, Option, Some, None}
use Rattle.cc_model.specs.declared.checked.Checked.{Checked}
use Rattle.cc_model.specs.declared.checked.SiteId.{SiteId}
use Rattle.tac_lower.specs.declared.instr.Instr.{Instr}
use Rattle.tac_lower.specs.declared.instr.Instr.TheVariants as instr
use Rattle.tac_lower.specs.declared.tac.Tac.{Tac}
use Rattle.tac_lower.specs.Flow.{LeadsTo, OutcomeLeadsTo}
use Rattle.search_walks.specs.Distance.{entry, IsDecisionSite, DecidesAt, IsPlain}
use Rattle.search_walks.specs.Rows.{Has}

-- the site of a decision
abbrev pub decision_in : Instr → Option SiteId
decision_in (instr.Compare s o n a b) = Some s
decision_in (instr.Truth s n a) = Some s
decision_in _ = None

-- an outcome of the decision at a place, and where it leads
pub record Comes (t : Tac) (from site : ℕ) (side : Bool) (at outcome : ℕ) : Type 0 where
  pub leads : OutcomeLeadsTo t from side at
  pub number : outcome ≡ entry site side

module _ (c : Checked) (t : Tac) where
  -- an instruction without a decision leads to another
  pub record Edge (at before : ℕ) : Type 0 where
    pub plain : IsPlain c t before
    pub leads : LeadsTo t before at

  -- the instruction at a place is a decision of the site
  pub record DecisionAt (at : ℕ) (site : SiteId) : Type 0 where
    pub decides : DecidesAt c t at site.0

  -- a decision of a decision site
  pub record IsDecision (site at : ℕ) : Type 0 where
    pub is_site : IsDecisionSite c site
    pub decides : DecidesAt c t at site

  -- an outcome of a decision leads to an instruction
  pub record Arrives (at outcome : ℕ) : Type 0 where
    pub from : ℕ
    pub site : ℕ
    pub side : Bool
    pub decision : IsDecision site from
    pub comes : Comes t from site side at outcome

  -- the flow of the first instructions, backwards
  pub record FlowUpTo (k : ℕ) (before outcomes decisions : List (List ℕ)) : Type 0 where
    pub before_places : length before ≡ length t.code
    pub outcomes_places : length outcomes ≡ length t.code
    pub decisions_places : length decisions ≡ length c.sites
    pub edges : (at b : ℕ) → Has before at b ↔ ((b < k) × Edge at b)
    pub arrives : (at o : ℕ) → Has outcomes at o ↔ ((x : Arrives at o) × (x.from < k))
    pub decides : (s at : ℕ) → Has decisions s at ↔ ((at < k) × IsDecision s at)
