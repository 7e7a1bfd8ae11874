-- The candidate of least distance.
use Rattle.std.specs.Prelude.{◌≡◌, ◌<◌, ◌≤◌, ℕ, Bool, List, length, Option, Some, None, slice_get, nat_lt, if◌then◌else◌}
use Rattle.cc_model.specs.declared.checked.Checked.{Checked}
use Rattle.search_walks.specs.declared.candidates.Candidate.{Candidate as Offer}
use Rattle.search_walks.specs.Distance.{entry, IsDecisionSite}
use Rattle.search_walks.specs.Deciding.{side_of}
use Rattle.search_base.specs.Terms.{token_in}

-- the least number of which Q holds, or that there is none
abbrev pub IsLeast : (ℕ → Type 0) → Option ℕ → Type 0
IsLeast Q None = (n : ℕ) → Q n → ⊥
IsLeast Q (Some d) = Q d × ((n : ℕ) → Q n → d ≤ n)

-- the lesser of two distances
abbrev pub lesser : Option ℕ → Option ℕ → Option ℕ
lesser None b = b
lesser (Some a) None = Some a
lesser (Some a) (Some b) = if nat_lt b a then Some b else Some a

-- the place and the distance of the nearest so far, with one more
abbrev pub nearer : Option (ℕ × ℕ) → ℕ → Option ℕ → Option (ℕ × ℕ)
nearer found at None = found
nearer None at (Some d) = Some (at, d)
nearer (Some (i, m)) at (Some d) = if nat_lt d m then Some (at, d) else Some (i, m)

module _ (c : Checked) (v : List (Option ℕ)) where
  -- the outcome of a decision site of the token has this distance
  pub record IsAtSite (token : ℕ) (side : Bool) (site d : ℕ) : Type 0 where
    pub is_site : IsDecisionSite c site
    pub token_is : token_in c.sites site ≡ token
    pub distance : slice_get v (entry site side) ≡ Some (Some d)

  -- that of one of the first sites
  pub record IsAtToken (token : ℕ) (side : Bool) (k d : ℕ) : Type 0 where
    pub site : ℕ
    pub below : site < k
    pub at : IsAtSite token side site d

  -- a decision site of the candidate's token has this distance at the candidate's outcome
  pub record IsAtOffer (x : Offer) (d : ℕ) : Type 0 where
    pub side : Bool
    pub is_decision : IsDecisionSite c (x.site).0
    pub outcome : x.outcome ≡ side_of side
    pub among : IsAtToken (token_in c.sites (x.site).0) side (length c.sites) d

  -- the candidate at a place
  pub record IsAtPlace (cs : List Offer) (i d : ℕ) : Type 0 where
    pub offer : Offer
    pub is : slice_get cs i ≡ Some offer
    pub at : IsAtOffer offer d

-- the first place of least distance among the first places, with its distance
abbrev pub IsFirstUpTo : (ℕ → ℕ → Type 0) → ℕ → Option (ℕ × ℕ) → Type 0
IsFirstUpTo At k None = (i d : ℕ) → i < k → At i d → ⊥
IsFirstUpTo At k (Some (j, d)) = (j < k) × At j d × ((i e : ℕ) → i < k → At i e → (d ≤ e) × (i < j → d < e))

-- the first place of least distance
abbrev pub IsFirst : (ℕ → ℕ → Type 0) → Option ℕ → Type 0
IsFirst At None = (i d : ℕ) → At i d → ⊥
IsFirst At (Some j) = (d : ℕ) × At j d × ((i e : ℕ) → At i e → (d ≤ e) × (i < j → d < e))
