-- How the tables of a program are made, from the last entry to the first.
use Rattle.std.specs.Prelude.{◌≡◌, ◌<◌, ◌≤◌, ◌⊎◌, ℕ, nat_eq, List, take, drop, length, slice_get, slice_set, Option, Some, None}
use Rattle.std.specs.List.{position_from}
use Rattle.cc_model.specs.declared.checked.Checked.{Checked}
use Rattle.cc_model.specs.declared.checked.Site.{Site}
use Rattle.cc_model.specs.declared.checked.SiteId.{SiteId}
use Rattle.cc_model.specs.declared.checked.SiteKind.{SiteKind}
use Rattle.cc_model.specs.declared.checked.SiteKind.TheVariants as site
use Rattle.cc_model.specs.CheckedProgram.{flat, cells_at, cells_of_all}
use Rattle.tac_lower.specs.declared.known.SitesAt.{SitesAt}
use Rattle.tac_lower.specs.Seen.{site_token}
use Rattle.tac_lower.specs.Tables.{site_in}

-- of a token without a site, where this number is no site's
abbrev pub no_sites : ℕ → SitesAt
no_sites n = record { decision = record { 0 = n }; divisor = record { 0 = n }; fit = record { 0 = n }; index = record { 0 = n }; access = record { 0 = n } }

-- the sites at a token, with this one of its kind
abbrev pub with_site : SiteKind → SiteId → SitesAt → SitesAt
with_site site.Decision i s = record { decision = i; divisor = s.divisor; fit = s.fit; index = s.index; access = s.access }
with_site site.Divisor i s = record { decision = s.decision; divisor = i; fit = s.fit; index = s.index; access = s.access }
with_site site.Fit i s = record { decision = s.decision; divisor = s.divisor; fit = i; index = s.index; access = s.access }
with_site site.Index i s = record { decision = s.decision; divisor = s.divisor; fit = s.fit; index = i; access = s.access }
with_site site.Access i s = record { decision = s.decision; divisor = s.divisor; fit = s.fit; index = s.index; access = i }

abbrev pub marked_if : Site → SiteId → Option SitesAt → List SitesAt → List SitesAt
marked_if s i None l = l
marked_if s i (Some at) l = slice_set l s.token (with_site s.kind i at)

-- the table with this site, where its token is in the table
abbrev pub marked : Site → SiteId → List SitesAt → List SitesAt
marked s i l = marked_if s i (slice_get l s.token) l

-- the tokens of the sites from number n on, and the number of tokens, are below the span
pub record IsSpan (c : Checked) (n span : ℕ) : Type 0 where
  pub lines : length c.lines < span
  pub tokens : (i : ℕ) (s : Site) → n ≤ i → slice_get c.sites i ≡ Some s → s.token < span

-- the table has each site from number n on at its token, and no site of another token
pub record AreMarked (c : Checked) (n : ℕ) (l : List SitesAt) : Type 0 where
  pub span : IsSpan c 0 (length l)
  pub sound : (kind : SiteKind) (k : ℕ) → k < length l → (site_token c kind (site_in kind (slice_get l k)) ≡ k) ⊎ (site_token c kind (site_in kind (slice_get l k)) ≡ length c.lines)
  pub complete : (i : ℕ) (s : Site) → n ≤ i → slice_get c.sites i ≡ Some s → site_token c s.kind (site_in s.kind (slice_get l s.token)) ≡ s.token

-- the table has the first number of each token, of the tokens from number n on
abbrev pub AreNumbered : List ℕ → ℕ → List (Option ℕ) → Type 0
AreNumbered tokens n l = (k : ℕ) → flat (slice_get l k) ≡ position_from (nat_eq k) n (drop n tokens)

-- the first cells of the first n globals, and how many cells these have
pub record AreFirst (c : Checked) (n : ℕ) (l : List ℕ) (sum : ℕ) : Type 0 where
  pub many : length l ≡ n
  pub each : (k : ℕ) → k < n → slice_get l k ≡ Some (length (cells_of_all c (take k c.globals)))
  pub all : sum ≡ length (cells_of_all c (take n c.globals))

-- each type from number n on has fewer than 2^32 cells
abbrev pub NarrowFrom : Checked → ℕ → Type 0
NarrowFrom c n = (k : ℕ) → n ≤ k → length (cells_at c k) < 4294967296
