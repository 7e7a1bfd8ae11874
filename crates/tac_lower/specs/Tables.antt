-- What the tables of a program hold.
use Rattle.std.specs.Prelude.{◌≡◌, ℕ, nat_eq, take, length, slice_get, position, unwrap_or, Option, Some, None}
use Rattle.cc_model.specs.declared.checked.Checked.{Checked}
use Rattle.cc_model.specs.declared.checked.SiteId.{SiteId}
use Rattle.cc_model.specs.declared.checked.SiteKind.{SiteKind}
use Rattle.cc_model.specs.declared.checked.SiteKind.TheVariants as site
use Rattle.cc_model.specs.Resolve.{Facts}
use Rattle.cc_model.specs.CheckedProgram.{flat, facts_in, expression_tokens, cells_of_all}
use Rattle.tac_lower.specs.declared.known.SitesAt.{SitesAt}
use Rattle.tac_lower.specs.declared.known.Tables.{Tables}
use Rattle.tac_lower.specs.Seen.{site_token}
use Rattle.tac_lower.specs.Adding.{HasSite}

-- what is told of the tokens of function k
unfoldable pub facts_of : Checked → ℕ → Facts
facts_of c k = facts_in c k

abbrev pub site_for : SiteKind → SitesAt → SiteId
site_for site.Decision s = s.decision
site_for site.Divisor s = s.divisor
site_for site.Fit s = s.fit
site_for site.Index s = s.index
site_for site.Access s = s.access

-- the site of the kind, and the first of all where there is none
abbrev pub site_in : SiteKind → Option SitesAt → SiteId
site_in kind None = record { 0 = 0 }
site_in kind (Some s) = site_for kind s

pub record AreTables (c : Checked) (t : Tables) : Type 0 where
  pub numbers : (k : ℕ) → flat (slice_get t.numbers k) ≡ position (nat_eq k) (expression_tokens (c.program).items)
  pub sites : (kind : SiteKind) (k : ℕ) → HasSite c kind k → site_token c kind (site_in kind (slice_get t.sites k)) ≡ k
  pub cells : (n : ℕ) → unwrap_or (slice_get t.cells n) t.all_cells ≡ length (cells_of_all c (take n c.globals))
