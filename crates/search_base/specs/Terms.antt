-- The terms that runs found, in order.
use Rattle.std.specs.Prelude.{ℕ, ◌<◌, ◌≡◌, ◌⊎◌, List, map, option_map, unwrap_or, slice_get}
use Rattle.cc_base.specs.Paths.{Pairwise}
use Rattle.cc_model.specs.declared.checked.Checked.{Checked}
use Rattle.cc_model.specs.declared.checked.Site.{Site}
use Rattle.cc_model.specs.declared.terms.TermKind.{TermKind}
use Rattle.cc_model.specs.declared.terms.TermKind.TheVariants.{Product, Quotient, Index, Wide}
use Rattle.cc_model.specs.CheckedProgram.{core_of}
use Rattle.cc_model.specs.Tested.{Term as Found}
use Rattle.sym_run.specs.declared.trace.Term.{Term}
use Rattle.search_base.specs.declared.terms.FoundTerm.{FoundTerm}
use Rattle.search_base.specs.Setting.{column_in}

-- the token of a site
abbrev pub token_in : List Site → ℕ → ℕ
token_in sites i = unwrap_or (option_map (λ x. x.token) (slice_get sites i)) 0

-- a term by its line and column
abbrev pub found_at : Checked → Term → Found
found_at c t = record { line = (core_of c).line (token_in c.sites (t.site).0); col = column_in c.sites (token_in c.sites (t.site).0); kind = t.kind }

abbrev pub seen_term : FoundTerm → Found
seen_term t = record { line = t.line; col = t.col; kind = t.kind }

-- by line, then by column, then by the bytes of the kind
abbrev pub rank_of : TermKind → ℕ
rank_of Index = 0
rank_of Product = 1
rank_of Quotient = 2
rank_of Wide = 3

abbrev pub Comes : Found → Found → Type 0
Comes a c = (a.line < c.line) ⊎ ((a.line ≡ c.line) × ((a.col < c.col) ⊎ ((a.col ≡ c.col) × (rank_of a.kind < rank_of c.kind))))

-- the terms ascend
abbrev pub InOrder : List FoundTerm → Type 0
InOrder l = Pairwise Comes (map seen_term l)
