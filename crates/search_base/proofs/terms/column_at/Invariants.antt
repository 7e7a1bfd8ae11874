use Rattle.std.proofs.Common.{◌≡◌, drop}
use Rattle.search_base.specs.Setting.{column_in}
use Rattle.search_base.proofs.terms.column_at.Given as goal

abbrev pub invariant-loop-site : goal.invariant-loop-site
invariant-loop-site l = column_in l.sites l.token ≡ column_in (drop l.site-index l.sites) l.token
