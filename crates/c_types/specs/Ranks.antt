-- A number by which sites are in order.
use Rattle.std.specs.Prelude.{ℕ, ◌+◌, ◌*◌}
use Rattle.cc_model.specs.Sites.{Mark, kind_rank}

-- a token has less than 8 kinds of sites
abbrev pub place : Mark → ℕ
place m = 8 * m.token + kind_rank m.kind
