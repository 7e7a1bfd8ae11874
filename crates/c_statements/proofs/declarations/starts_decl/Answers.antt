use Rattle.std.proofs.Common.{add-one, ◌∙◌, sym, ◌+◌}
use Rattle.cc_model.specs.Spots.{kind_at, shallow}
use Rattle.c_expressions.specs.Shown.{place}
use Rattle.c_statements.proofs.StmtSteps.{starts_int, starts_struct, starts_alias, starts_other}
use Rattle.c_statements.proofs.declarations.starts_decl.Goals as goal

pub returns-in-Int : goal.returns-in-Int
returns-in-Int c =
    starts_int (kind_at c.args.parser.now.tokens.now) shallow (place c.args.spot) (sym c.kind.ensures.value ∙ c.in-Int.ensures.here)

pub returns-in-Struct : goal.returns-in-Struct
returns-in-Struct c =
    starts_struct (kind_at c.args.parser.now.tokens.now) shallow (place c.args.spot) (sym c.kind.ensures.value ∙ c.in-Struct.ensures.here)

pub returns-in-Alias : goal.returns-in-Alias
returns-in-Alias c =
    starts_alias (kind_at c.args.parser.now.tokens.now) shallow (place c.args.spot) (c.args.spot.at + 1) c.is_declared.result (add-one c.args.spot.at) (sym c.kind.ensures.value ∙ c.in-Alias.ensures.here) (rw c.kind-in-Alias.ensures.value at c.is_declared.ensures.value)

pub returns-in-Other : goal.returns-in-Other
returns-in-Other c =
    starts_other (kind_at c.args.parser.now.tokens.now) shallow (place c.args.spot) (rw c.kind.ensures.value at c.in-Other.ensures.here)
