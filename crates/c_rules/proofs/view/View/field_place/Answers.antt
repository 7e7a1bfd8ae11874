use Rattle.std.proofs.Common.{[], slice_get, unwrap_or}
use Rattle.c_rules.proofs.FirstLemmas.{place_within}
use Rattle.c_rules.proofs.view.View.field_place.Goals as goal

pub returns-clause-within : goal.returns-clause-within
returns-clause-within c = place_within c.args.name.now (unwrap_or (slice_get c.args.self.now.file.now.structs c.args.number) []) c.field_found.result c.field_found.ensures
