use Rattle.source_laws.proofs.TypedBodies.{typed_once}
use Rattle.source_laws.proofs.a_type_is_said_once.Goals as goal

pub returns : goal.returns
returns c = typed_once
