-- What comes of a replay.
use Rattle.std.specs.Prelude.{◌≡◌, All}
use Rattle.cc_base.specs.declared.inputs.Test.{Test}
use Rattle.cc_base.specs.Limits.{Limits}
use Rattle.cc_base.specs.Outcomes.{HasByte}
use Rattle.cc_model.specs.Core.{Program}
use Rattle.cc_model.specs.Runs.{path_at, end_at}
use Rattle.cc_model.specs.Tested.{Real, tested}
use Rattle.replay.specs.declared.replayed.Replayed.{Replayed}
use Rattle.replay.specs.declared.replayed.Replayed.TheVariants.{Same, Differs}

-- the path that is told has bytes
abbrev pub HasBytes : Replayed → Type 0
HasBytes Same = Unit {0}
HasBytes (Differs path e) = All HasByte path

-- Same where the test is real; else the path and the end of its input's run
abbrev pub Replays : Program → Limits → Test → Replayed → Type 0
Replays p b t Same = Real (tested p b) t
Replays p b t (Differs path e) = (Real (tested p b) t → ⊥) × (path ≡ path_at p b t.input) × (e ≡ end_at p b t.input)
