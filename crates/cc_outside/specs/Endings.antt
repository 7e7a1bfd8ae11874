-- How a load ends.
use Rattle.std.specs.Prelude.{◌≡◌, ◌⊎◌, Result, Ok, Err}
use Rattle.cc_outside.specs.declared.loading.LoadFault.{LoadFault}
use Rattle.cc_outside.specs.declared.loading.LoadFault.TheVariants.{Failed, NoMemory}

-- the load answers this fault, or one of the two that come first; this project's own
abbrev pub EndsBy : {T : Type 0} → LoadFault → Result T LoadFault → Type 0
EndsBy fault (Ok bytes) = ⊥
EndsBy fault (Err e) = (e ≡ fault) ⊎ (e ≡ Failed) ⊎ (e ≡ NoMemory)
