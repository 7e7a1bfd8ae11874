use Rattle.std.proofs.Common.{◌++◌, ◌∷◌, sym, subst}
use Rattle.cc_model.specs.declared.typing.Note.{Note}
use Rattle.cc_model.specs.Faults.{faults_among}
use Rattle.c_types.specs.FirstFault.{IsLeast}
use Rattle.c_types.proofs.least.with_note.Goals as goal

pub returns-in-Fault : goal.returns-in-Fault
returns-in-Fault c = λ l r h. subst (λ (n : Note). IsLeast (faults_among (n ∷ l) ++ r) c.earlier.result) (sym c.in-Fault.is) (c.earlier.ensures (faults_among l ++ r) h)
