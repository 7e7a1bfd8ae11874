use Rattle.std.proofs.Common.{◌∙◌, sym}
use Rattle.cc_model.specs.Faults as faults
use Rattle.c_rules.proofs.StructLaws.{fault_here, no_fault_here}
use Rattle.c_rules.proofs.structs.has_fault.Goals as goal

pub returns-then-is_fault : goal.returns-then-is_fault
returns-then-is_fault c = λ text file. fault_here text file c.args.notes.now c.loop-note.note-index c.note-item.result (faults.has_fault text file c.args.notes.now) c.loop-note-test.true c.note-item.is
    (sym c.if-is_fault.true ∙ c.is_fault.ensures text file) (c.loop-note.invariant text file)

pub loop-note-preserved : goal.loop-note-preserved
loop-note-preserved c = λ text file. no_fault_here text file c.args.notes.now c.loop-note.note-index c.note-item.result (faults.has_fault text file c.args.notes.now) c.loop-note-test.true c.note-item.is
    (sym c.if-is_fault.false ∙ c.is_fault.ensures text file) (c.loop-note.invariant text file)
