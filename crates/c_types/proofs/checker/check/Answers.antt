-- What was read is the file, the notes and the sites of the program.
use Rattle.std.proofs.Common.{subst}
use Rattle.cc_model.specs.Source.{text_at}
use Rattle.c_types.specs.Resolving.{AreRead}
use Rattle.c_types.proofs.FirstFaults.{first_found, none_found}
use Rattle.c_types.proofs.checker.check.Goals as goal

pub returns-in-Some-clause-refused : goal.returns-in-Some-clause-refused
returns-in-Some-clause-refused c =
    let text = text_at c.args.source.now c.args.tokens.now in
    let read = subst (λ z. AreRead text c.args.tokens.now z c.in-Ok.reading.file c.in-Ok.reading.notes c.in-Ok.reading.sites) c.as_slice.ensures c.in-Ok.ensures.read in
    c.fault_of.ensures text c.args.program.items c.args.entry.now
    (first_found text c.args.program.items c.in-Some.found (c.in-Some.ensures text c.args.tokens.now c.args.program.items read))

pub accepted-requires-clause-read : goal.accepted-requires-clause-read
accepted-requires-clause-read c =
    let text = text_at c.args.source.now c.args.tokens.now in
    subst (λ z. AreRead text c.args.tokens.now z c.in-Ok.reading.file c.in-Ok.reading.notes c.in-Ok.reading.sites) c.as_slice.ensures c.in-Ok.ensures.read

pub accepted-requires-clause-well_typed : goal.accepted-requires-clause-well_typed
accepted-requires-clause-well_typed c =
    let text = text_at c.args.source.now c.args.tokens.now in
    let read = subst (λ z. AreRead text c.args.tokens.now z c.in-Ok.reading.file c.in-Ok.reading.notes c.in-Ok.reading.sites) c.as_slice.ensures c.in-Ok.ensures.read in
    none_found text c.args.program.items (c.in_default.ensures text c.args.tokens.now c.args.program.items read)
