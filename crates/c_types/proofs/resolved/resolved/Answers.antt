-- The parts are those of a checked program.
use Rattle.std.proofs.Common.{sym, subst}
use Rattle.cc_model.specs.Source.{text_at}
use Rattle.c_scopes.specs.Noted.{Tells}
use Rattle.c_types.proofs.Assembly.{checked_is}
use Rattle.c_types.proofs.resolved.resolved.Goals as goal

pub types_by_number-requires-clause-told : goal.types_by_number-requires-clause-told
types_by_number-requires-clause-told c =
    subst (λ z. Tells 0 z c.as_slice-4.result.now) (sym c.as_slice-3.ensures)
    (subst (λ z. Tells 0 c.args.reading.notes z) (sym c.as_slice-4.ensures) (subst (λ z. Tells 0 z c.in_ok-said.said) c.as_slice.ensures c.in_ok-said.ensures))

pub returns-clause-checked : goal.returns-clause-checked
returns-clause-checked c = λ name tested.
    let told = subst (λ z. Tells 0 c.args.reading.notes z) (sym c.as_slice-5.ensures) (subst (λ z. Tells 0 z c.in_ok-said.said) c.as_slice.ensures c.in_ok-said.ensures) in
    checked_is (text_at c.args.source.now c.args.tokens.now) c.args.tokens.now c.args.program.items c.as_slice-2.result.now name c.args.reading.file c.args.reading.notes c.args.reading.sites
    c.in_ok-types.types c.in_ok-names.names c.in_ok-lines.lines c.args.entry
    c.requires.read c.as_slice-2.ensures c.in_ok-types.ensures c.in_ok-names.ensures.count (c.in_ok-names.ensures.names c.args.reading.notes told) c.in_ok-lines.ensures tested
