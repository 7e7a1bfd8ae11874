use Rattle.std.proofs.Common.{◌∙◌, sym, subst}
use Rattle.cc_model.specs.Traced.{Formed}
use Rattle.sym_run.specs.Numbers.{IsKept, form_at}
use Rattle.sym_run.proofs.FormedLaws.{kept_negated}
use Rattle.sym_run.proofs.NumberLaws.{fit_plain}
use Rattle.sym_run.proofs.ActLaws.{negate_asks, word_cell}
use Rattle.sym_run.proofs.number_acts.negate.Goals as goal

pub fit_asked-requires : goal.fit_asked-requires
fit_asked-requires c = subst (λ (f : Formed). IsKept f) (sym c.negated_cell-formed.ensures) (kept_negated (form_at c.args.symbols.now c.args.a))

pub formed_cell-requires : goal.formed_cell-requires
formed_cell-requires c = subst (λ (f : Formed). IsKept f) (sym c.negated_cell-formed.ensures) (kept_negated (form_at c.args.symbols.now c.args.a))

pub returns-clause-asked : goal.returns-clause-asked
returns-clause-asked c = negate_asks c.args.symbols.now c.args.a _ _ c.in_ok-asked.ensures c.negated_cell-formed.ensures

pub returns-clause-known : goal.returns-clause-known
returns-clause-known c = λ e. word_cell c.formed_cell.new.symbols c.in_ok-cell.cell _ c.in_ok-cell.ensures.known.0 c.in_ok-cell.ensures.known.1 (fit_plain _ (sym c.fit_of.ensures ∙ e))
