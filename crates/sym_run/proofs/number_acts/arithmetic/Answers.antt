use Rattle.std.proofs.Common.{◌≡◌, ◌∙◌, sym, subst, rules, SFits, ℤ, to_z, of_z}
use Rattle.std.proofs.lemmas.Int.{to_z-of_z}
use mir.Syntax.{w64}
use Rattle.cc_model.specs.Plain.{apply}
use Rattle.cc_model.specs.Traced.{Formed}
use Rattle.sym_run.specs.Numbers.{op_of, IsKept, IsWord, form_at}
use Rattle.sym_run.proofs.FormedLaws.{kept_formed}
use Rattle.sym_run.proofs.NumberLaws.{word_fits, fitted_word}
use Rattle.sym_run.proofs.ActLaws.{arith_asks, word_cell}
use Rattle.sym_run.proofs.number_acts.arithmetic.Goals as goal

pub fit_asked-requires : goal.fit_asked-requires
fit_asked-requires c =
    let l = c.args.symbols.now in
    subst (λ (f : Formed). IsKept f) (sym c.formed_cells-formed.ensures) (kept_formed (op_of c.args.operation) (form_at l c.args.a) (form_at l c.args.b))

pub formed_cell-requires : goal.formed_cell-requires
formed_cell-requires c =
    let l = c.args.symbols.now in
    subst (λ (f : Formed). IsKept f) (sym c.formed_cells-formed.ensures) (kept_formed (op_of c.args.operation) (form_at l c.args.a) (form_at l c.args.b))

pub returns-clause-asked : goal.returns-clause-asked
returns-clause-asked c = arith_asks (op_of c.args.operation) c.args.symbols.now c.args.a c.args.b _ _ c.in_ok-asked.ensures c.formed_cells-formed.ensures

pub returns-clause-known : goal.returns-clause-known
returns-clause-known c = λ e.
    let o = op_of c.args.operation in
    let X = to_z w64 (of_z w64 c.number_of-x.result) in
    let Y = to_z w64 (of_z w64 c.number_of-y.result) in
    let x : X ≡ c.number_of-x.result = to_z-of_z w64 c.number_of-x.result (word_fits _ c.number_of-x.ensures.word) in
    let f : SFits w64 c.applied.result = search rules in
    let z : to_z w64 (of_z w64 c.applied.result) ≡ apply o X Y = to_z-of_z w64 c.applied.result f ∙ c.applied.ensures in
    let w : IsWord (apply o X Y) = fitted_word o X Y (subst (λ (v : ℤ). IsWord v) (sym x) c.number_of-x.ensures.word) (sym c.fitted-outcome.ensures ∙ e) in
    word_cell c.formed_cell.new.symbols c.in_ok-cell.cell _ c.in_ok-cell.ensures.known.0 c.in_ok-cell.ensures.known.1 (subst (λ (v : ℤ). IsWord v) (sym z) w)
