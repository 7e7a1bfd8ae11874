use Rattle.std.proofs.lemmas.Int.{to_z-of_z}
use mir.Syntax.{w64}
use Rattle.sym_run.proofs.ActLaws.{plain_cell, termed_cell, linear_cell}
use Rattle.sym_run.proofs.number_acts.formed_cell.Goals as goal

pub returns-in_ok-shadow-in-Linear-clause-value : goal.returns-in_ok-shadow-in-Linear-clause-value
returns-in_ok-shadow-in-Linear-clause-value c =
    linear_cell c.args.symbols.now c.add.new.self c.args.formed c.in-Linear.form _ c.args.number c.in_ok-shadow-in-Linear.shadow (to_z-of_z w64 c.args.number c.ranges.number) c.in-Linear.is c.in_ok-shadow-in-Linear.ensures.ok c.in_ok-shadow-in-Linear.ensures.shadow

pub returns-in-PlainNumber-clause-value : goal.returns-in-PlainNumber-clause-value
returns-in-PlainNumber-clause-value c = plain_cell c.args.symbols.now c.args.formed _ c.args.number (to_z-of_z w64 c.args.number c.ranges.number) c.in-PlainNumber.is

pub returns-in-Termed-clause-value : goal.returns-in-Termed-clause-value
returns-in-Termed-clause-value c = termed_cell c.args.symbols.now c.args.formed c.in-Termed.field-0 _ c.args.number (to_z-of_z w64 c.args.number c.ranges.number) c.in-Termed.is
