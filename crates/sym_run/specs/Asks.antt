-- What an event asks, as plain data.
use Rattle.std.specs.Prelude.{List, map}
use Rattle.cc_model.specs.Traced as traced
use Rattle.cc_model.specs.Traced.{asks_nothing, one_of, term}
use Rattle.sym_expr.specs.AtomsSeen.{atoms_of}
use Rattle.sym_run.specs.declared.trace.Choice.{Choice}
use Rattle.sym_run.specs.declared.asked.Asked.{Asked}
use Rattle.sym_run.specs.declared.asked.Asked.TheVariants.{Nothing, OneOf, Term}

abbrev pub choice_of : Choice → traced.Choice
choice_of c = record { outcome = c.outcome; atoms = atoms_of c.atoms }

abbrev pub choices_of : List Choice → List traced.Choice
choices_of l = map choice_of l

abbrev pub asked_of : Asked → traced.Asked
asked_of Nothing = asks_nothing
asked_of (OneOf l) = one_of (choices_of l)
asked_of (Term k) = term k
