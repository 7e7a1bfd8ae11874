use Rattle.report_laws.proofs.Readable.{readable_items}
use Rattle.report_laws.proofs.walks.a_readable_walk_has_words.Goals as goal

pub returns : goal.returns
returns c = λ bytes entry p w source bounds real within read terms runs covered outcomes.
    record { bounds = bounds; items = readable_items bytes entry p w.bounds w.items source bounds real within read; terms = terms; runs = runs; covered = covered; outcomes = outcomes }
