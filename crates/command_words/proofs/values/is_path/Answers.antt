use Rattle.std.proofs.Common.{⊎_elim, ◌∙◌}
use Rattle.std.proofs.lemmas.Slice.Eq.{bytes_eq-Decides}
use Rattle.std.specs.Prelude.{codes}
use Rattle.command_words.proofs.PathWords.{path_bytes}
use Rattle.command_words.proofs.values.is_path.Goals as goal

pub returns-then-not-is_empty-clause-no : goal.returns-then-not-is_empty-clause-no
returns-then-not-is_empty-clause-no c p h =
    ⊎_elim
    (λ e. let equal = (bytes_eq-Decides c.args.word.now (codes "~")).1 e in absurd (cc (equal, c.eq.ensures, c.if-eq.false)))
    (λ r. c.are_outcomes.ensures.no (r.1).0 (r.1).1 (c.as_bytes.ensures.value ∙ (r.1).2))
    (path_bytes c.args.word.now p h)
