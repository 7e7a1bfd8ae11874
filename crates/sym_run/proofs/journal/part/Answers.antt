use Rattle.std.proofs.Common.{◌≡◌, ap, sym, ◌∙◌, List, [], ◌++◌, rules}
use Rattle.std.proofs.lemmas.List.{append-nil}
use Rattle.cc_model.specs.Conditions.{atoms_of as atoms_among, without}
use Rattle.sym_run.specs.declared.trace.Choice.{Choice}
use Rattle.sym_run.specs.Asks.{choices_of}
use Rattle.sym_run.specs.Journals.{atoms_or}
use Rattle.sym_run.proofs.JournalLaws.{front_removed}
use Rattle.sym_run.proofs.journal.part.Goals as goal

pub loop-outcome-preserved : goal.loop-outcome-preserved
loop-outcome-preserved c =
    let front = front_removed c.loop-outcome.choices c.remove-choice.new.self c.remove-choice.result c.remove-choice.ensures.item c.remove-choice.ensures.rest in
    record {
      taken = c.in_ok-put.ensures.taken (choices_of c.remove-choice.new.self) ∙ ap (λ (l : List Choice). atoms_or c.loop-outcome.parts.taken (atoms_among c.args.outcome (choices_of l))) front ∙ c.loop-outcome.invariant.taken;
      others = c.in_ok-put.ensures.others (choices_of c.remove-choice.new.self) ∙ ap (λ (l : List Choice). choices_of c.loop-outcome.parts.others ++ without c.args.outcome (choices_of l)) front ∙ c.loop-outcome.invariant.others;
    }

pub returns-clause-taken : goal.returns-clause-taken
unfolding atoms_among
returns-clause-taken c =
    let e : c.loop-outcome.choices ≡ [] = search rules in
    sym (ap (λ (l : List Choice). atoms_or c.loop-outcome.parts.taken (atoms_among c.args.outcome (choices_of l))) e) ∙ c.loop-outcome.invariant.taken

pub returns-clause-others : goal.returns-clause-others
unfolding without
returns-clause-others c =
    let e : c.loop-outcome.choices ≡ [] = search rules in
    sym (append-nil (choices_of c.loop-outcome.parts.others)) ∙ sym (ap (λ (l : List Choice). choices_of c.loop-outcome.parts.others ++ without c.args.outcome (choices_of l)) e) ∙ c.loop-outcome.invariant.others
