use Rattle.std.proofs.Common.{◌≡◌, ap, sym, ◌∙◌, true, false, List, ◌++◌}
use Rattle.std.specs.Option.{is_some}
use Rattle.cc_model.specs.Conditions.{without, same_outcome}
use Rattle.cc_model.specs.Traced as traced
use Rattle.sym_run.specs.declared.trace.Choice.{Choice}
use Rattle.sym_run.specs.Asks.{choice_of, choices_of}
use Rattle.sym_run.proofs.JournalLaws.{skip_atoms, skip_others, take_others, taken_first, taken_kept, taken_same}
use Rattle.sym_run.proofs.journal.Parted.put.Goals as goal

pub returns-then-not-same_outcome-clause-taken : goal.returns-then-not-same_outcome-clause-taken
returns-then-not-same_outcome-clause-taken c = λ rest. let e : same_outcome c.args.choice.outcome c.args.outcome ≡ false = sym c.same_outcome.ensures ∙ c.if-not-same_outcome.true in taken_same c.args.self.now.taken _ _ (skip_atoms c.args.outcome (choice_of c.args.choice) rest e)

pub returns-then-not-same_outcome-clause-others : goal.returns-then-not-same_outcome-clause-others
returns-then-not-same_outcome-clause-others c = λ rest. let e : same_outcome c.args.choice.outcome c.args.outcome ≡ false = sym c.same_outcome.ensures ∙ c.if-not-same_outcome.true in
    ap (λ (l : List Choice). choices_of l ++ without c.args.outcome rest) c.in_ok-push.ensures.ok ∙ skip_others c.args.outcome c.args.self.now.others c.args.choice rest e

pub returns-then-is_none-clause-taken : goal.returns-then-is_none-clause-taken
returns-then-is_none-clause-taken c = λ rest. let e : same_outcome c.args.choice.outcome c.args.outcome ≡ true = sym c.same_outcome.ensures ∙ c.if-not-same_outcome.false in let n : is_some c.args.self.now.taken ≡ false = c.if-is_none.ensures in taken_first c.args.self.now.taken c.args.outcome c.args.choice rest n e

pub returns-then-is_none-clause-others : goal.returns-then-is_none-clause-others
returns-then-is_none-clause-others c = λ rest. let e : same_outcome c.args.choice.outcome c.args.outcome ≡ true = sym c.same_outcome.ensures ∙ c.if-not-same_outcome.false in ap (λ (l : List traced.Choice). choices_of c.args.self.now.others ++ l) (take_others c.args.outcome (choice_of c.args.choice) rest e)

pub returns-else-is_none-clause-taken : goal.returns-else-is_none-clause-taken
returns-else-is_none-clause-taken c = λ rest. let n : is_some c.args.self.now.taken ≡ true = c.if-is_none.ensures in taken_kept c.args.self.now.taken _ _ n

pub returns-else-is_none-clause-others : goal.returns-else-is_none-clause-others
returns-else-is_none-clause-others c = λ rest. let e : same_outcome c.args.choice.outcome c.args.outcome ≡ true = sym c.same_outcome.ensures ∙ c.if-not-same_outcome.false in ap (λ (l : List traced.Choice). choices_of c.args.self.now.others ++ l) (take_others c.args.outcome (choice_of c.args.choice) rest e)
