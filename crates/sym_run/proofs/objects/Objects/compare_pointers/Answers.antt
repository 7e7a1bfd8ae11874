use Rattle.std.proofs.Common.{◌∙◌, not, refl}
use Rattle.sym_run.specs.Beside.{value_of}
use Rattle.sym_run.specs.Numbers.{cmp_of}
use Rattle.sym_run.proofs.DecisionLaws.{told_differ, told_same}
use Rattle.sym_run.proofs.objects.Objects.compare_pointers.Goals as goal
use Rattle.sym_run.proofs.objects.Objects.compare_pointers.Goals.{then-differ, else-differ}

pub returns-clause-outcome : goal.returns-clause-outcome
returns-clause-outcome c = elim c.if-differ.branch [
  | then-differ w ↦ w.outcome-is ∙ w.decision_of-outcome.ensures ∙ told_differ (cmp_of c.args.comparison) c.same_pointer-same.result (not c.same_pointer-same.result) (value_of c.args.a.value) (value_of c.args.b.value) (c.is_unequal-differ.ensures ∙ w.if-differ.true) c.same_pointer-same.ensures refl
  | else-differ w ↦ w.outcome-is ∙ w.decision_of-outcome-else-differ.ensures ∙ told_same (cmp_of c.args.comparison) c.same_pointer-same.result (value_of c.args.a.value) (value_of c.args.b.value) (c.is_unequal-differ.ensures ∙ w.if-differ.false) c.same_pointer-same.ensures
]
