use Rattle.std.proofs.Common.{length}
use Rattle.c_rules.proofs.declarators.+in_scope.Given as goal

abbrev pub decreases-in_scope : goal.decreases-in_scope
decreases-in_scope l = length l.around.now
