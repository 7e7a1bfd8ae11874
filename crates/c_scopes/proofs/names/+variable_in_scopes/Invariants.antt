use Rattle.std.proofs.Common.{length}
use Rattle.c_scopes.proofs.names.+variable_in_scopes.Given as goal

abbrev pub decreases-variable_in_scopes : goal.decreases-variable_in_scopes
decreases-variable_in_scopes l = length l.around.now
