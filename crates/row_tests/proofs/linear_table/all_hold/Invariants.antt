use Rattle.std.proofs.Common.{◌-◌, length}
use Rattle.row_tests.proofs.linear_table.all_hold.Given as goal

abbrev pub decreases-atoms : goal.decreases-atoms
decreases-atoms l = length l.row - l.at
