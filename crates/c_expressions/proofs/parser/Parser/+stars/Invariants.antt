-- The depth of the descent is bounded by the tokens that may still be opened.
use Rattle.std.proofs.Common.{◌-◌}
use Rattle.c_expressions.proofs.parser.Parser.+stars.Given as goal

abbrev pub decreases-stars : goal.decreases-stars
decreases-stars l = 201 - l.spot.level
