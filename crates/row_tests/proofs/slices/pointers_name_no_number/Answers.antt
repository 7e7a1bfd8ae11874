use Rattle.cc_base.specs.Groups.{form_of}
use Rattle.row_tests.proofs.slices.pointers_name_no_number.Goals as goal

pub solve_slice-requires-clause-alternative : goal.solve_slice-requires-clause-alternative
unfolding form_of
solve_slice-requires-clause-alternative g c = (tt, tt)
