use Rattle.cc_laws.proofs.Pointed.{points_to_cells}
use Rattle.cc_laws.proofs.programs.a_checked_program_points_to_cells.Goals as goal

pub returns : goal.returns
returns x = λ text tokens entry c fits ok read. points_to_cells c text tokens entry fits ok read
