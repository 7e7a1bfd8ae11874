use Rattle.sym_run.proofs.FormedLaws.{made_ok, made_err}
use Rattle.sym_run.proofs.operations.or_wide.Goals as goal

pub returns-in-Ok : goal.returns-in-Ok
returns-in-Ok c = made_ok c.args.made c.in-Ok.form c.in-Ok.is

pub returns-in-Err : goal.returns-in-Err
returns-in-Err c = made_err c.args.made c.in-Err.field-0 c.in-Err.is
